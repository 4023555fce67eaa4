-- What a look-up of a line finds.
use Rattle.std.specs.Prelude.{IfNone}
use Rattle.std.proofs.Common.{◌≡◌, ℕ, nat_lt, not, Option, Some, None, List, sym, subst}
use Rattle.nio_base.specs.declared.limits.Limits.{Limits}
use Rattle.nio_base.specs.declared.numbers.CallerNo.{CallerNo}
use Rattle.nio_base.specs.declared.numbers.ChanId.{ChanId}
use Rattle.nio_base.specs.declared.numbers.KeyNo.{KeyNo}
use Rattle.nio_base.specs.declared.numbers.SelNo.{SelNo}
use Rattle.nio_history.proofs.PassViews.{selector_after, channel_after, key_after}
use Rattle.nio_history.specs.Conditions.{IsCaller}
use Rattle.nio_history.specs.PassViews.{PassView, done_between, ActsClause, HasNoPin}
use Rattle.nio_history.specs.declared.act.Act.{Act}
use Rattle.nio_language.specs.WordRows.{EachName, by_names, word_row}
use Rattle.nio_language.specs.declared.call.Call.{Call}
use Rattle.nio_language.specs.declared.reply.Reply.{Reply}
use Rattle.nio_language.specs.declared.reply.Reply.TheVariants as reply
use Rattle.nio_language.specs.declared.word_row.LineName.{LineName}
use Rattle.nio_language.specs.declared.word_row.LineName.TheVariants.{Caller, Selector, Channel, Key}
use Rattle.nio_language.specs.declared.word_row.LineNames.{LineNames}
pub use Rattle.nio_orderly.proofs.LookUps.{selector_found}
use Rattle.nio_orderly.proofs.LookUps.{found_is}
use Rattle.nio_serial.specs.Documented.{Progress, nothing_yet}
use Rattle.nio_serial.specs.Lines.{Said, refused, if_name, if_named}
use Rattle.nio_sole.specs.Named.{HasName, HasNames, Finds, after_names}
use Rattle.nio_steps.proofs.CallLaws.{left_more, left_start}
use Rattle.nio_steps.specs.Calls.{PartClause}
use Rattle.nio_steps.specs.KeyCalls.{find_channel_plan, find_plan}
use Rattle.nio_steps.specs.Names.{channel, channel_of}
use Rattle.nio_steps.specs.Plan.{Plan}
use Rattle.nio_steps.specs.Runs.{Completes}
use Rattle.nio_words.specs.Passes.{IsReady, limits_of}
use Rattle.nio_words.specs.Views.{view}
use Rattle.nio_words.specs.declared.words.Pass.{Pass}
use Rattle.nio_words.specs.declared.words.Words.{Words}

-- ---- a look-up that finds something finds what it looked for

pub channel_found : (l : Limits) (n serial : ℕ) (acts : List Act) (c : ChanId)
    → Completes (find_channel_plan l n serial) acts (Some c) → c ≡ channel_of (channel n) serial
unfolding find_channel_plan
channel_found l n serial acts c run =
    found_is (not (nat_lt n l.channels)) _ _ (channel_of (channel n) serial) c acts run

pub key_found : (l : Limits) (s : SelNo) (i serial : ℕ) (acts : List Act) (k : KeyNo)
    → Completes (find_plan l s i serial) acts (Some k) → k ≡ record { sel = s; index = i; serial = serial }
unfolding find_plan
key_found l s i serial acts k run =
    found_is (not (nat_lt i l.keys)) _ _ (record { sel = s; index = i; serial = serial }) k acts run

-- ---- by the word of the line

pub names_of : {w : Words} {p q : Pass} {me : CallerNo} (word : Call) {names : LineNames} {missing : Option Reply}
    → (word_row word).names ≡ names
    → Finds (λ now plan. by_names (if_name (limits_of w) now) names plan) (λ pass. EachName (HasName pass) names) w p q
    me missing
    → Finds (λ now plan. if_named (limits_of w) now word plan) (λ pass. HasNames pass word) w p q me missing
unfolding if_named
names_of {w = w} {p = p} {q = q} {me = me} word {missing = missing} is finds =
    subst (λ (x : LineNames). Finds (λ now plan. by_names (if_name (limits_of w) now) x plan)
    (λ pass. EachName (HasName pass) x) w p q me missing) (sym is) finds

-- what was there is there still
pub name_after : {me : CallerNo} {acts : List Act} {old new : PassView} (a : LineName) → ActsClause me acts old new
    → HasName old a → HasName new a
name_after (Caller n) clause has = subst (λ (l : Limits). IsCaller l n) (sym clause.limits) has
name_after (Selector s) clause has = selector_after clause has
name_after (Channel c) clause has = channel_after clause has
name_after (Key s k) clause has = key_after clause has

-- ---- look-ups one after the other

-- what is missing of the first is missing
pub missing_first : {w : Words} {p q : Pass} {me : CallerNo} {First Second : Progress → Plan Said → Plan Said}
    {A B : PassView → Type 0} {r : Reply}
    → Finds First A w p q me (Some r) → Finds (λ now plan. First now (Second now plan)) B w p q me (Some r)
missing_first {Second = Second} first =
    record {
      call = λ now plan. first.call now (Second now plan);
      ready = first.ready;
      unpinned = first.unpinned;
      named = tt;
    }

if_both : {B C : Type 0} (missing : Option Reply) → (B → C) → IfNone missing B → IfNone missing C
if_both None both b = both b
if_both (Some r) both b = tt

-- both look-ups
pub finds_both : {w : Words} {p q r : Pass} {me : CallerNo} {First Second : Progress → Plan Said → Plan Said}
    {A B C : PassView → Type 0} {missing : Option Reply}
    → Finds First A w p q me None → Finds Second B w q r me missing
    → (ActsClause me (done_between me (view w q) (view w r)) (view w q) (view w r) → A (view w q) → B (view w r)
    → C (view w r))
    → Finds (λ now plan. First now (Second now plan)) C w p r me missing
finds_both {w = w} {q = q} {r = r} {Second = Second} {missing = missing} first second both = record {
  call = λ now plan. left_more (first.call now (Second now plan)) (second.call now plan);
  ready = second.ready;
  unpinned = second.unpinned;
  named = if_both missing (both (second.call nothing_yet (refused nothing_yet reply.NoKey)).acts first.named)
      second.named;
}

-- no look-up
pub finds_nothing : {w : Words} {p : Pass} {me : CallerNo} {look_ups : Progress → Plan Said → Plan Said}
    {Named : PassView → Type 0} {missing : Option Reply}
    → IsReady w p me → HasNoPin (view w p) me
    → ((now : Progress) (plan : Plan Said) → look_ups now plan ≡ after_names now plan missing)
    → IfNone missing (Named (view w p))
    → Finds look_ups Named w p p me missing
finds_nothing {w = w} {p = p} {me = me} {look_ups = look_ups} {missing = missing} ready unpinned same named = record {
  call = λ now plan. subst (PartClause me (look_ups now plan) (view w p) (view w p)) (same now plan)
      (left_start me (look_ups now plan) (view w p) ready.pass.legal);
  ready = ready;
  unpinned = unpinned;
  named = named;
}
