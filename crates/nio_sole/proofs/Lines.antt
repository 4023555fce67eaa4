-- What stands between two lines stands after each line, and after a call that lacked memory.
use Rattle.std.proofs.Common.{◌≡◌, ℕ, nat_lt, Bool, true, false, not, if◌then◌else◌, Option, Some, None, refl, sym}
use Rattle.std.proofs.Common.{subst}
use Rattle.nio_base.specs.Limits.{IsFit}
use Rattle.nio_base.specs.declared.limits.Limits.{Limits}
use Rattle.nio_base.specs.declared.numbers.CallerNo.{CallerNo}
use Rattle.nio_base.specs.declared.numbers.KeyNo.{KeyNo}
use Rattle.nio_base.specs.declared.numbers.SelNo.{SelNo}
use Rattle.nio_history.specs.Histories.{mine}
use Rattle.nio_history.specs.PassViews.{PassView, known}
use Rattle.nio_history.specs.Sets.{was_opened, was_published}
use Rattle.nio_history.specs.State.{State}
use Rattle.nio_language.proofs.KeptNames.{kept_by_names}
use Rattle.nio_language.specs.WordRows.{word_row}
use Rattle.nio_language.specs.declared.call.Call.{Call}
use Rattle.nio_language.specs.declared.call.Call.TheVariants as call
use Rattle.nio_language.specs.declared.reply.Reply.{Reply}
use Rattle.nio_language.specs.declared.reply.Reply.TheVariants as reply
use Rattle.nio_language.specs.declared.word_row.LineName.{LineName}
use Rattle.nio_language.specs.declared.word_row.LineName.TheVariants.{Caller, Selector, Channel, Key}
use Rattle.nio_plain.specs.ScriptState.{ScriptState}
use Rattle.nio_plain.specs.Seq.{seq, call_of}
use Rattle.nio_plain.specs.Seq.Replies.{unchanged}
use Rattle.nio_plain.specs.Seq.Listing.{listed, keys_call, selected_call}
use Rattle.nio_plain.specs.declared.rules.Rules.TheVariants.{Now}
use Rattle.nio_serial.specs.Between.{IsBetween}
use Rattle.nio_serial.specs.Documented.{Progress, documented}
use Rattle.nio_serial.proofs.Histories.{pass-lines-amount}
use Rattle.nio_serial.specs.Lines.{Said, refused, call_plan, if_name, if_named, line_plan}
use Rattle.nio_sole.proofs.Memory.{Rests, if-rests, found-rests, selector-rests}
use Rattle.nio_sole.proofs.Others.{line_made}
use Rattle.nio_sole.specs.Made.{HasMade}
use Rattle.nio_steps.specs.Calls.{CallClause}
use Rattle.nio_steps.specs.KeyCalls.{find_channel_plan, find_plan}
use Rattle.nio_steps.specs.Names.{channel, channel_of}
use Rattle.nio_steps.specs.Plan.{Plan, ◌>>=◌}
use Rattle.nio_steps.specs.Runs.{Completes}
use Rattle.nio_steps.specs.Steps.{look_channel, look_key}

-- ---- look-ups leave the state

find_channel-rests : (l : Limits) (me : CallerNo) (n serial : ℕ) (st : State)
    → Rests me (find_channel_plan l n serial) st
unfolding find_channel_plan
find_channel-rests l me n serial st = by_test (not (nat_lt n l.channels))
  where
    by_test : (b : Bool)
        → Rests me
        (if b then Plan.reply None
        else (look_channel (channel n)
        >>= λ found. Plan.reply (if was_opened found serial then Some (channel_of (channel n) serial) else None))) st
    by_test true = refl
    by_test false = refl

find-rests : (l : Limits) (me : CallerNo) (s : SelNo) (i serial : ℕ) (st : State) → Rests me (find_plan l s i serial) st
unfolding find_plan
find-rests l me s i serial st = by_test (not (nat_lt i l.keys))
  where
    by_test : (b : Bool)
        → Rests {R = Option KeyNo} me
        (if b then Plan.reply None
        else (look_key s i
        >>= λ stage. Plan.reply
        (if was_published stage serial then Some (record { sel = s; index = i; serial = serial })
        else None))) st
    by_test true = refl
    by_test false = refl

module _ (l : Limits) (me : CallerNo) (now : Progress) (st : State) where
  name-rests : (a : LineName) (plan : Plan Said) → Rests me plan st → Rests me (if_name l now a plan) st
  name-rests (Caller n) plan here = if-rests me now reply.NoCaller (nat_lt n.0 l.callers) plan st here
  name-rests (Selector s) plan here = selector-rests l me now s plan st here
  name-rests (Channel c) plan here =
      found-rests me now (find_channel_plan l c.number.0 c.serial) reply.NoChannel plan st
      (find_channel-rests l me c.number.0 c.serial st) here
  name-rests (Key s k) plan here =
      selector-rests l me now s _ st
      (found-rests me now (find_plan l s k.index k.serial) reply.NoKey plan st
      (find-rests l me s k.index k.serial st) here)

pub named-rests : (l : Limits) (me : CallerNo) (now : Progress) (word : Call) (plan : Plan Said) (st : State)
    → Rests me plan st → Rests me (if_named l now word plan) st
unfolding if_named
named-rests l me now word plan st here =
    kept_by_names (λ p. Rests me p st) (if_name l now) (name-rests l me now st) (word_row word).names plan here

-- ---- what stands between two lines

-- no call is at work, and each caller made whole calls, and has in progress what is shown of it
pub record AreBetween (l : Limits) (v : PassView) (now : Progress) : Type 0 where
  pub between : IsBetween l (known v) now
  pub made : (n : CallerNo) → HasMade l (mine n v.seen) n now

-- a line whose caller may be drawn is its look-ups and its call
pub line_of_named : (me : CallerNo) (now : Progress) (word : Call) (l : Limits) (v0 v1 : PassView) (said : Said)
    → nat_lt me.0 l.callers ≡ true
    → CallClause me (Completes (if_named l now word (call_plan l now me word))) v0 v1 said
    → CallClause me (Completes (line_plan l now me word)) v0 v1 said
unfolding line_plan
line_of_named me now word l v0 v1 said drawn call =
    let plan = if_named l now word (call_plan l now me word) in
    subst (λ b. CallClause me (Completes (if b then plan else refused now reply.NoCaller)) v0 v1 said) (sym drawn) call

-- after a line it stands so, and the line amounts to the documented one
pub line_stands : (me : CallerNo) (now : Progress) (word : Call) (v0 v1 : PassView) (said : Said) → IsFit v0.limits
    → v0.only ≡ true → AreBetween v0.limits v0 now
    → CallClause me (Completes (line_plan v0.limits now me word)) v0 v1 said
    → AreBetween v0.limits v1 said.left
    × (seq Now v0.limits (documented (known v0) now) me word ≡ record {
      reply = said.reply;
      left = documented (known v1) said.left;
    })
line_stands me now word v0 v1 said fit only before call =
    let amounts = pass-lines-amount now me word v0 v1 said fit only before.between call in (
      record {
        between = amounts.between;
        made = line_made me now word v0 v1 said only before.between call before.made;
      },
      amounts.replied,
    )

-- ---- want of memory

-- listing the keys leaves the documented state
listed-same : (ds : ScriptState) (s : SelNo) (in_set : ℕ → Bool) → (listed ds s in_set).left ≡ ds
listed-same ds s in_set = by_tests (ds.shared.selector s.0) (ds.shared.gate s.0).shut _
  where
    by_tests : (a b : Bool) (r : Reply)
        → (if a then (if b then unchanged ds reply.ClosedSelector else unchanged ds r)
        else unchanged ds reply.NoSelector).left ≡ ds
    by_tests true true r = refl
    by_tests true false r = refl
    by_tests false b r = refl

-- so does its line
pub keys-same : (l : Limits) (ds : ScriptState) (me : CallerNo) (s : SelNo) → (seq Now l ds me (call.Keys s)).left ≡ ds
unfolding seq call_of keys_call
keys-same l ds me s = by_caller (nat_lt me.0 l.callers)
  where
    by_caller : (b : Bool) → (if b then keys_call ds s else unchanged ds reply.NoCaller).left ≡ ds
    by_caller true = listed-same ds s _
    by_caller false = refl

pub selected-same : (l : Limits) (ds : ScriptState) (me : CallerNo) (s : SelNo)
    → (seq Now l ds me (call.Selected s)).left ≡ ds
unfolding seq call_of selected_call
selected-same l ds me s = by_caller (nat_lt me.0 l.callers)
  where
    by_caller : (b : Bool) → (if b then selected_call ds s else unchanged ds reply.NoCaller).left ≡ ds
    by_caller true = listed-same ds s _
    by_caller false = refl
