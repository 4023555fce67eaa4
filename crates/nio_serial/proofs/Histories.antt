-- Calls whose names are found, and runs of calls and lines in legal histories.
use Rattle.nio_plain.specs.ScriptState.{ScriptState}
use Rattle.nio_plain.specs.Seq.Replies.{Replied, unchanged}
use Rattle.nio_serial.proofs.Showing.{told-index-shows}
use Rattle.nio_serial.proofs.RestingCalls.{rests-seq}
use Rattle.nio_serial.proofs.Resting.{rests-from, rests-is}
use Rattle.nio_serial.specs.Replies.{told_reply}
use Rattle.std.proofs.Common.{ℕ, List, sym, ◌≡◌, Option, refl, ap, ◌∙◌, subst, nat_lt}
use Rattle.std.proofs.lemmas.Bool.{lt-ltb, cond-true}
use Rattle.nio_base.specs.Limits.{IsFit}
use Rattle.nio_base.specs.declared.limits.Limits.{Limits}
use Rattle.nio_base.specs.declared.numbers.CallerNo.{CallerNo}
use Rattle.nio_history.specs.Conditions.{IsCaller}
use Rattle.nio_history.specs.Histories.{state_after}
use Rattle.nio_history.specs.Histories.{IsLegal}
use Rattle.nio_history.specs.PassViews.{known, done_between}
use Rattle.nio_history.specs.State.{State, with_lister}
use Rattle.nio_history.specs.declared.event.Event.{Event}
use Rattle.nio_language.specs.WordRows.{EachName, by_names, word_row}
use Rattle.nio_language.specs.declared.call.Call.{Call}
use Rattle.nio_language.specs.declared.call.Call.TheVariants as call
use Rattle.nio_language.specs.declared.reply.Reply.{Reply}
use Rattle.nio_language.specs.declared.reply.Reply.TheVariants as reply
use Rattle.nio_language.specs.declared.word_row.LineName.{LineName}
use Rattle.nio_language.specs.declared.word_row.LineName.TheVariants.{Caller}
use Rattle.nio_language.specs.declared.word_row.LineNames.{LineNames}
use Rattle.nio_language.specs.declared.word_row.LineNames.TheVariants.{One, Two}
use Rattle.nio_language.specs.declared.word_row.LineNames.TheVariants as line
use Rattle.nio_plain.specs.Seq.{seq, call_of}
use Rattle.nio_plain.specs.declared.rules.Rules.TheVariants.{Now}
use Rattle.nio_steps.proofs.PerformLaws.{perform_ran}
use Rattle.nio_steps.specs.Perform.{Performed, perform}
use Rattle.nio_steps.specs.Plan.{Plan}
use Rattle.nio_steps.specs.SelectCalls.{list_key, list_selected, keys_plan, selected_keys_plan, told_plan, ToldReply}
use Rattle.nio_serial.proofs.Beginning.{begin-lacking}
use Rattle.nio_serial.proofs.Facts.{none_due, begun, sound}
use Rattle.nio_serial.proofs.Listing.{list-lacking}
use Rattle.nio_serial.proofs.Calls.{call-amounts, told-by-index}
use Rattle.nio_serial.proofs.Lines.{unless, none-missing, name-done, line-amounts}
use Rattle.nio_serial.proofs.Staying.{line-stays}
use Rattle.nio_serial.specs.Between.{IsBetween, IsLeft, line as line_left, IsAtRest}
use Rattle.nio_serial.specs.Documented.{Progress, documented, amounts}
use Rattle.nio_serial.specs.Laws.{IsThere, IsNamed, CallsAmount, LinesAmount, DrawsStayBetween, CallsStayBetween}
use Rattle.nio_serial.specs.Laws.{Amounts, CallRunsAmount, LineRunsAmount, PassLinesAmount, ToldAmounts, LackingLeaves}
use Rattle.nio_serial.specs.Laws.{by_key, ToldStaysBetween, ToldRunsAmount}
use Rattle.nio_serial.specs.Lines.{Said, comes_to, refused, if_name, if_named, call_plan, line_plan, after_told}

-- ---- names that are found

module _ (l : Limits) (st : State) (now : Progress) (me : CallerNo) (fit : IsFit l) (between : IsBetween l st now) where
  name-through : (a : LineName) (plan : Plan Said) → IsThere l st a
      → perform me (if_name l now a plan) st ≡ perform me plan st
  name-through a plan there =
      name-done l st now me fit between a plan
      ∙ ap (λ (o : Option Reply). perform me (unless (refused now) plan o) st) (none-missing l st a there)

  names-through : (names : LineNames) (plan : Plan Said) → EachName (IsThere l st) names
      → perform me (by_names (if_name l now) names plan) st ≡ perform me plan st
  names-through line.None plan there = refl
  names-through (One a) plan there = name-through a plan there
  names-through (Two a b) plan there = name-through a (if_name l now b plan) there.0 ∙ name-through b plan there.1

  named-through : (word : Call) (plan : Plan Said) → IsNamed l st word
      → perform me (if_named l now word plan) st ≡ perform me plan st
  unfolding if_named
  named-through word plan named = names-through (word_row word).names plan named

  line-through : (word : Call) → IsCaller l me → IsNamed l st word
      → perform me (line_plan l now me word) st ≡ perform me (call_plan l now me word) st
  unfolding line_plan
  line-through word below named =
      name-through (Caller me) (if_named l now word (call_plan l now me word)) below
      ∙ named-through word (call_plan l now me word) named

pub calls-stay : CallsStayBetween
calls-stay l st now me word fit below between named =
    subst (λ (done : Performed Said). IsBetween l done.state done.answer.left)
    (line-through l st now me fit between word below named) (line-stays l st now me fit between word)

pub calls-amount : CallsAmount
calls-amount l st now me word between named = call-amounts l st now me between word named

pub lines-amount : LinesAmount
lines-amount l st now me word fit between = line-amounts l st now me fit between word

-- ---- in histories

pub call-runs-amount : CallRunsAmount
call-runs-amount l now me word past acts said fit below between named legal whole =
    let ran = perform_ran l me (call_plan l now me word) past acts said legal whole in
    record {
      replied = calls-amount l (state_after past) now me word between named ∙ ap comes_to ran;
      between =
          subst (λ (done : Performed Said). IsBetween l done.state done.answer.left) ran
          (calls-stay l (state_after past) now me word fit below between named);
    }

pub line-runs-amount : LineRunsAmount
line-runs-amount l now me word past acts said fit between legal whole =
    let ran = perform_ran l me (line_plan l now me word) past acts said legal whole in
    record {
      replied = lines-amount l (state_after past) now me word fit between ∙ ap comes_to ran;
      between =
          subst (λ (done : Performed Said). IsBetween l done.state done.answer.left) ran
          (line-stays l (state_after past) now me fit between word);
    }

pub pass-lines-amount : PassLinesAmount
pass-lines-amount now me word old new said fit only between call =
    let acts = done_between me old new in
    let grown = (call.acts.only only).1 in
    subst (λ (events : List Event). Amounts old.limits
    (seq Now old.limits (documented (known old) now) me word) events said) (sym grown)
    (line-runs-amount old.limits now me word old.seen acts said fit between
    (subst (IsLegal old.limits) grown call.acts.history.legal) call.shape)

-- ---- draws

-- who is drawn isn't told apart
pub draws-stay : DrawsStayBetween
draws-stay l st now n between = record {
  left = between.left;
  at_rest = between.at_rest;
  shown = λ s. let was = between.shown s in
      record { turn = was.turn; begun = was.begun; on = was.on; finds = was.finds; closing = was.closing };
}

-- nor who has a selector's list
pub lists-stay : (l : Limits) (st : State) (now : Progress) (s : ℕ) (x : Option CallerNo) → IsBetween l st now
    → IsBetween l (with_lister st s x) now
lists-stay l st now s x between = record {
  left = between.left;
  at_rest = between.at_rest;
  shown = λ t. let was = between.shown t in
      record { turn = was.turn; begun = was.begun; on = was.on; finds = was.finds; closing = was.closing };
}

-- ---- a `told` by index

pub told-amounts-by-index : ToldAmounts
told-amounts-by-index l st now me s x told elapsed between made own =
    told-by-index l st now me between s x told elapsed made own

-- ---- calls for which there is no memory

pub lacking-leaves : LackingLeaves
unfolding keys_plan selected_keys_plan
lacking-leaves l st now me s mode known between = record {
  begins = begin-lacking st me s mode known (none_due l st now between) (begun l st now between s.0);
  keys = list-lacking st me s list_key;
  selected = list-lacking st me s list_selected;
}

-- ---- a `told` by index stays between two calls

pub seq-through : (l : Limits) (st : ScriptState) (me : CallerNo) (word : Call) → IsCaller l me
    → seq Now l st me word ≡ call_of Now l st me word
unfolding seq
seq-through l st me word below =
    cond-true (nat_lt me.0 l.callers) (call_of Now l st me word) (unchanged st reply.NoCaller)
    (lt-ltb me.0 l.callers below)

pub told-stays : ToldStaysBetween
told-stays l st now me s x told elapsed below between made own =
    let ds = documented st now in
    let word = call.Told s elapsed (by_key x told) in
    let same : seq Now l ds me word ≡ amounts told_reply (after_told now s) (perform me (told_plan x told elapsed) st) =
    seq-through l ds me word below ∙ told-by-index l st now me between s x told elapsed made own in
    record {
      left = subst (λ (a : Replied). IsLeft l a.left) same (line_left ds me word between.left);
      at_rest =
          subst (λ (a : Replied). IsAtRest l a.left.shared) same
          (rests-is l (seq Now l ds me word).left.shared (rests-seq l ds (sound l st now between)
          (rests-from l ds.shared between.at_rest) me word));
      shown = told-index-shows l st now me between s x told elapsed own;
    }

pub told-runs-amount : ToldRunsAmount
told-runs-amount l now me s x told elapsed past acts answer below between made own legal whole =
    let ran = perform_ran l me (told_plan x told elapsed) past acts answer legal whole in
    record {
      replied =
          told-by-index l (state_after past) now me between s x told elapsed made own
          ∙ ap (amounts told_reply (after_told now s)) ran;
      between =
          subst (λ (done : Performed ToldReply). IsBetween l done.state (after_told now s done.answer)) ran
          (told-stays l (state_after past) now me s x told elapsed below between made own);
    }
