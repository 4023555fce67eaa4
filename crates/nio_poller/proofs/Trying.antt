-- Calls that are made again while another caller is in the way.
use Rattle.std.proofs.Common.{◌≡◌, true, false, Result, List, [], refl, sym, subst}
use Rattle.std.specs.Prelude.{Option}
use Rattle.std.proofs.lemmas.List.{append-nil}
use Rattle.nio_base.specs.declared.numbers.CallerNo.{CallerNo}
use Rattle.nio_base.specs.declared.numbers.SelNo.{SelNo}
use Rattle.nio_history.specs.PassViews.{PassView}
use Rattle.nio_history.specs.declared.act.Act.{Act}
use Rattle.nio_history.specs.declared.found.Mode.{Mode}
use Rattle.nio_select.specs.InHand.{HeldSelector, known_by}
use Rattle.nio_steps.proofs.CallLaws.{call_as}
use Rattle.nio_steps.proofs.PinLaws.{pins_are_given_back}
use Rattle.nio_steps.proofs.WaitingLaws.{TryingClause, try_more, try_last, then_call}
use Rattle.nio_steps.specs.Calls.{CallClause}
use Rattle.nio_steps.specs.PinLaws.{GivesPinsBack}
use Rattle.nio_steps.specs.Runs.{Completes}
use Rattle.nio_steps.specs.SelectCalls.{Selection, Begins, begin_finds_busy, FinishReply, closed, closing}
use Rattle.nio_steps.specs.SelectCalls.{already_closed, shut_plan, try_finish_plan, finish_finds_busy, ClosesSelector}
use Rattle.nio_steps.specs.SelectCalls.{ClosesRest}
use Rattle.nio_steps.specs.Waiting.{Retries, Then}
use Rattle.nio_steps.specs.declared.looked.LookedKey.{LookedKey}
use Rattle.nio_steps.specs.declared.refusal.BeginError.{BeginError}

-- ---- beginning a selection

pub begin_gives : (s : SelNo) (mode : Mode) (known : Option (List LookedKey)) → GivesPinsBack (Begins s mode known)
begin_gives s mode known = λ acts answer shape. pins_are_given_back.try_begin s mode known _ acts answer shape

pub begin_last : {me : CallerNo} {v0 v1 v2 : PassView} (s : SelNo) (mode : Mode)
    (known : Option (List LookedKey)) (found answer : Result Selection BeginError) → found ≡ answer → begin_finds_busy answer ≡ false
    → TryingClause me (λ (_ : Unit {0}). Begins s mode known) (λ _. begin_finds_busy) v0 v1
    → CallClause me (Begins s mode known) v1 v2 found
    → CallClause me (Retries (Begins s mode known) begin_finds_busy) v0 v2 answer
begin_last {me = me} {v1 = v1} {v2 = v2} s mode known found answer is over trying run =
    try_last tt answer trying
    (subst (λ (r : Result Selection BeginError). CallClause me (Begins s mode known) v1 v2 r) is run) over

-- a beginning on a selector that is the same
pub begins_on : {me : CallerNo} {v0 v1 : PassView} (selector found : HeldSelector) (mode : Mode)
    (answer : Result Selection BeginError) → found ≡ selector
    → CallClause me (Begins found.number mode (known_by found)) v0 v1 answer
    → CallClause me (Begins selector.number mode (known_by selector)) v0 v1 answer
begins_on {me = me} {v0 = v0} {v1 = v1} selector found mode answer same =
    subst (λ (s : HeldSelector). CallClause me (Begins s.number mode (known_by s)) v0 v1 answer) same

-- ---- finishing a closing

module _ {me : CallerNo} {v0 v1 v2 : PassView} (s s' : SelNo) (answer : FinishReply) (same : s' ≡ s)
    (trying : TryingClause me (λ (_ : Unit {0}). Completes (try_finish_plan s)) (λ _. finish_finds_busy) v0 v1)
    (run : CallClause me (Completes (try_finish_plan s')) v1 v2 answer) where
  its_run : CallClause me (Completes (try_finish_plan s)) v1 v2 answer
  its_run = subst (λ (x : SelNo). CallClause me (Completes (try_finish_plan x)) v1 v2 answer) same run

  pub finish_more : finish_finds_busy answer ≡ true
      → TryingClause me (λ (_ : Unit {0}). Completes (try_finish_plan s)) (λ _. finish_finds_busy) v0 v2
  finish_more again = try_more tt answer trying its_run again

  pub finish_last : finish_finds_busy answer ≡ false
      → CallClause me (Retries (Completes (try_finish_plan s)) finish_finds_busy) v0 v2 answer
  finish_last over = try_last tt answer trying its_run over

-- ---- closing

-- a call after which nothing is done
pub then_nothing : {A R : Type 0} {me : CallerNo} {First : List Act → A → Type 0} {a : A} {v0 v1 : PassView}
    (Second : A → List Act → R → Type 0) (answer : R) → CallClause me First v0 v1 a → Second a [] answer
    → CallClause me (Then First Second) v0 v1 answer
then_nothing {First = First} {a = a} Second answer first second =
    call_as (Then First Second) answer
    (λ xs runs. record {
      first = xs;
      middle = a;
      second = [];
      parts = sym (append-nil xs);
      runs_first = runs;
      runs_second = second;
    }) first

pub closes_finished : {me : CallerNo} {v0 v1 v2 : PassView} (s s' : SelNo) → s' ≡ s
    → CallClause me (Completes (shut_plan s)) v0 v1 closing
    → CallClause me (Retries (Completes (try_finish_plan s')) finish_finds_busy) v1 v2 closed
    → CallClause me (ClosesSelector s) v0 v2 true
closes_finished {me = me} {v1 = v1} {v2 = v2} s s' same shuts finishes =
    then_call shuts (call_as (ClosesRest s closing) true (λ xs run. (refl, run))
    (subst (λ (x : SelNo). CallClause me (Retries (Completes (try_finish_plan x)) finish_finds_busy) v1 v2 closed) same
    finishes))

pub closes_found : {me : CallerNo} {v0 v1 : PassView} (s : SelNo)
    → CallClause me (Completes (shut_plan s)) v0 v1 already_closed → CallClause me (ClosesSelector s) v0 v1 false
closes_found s shuts = then_nothing (ClosesRest s) false shuts (refl, refl)
