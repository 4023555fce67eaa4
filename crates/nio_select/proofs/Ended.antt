-- What puts the calls of a selection together.
use Rattle.std.proofs.Common.{◌≡◌, ℕ, ◌==◌, Bool, true, false, not, ◌&&◌, [], ◌∷◌, refl, ap, sym, ◌∙◌, subst}
use Rattle.std.proofs.lemmas.Bool.{and_parts, eqb-true}
use Rattle.nio_base.specs.declared.numbers.CallerNo.{CallerNo}
use Rattle.nio_base.specs.declared.numbers.SelNo.{SelNo}
use Rattle.nio_history.specs.Conditions.{has_turn}
use Rattle.nio_history.specs.PassViews.{PassView, ActsClause}
use Rattle.nio_history.specs.declared.act.Act.TheVariants.{LookGate, LookInterrupt, EndWake, GiveTurn}
use Rattle.nio_history.specs.declared.found.GateWord.{GateWord}
use Rattle.nio_history.specs.declared.found.Mode.{Mode}
use Rattle.nio_history.specs.declared.why.Why.{Why}
use Rattle.nio_steps.proofs.CallLaws.{returned, left_ask, left_then, left_else, left_after, left_of_call, ran_then}
use Rattle.nio_steps.proofs.StandLaws.{selections_stand}
use Rattle.nio_steps.specs.Calls.{CallClause}
use Rattle.nio_steps.specs.Plan.{Plan, reply, ◌>>=◌, ◌>>◌}
use Rattle.nio_steps.specs.Runs.{Completes}
use Rattle.nio_steps.specs.SelectCalls.{Selection, ToldReply, done, again, is_again, why_ended, end_selection, after_marks}
use Rattle.nio_steps.specs.SelectCalls.{is_timed, may_wait, remove_all_cancelled}
use Rattle.nio_steps.specs.Steps.{end_wake, give_turn}
use Rattle.nio_steps.specs.declared.selected.Selected.{Selected}
use Rattle.nio_words.specs.Passes.{IsReady, limits_of, seen, state_seen}
use Rattle.nio_words.specs.Views.{view}
use Rattle.nio_words.specs.declared.words.Pass.{Pass}
use Rattle.nio_words.specs.declared.words.Words.{Words}
use Rattle.nio_select.specs.Begun.{HasBegun}
use Rattle.nio_select.specs.InProgress.{Selects}

-- ---- who selects

-- who began a selection and hasn't left it has begun
pub selecting_begun : {w : Words} {p : Pass} {me : CallerNo} {selection : Selection} → IsReady w p me
    → Selects (view w p) me selection → HasBegun w p me selection.selector
selecting_begun {w = w} {p = p} {me = me} {selection = selection} ready selects = record {
  ready = ready;
  inside = selects.inside;
  begun = selections_stand (limits_of w) me (seen p) selection ready.pass.legal selects.begun;
}

-- who has begun has the turn
pub begun_turn : {w : Words} {p : Pass} {me : CallerNo} {s : SelNo} → HasBegun w p me s
    → has_turn (state_seen p) me s ≡ true
begun_turn {p = p} {me = me} {s = s} here =
    (and_parts (has_turn (state_seen p) me s) ((state_seen p).begun s.0) here.begun).0

-- ---- a selection that goes on

second : (a b c d e f : Bool) → (a && b && c && d && e && f) ≡ true → b ≡ true
second a true c d e f all = refl
second true false c d e f all = absurd (cc all)
second false false c d e f all = absurd (cc all)

-- no mark succeeded
pub again_unmarked : (mode : Mode) (count : ℕ) (gate : GateWord) (interrupted elapsed : Bool)
    → is_again mode count gate interrupted elapsed ≡ true → count ≡ 0
again_unmarked mode count gate interrupted elapsed goes =
    eqb-true count 0
    (second (may_wait mode) (count == 0) (not gate.woken) (not gate.shut) (not interrupted)
    (not (is_timed mode && elapsed)) goes)

-- ---- the end of a selection

pub ended : {me : CallerNo} {s : SelNo} {found : GateWord} {listed : Bool} {v0 v1 v2 v3 : PassView}
    (selection : Selection) (answer : Selected) → s ≡ selection.selector → listed ≡ selection.listed
    → CallClause me (Completes (remove_all_cancelled s listed)) v0 v1 tt
    → ActsClause me (EndWake s found ∷ []) v1 v2 → ActsClause me (GiveTurn s ∷ []) v2 v3
    → CallClause me (Completes (end_selection selection answer)) v0 v3 (done answer)
ended {me = me} {s = s} {listed = listed} {v0 = v0} {v3 = v3} selection answer on same removed ends gives =
    subst (λ (s' : SelNo). CallClause me (Completes (ending s' selection.listed)) v0 v3 (done answer)) on
    (subst (λ b. CallClause me (Completes (ending s b)) v0 v3 (done answer)) same
    (returned
    (ran_then (λ _. end_wake s >> (give_turn s >> reply (done answer))) removed
    (left_ask _ ends (left_ask _ gives (left_after gives))))))
  where
    ending : SelNo → Bool → Plan ToldReply
    ending s' b = remove_all_cancelled s' b >>= λ _. end_wake s' >> (give_turn s' >> reply (done answer))

-- after the marks the selection is over
pub over : {me : CallerNo} {s : SelNo} {gate : GateWord} {interrupted : Bool} {answer : ToldReply}
    {v0 v1 v2 v3 : PassView} (selection : Selection) (elapsed : Bool) (count : ℕ)
    (mode : Mode) (why : Why) → s ≡ selection.selector → mode ≡ selection.mode
    → ActsClause me (LookGate s gate ∷ []) v0 v1 → ActsClause me (LookInterrupt interrupted ∷ []) v1 v2
    → is_again mode count gate interrupted elapsed ≡ false → why ≡ why_ended mode count gate interrupted
    → CallClause me (Completes (end_selection selection (record { count = count; why = why }))) v2 v3 answer
    → CallClause me (Completes (after_marks selection elapsed count)) v0 v3 answer
over {me = me} {gate = gate} {interrupted = interrupted} {answer = answer} {v0 = v0} {v1 = v1} {v2 = v2} {v3 = v3}
    selection elapsed count mode why on same looks asks goes is ends =
    let look = subst (λ (s' : SelNo). ActsClause me (LookGate s' gate ∷ []) v0 v1) on looks in
    let is' : why ≡ why_ended selection.mode count gate interrupted = is
    ∙ ap (λ (m : Mode). why_ended m count gate interrupted) same in
    let ends' = subst
    (λ (w : Why). CallClause me (Completes (end_selection selection (record { count = count; why = w }))) v2 v3
    answer) is' ends in
    returned (left_ask _ look
    (left_ask _ asks
    (left_else _ _ _ (ap (λ (m : Mode). is_again m count gate interrupted elapsed) (sym same) ∙ goes)
    (left_of_call ends'))))

-- after the marks it goes on
pub goes_again : {me : CallerNo} {s : SelNo} {gate : GateWord} {interrupted : Bool} {v0 v1 v2 : PassView}
    (selection : Selection) (elapsed : Bool) (count : ℕ) (mode : Mode) → s ≡ selection.selector → mode ≡ selection.mode
    → ActsClause me (LookGate s gate ∷ []) v0 v1 → ActsClause me (LookInterrupt interrupted ∷ []) v1 v2
    → is_again mode count gate interrupted elapsed ≡ true
    → CallClause me (Completes (after_marks selection elapsed count)) v0 v2 (again selection)
goes_again {me = me} {gate = gate} {interrupted = interrupted} {v0 = v0} {v1 = v1} selection elapsed count mode on same
    looks asks goes =
    returned (left_ask _ (subst (λ (s' : SelNo). ActsClause me (LookGate s' gate ∷ []) v0 v1) on looks)
    (left_ask _ asks
    (left_then _ _ _ (ap (λ (m : Mode). is_again m count gate interrupted elapsed) (sym same) ∙ goes) (left_after asks))))
