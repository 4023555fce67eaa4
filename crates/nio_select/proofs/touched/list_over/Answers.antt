use Rattle.std.proofs.Common.{ℕ, ◌+◌, Option, Some, None, List, refl, ap, sym, ◌∙◌, subst, arith}
use Rattle.nio_steps.proofs.CallLaws.{returned, left_ask, left_then, left_else, left_after, left_after_call, ran_then}
use Rattle.nio_steps.specs.Calls.{CallClause}
use Rattle.nio_steps.specs.Looking.{list_on, list_over, looked_key, without_index, enlisted}
use Rattle.nio_steps.specs.Plan.{reply}
use Rattle.nio_steps.specs.Runs.{Completes}
use Rattle.nio_steps.specs.declared.looked.LookedKey.{LookedKey}
use Rattle.nio_words.proofs.Views.{step_acts}
use Rattle.nio_words.specs.Passes.{limits_of}
use Rattle.nio_words.specs.Views.{view}
use Rattle.nio_select.specs.Asked.{Looked}
use Rattle.nio_select.specs.Touched.{TakesOn}
use Rattle.nio_select.proofs.BegunListed.{listed_stays, listed_over, index_now, found_cancelled_now}
use Rattle.nio_select.proofs.TakenOn.{takes_one}
use Rattle.nio_select.proofs.touched.list_over.Goals as goal

pub note_changed-requires : goal.note_changed-requires
note_changed-requires c = omega (arith, c.requires.room, c.requires.before.few)

pub touch_again-requires-clause-begun : goal.touch_again-requires-clause-begun
touch_again-requires-clause-begun c = listed_stays c.look_index-found.ensures refl refl c.requires.begun

pub touch_again-requires-clause-found : goal.touch_again-requires-clause-found
touch_again-requires-clause-found c =
    found_cancelled_now c.args.i c.look_index-found.result.stage
    (listed_stays c.look_index-found.ensures refl refl c.requires.begun).begun
    (index_now (step_acts c.look_index-found.ensures refl))

pub remove_cancelled-requires-clause-begun : goal.remove_cancelled-requires-clause-begun
remove_cancelled-requires-clause-begun c = c.touch_again.ensures.begun.begun

pub remove_cancelled-requires-clause-may : goal.remove_cancelled-requires-clause-may
remove_cancelled-requires-clause-may c = c.touch_again.ensures.found.may (sym c.if-is_in_cancelled_set.ensures)

pub remove_cancelled-requires-clause-serial : goal.remove_cancelled-requires-clause-serial
remove_cancelled-requires-clause-serial c = c.touch_again.ensures.found.serial (sym c.if-is_in_cancelled_set.ensures)

pub returns-then-is_in_cancelled_set-clause-call : goal.returns-then-is_in_cancelled_set-clause-call
returns-then-is_in_cancelled_set-clause-call c =
    subst (λ (keys : List LookedKey). CallClause c.args.me (Completes (list_over c.args.sel c.args.i c.args.asked.now.keys))
    (view c.args.w.now c.args.p.now) (view c.args.w.now c.remove_cancelled.new.p) keys)
    (sym (ap (λ v. v.keys) c.take_out.ensures ∙ ap (λ (v : Looked). without_index c.args.i v.keys) c.note_changed.ensures))
    (returned (left_ask _ (step_acts c.look_index-found.ensures refl)
    (ran_then (λ _. list_on c.args.sel c.args.i c.args.asked.now.keys c.look_index-found.result.stage)
    c.touch_again.ensures.call
    (left_then _ _ _ (sym c.if-is_in_cancelled_set.ensures)
    (ran_then (λ _. reply (without_index c.args.i c.args.asked.now.keys)) c.remove_cancelled.ensures.call
    (left_after_call c.remove_cancelled.ensures.call))))))

pub returns-then-is_in_cancelled_set-clause-begun : goal.returns-then-is_in_cancelled_set-clause-begun
returns-then-is_in_cancelled_set-clause-begun c =
    listed_over c.touch_again.ensures.begun c.remove_cancelled.ensures.call.acts c.remove_cancelled.ensures.begun

pub returns-then-is_in_cancelled_set-clause-on : goal.returns-then-is_in_cancelled_set-clause-on
returns-then-is_in_cancelled_set-clause-on c =
    let limit = (limits_of c.args.w.now).keys in
    subst (TakesOn (c.args.i + 1) limit c.args.asked.now)
    (sym (c.take_out.ensures ∙ ap (λ (v : Looked). record v { keys = without_index c.args.i v.keys }) c.note_changed.ensures))
    (takes_one c.args.i limit c.args.asked.now None c.requires.before c.requires.key.1 (λ e is. absurd (cc is)))

pub returns-then-is_valid-clause-call : goal.returns-then-is_valid-clause-call
returns-then-is_valid-clause-call c =
    let e = looked_key c.args.i c.look_index-found.result.stage c.look_interest-interest.result in
    subst (λ (keys : List LookedKey). CallClause c.args.me (Completes (list_over c.args.sel c.args.i c.args.asked.now.keys))
    (view c.args.w.now c.args.p.now) (view c.args.w.now c.look_interest-interest.new.p) keys)
    (sym (ap (λ v. v.keys) c.put.ensures
    ∙ ap (λ (v : Looked). enlisted e (without_index c.args.i v.keys)) c.note_changed.ensures))
    (returned (left_ask _ (step_acts c.look_index-found.ensures refl)
    (ran_then (λ _. list_on c.args.sel c.args.i c.args.asked.now.keys c.look_index-found.result.stage)
    c.touch_again.ensures.call
    (left_else _ _ _ (sym c.if-is_in_cancelled_set.ensures)
    (left_then _ _ _ (sym c.if-is_valid.ensures)
    (left_ask _ (step_acts c.look_interest-interest.ensures refl)
    (left_after (step_acts c.look_interest-interest.ensures refl))))))))

pub returns-then-is_valid-clause-begun : goal.returns-then-is_valid-clause-begun
returns-then-is_valid-clause-begun c =
    listed_stays c.look_interest-interest.ensures refl refl c.touch_again.ensures.begun

pub returns-then-is_valid-clause-on : goal.returns-then-is_valid-clause-on
returns-then-is_valid-clause-on c =
    let limit = (limits_of c.args.w.now).keys in
    let e = looked_key c.args.i c.look_index-found.result.stage c.look_interest-interest.result in
    subst (TakesOn (c.args.i + 1) limit c.args.asked.now)
    (sym (c.put.ensures
    ∙ ap (λ (v : Looked). record v { keys = enlisted e (without_index c.args.i v.keys) }) c.note_changed.ensures))
    (takes_one c.args.i limit c.args.asked.now (Some e) c.requires.before c.requires.key.1
    (λ x is. ap index_of (sym is)))
  where
    index_of : Option LookedKey → ℕ
    index_of None = c.args.i
    index_of (Some x) = x.index

pub returns-else-is_valid-clause-call : goal.returns-else-is_valid-clause-call
returns-else-is_valid-clause-call c =
    subst (λ (keys : List LookedKey). CallClause c.args.me (Completes (list_over c.args.sel c.args.i c.args.asked.now.keys))
    (view c.args.w.now c.args.p.now) (view c.args.w.now c.touch_again.new.p) keys)
    (sym (ap (λ v. v.keys) c.take_out-else-is_valid.ensures
    ∙ ap (λ (v : Looked). without_index c.args.i v.keys) c.note_changed.ensures))
    (returned (left_ask _ (step_acts c.look_index-found.ensures refl)
    (ran_then (λ _. list_on c.args.sel c.args.i c.args.asked.now.keys c.look_index-found.result.stage)
    c.touch_again.ensures.call
    (left_else _ _ _ (sym c.if-is_in_cancelled_set.ensures)
    (left_else _ _ _ (sym c.if-is_valid.ensures) (left_after_call c.touch_again.ensures.call))))))

pub returns-else-is_valid-clause-on : goal.returns-else-is_valid-clause-on
returns-else-is_valid-clause-on c =
    let limit = (limits_of c.args.w.now).keys in
    subst (TakesOn (c.args.i + 1) limit c.args.asked.now)
    (sym (c.take_out-else-is_valid.ensures
    ∙ ap (λ (v : Looked). record v { keys = without_index c.args.i v.keys }) c.note_changed.ensures))
    (takes_one c.args.i limit c.args.asked.now None c.requires.before c.requires.key.1 (λ e is. absurd (cc is)))
