use Rattle.std.proofs.Common.{◌≡◌, true, false, refl, ◌∙◌, rules}
use Rattle.std.specs.Prelude.{nat_lt}
use Rattle.std.proofs.lemmas.Bool.{or_left, or_right}
use Rattle.nio_history.specs.Conditions.{may_remove_cancelled, may_clear_out, has_taken, may_put_due}
use Rattle.nio_base.specs.Numbers.{last_serial}
use Rattle.nio_steps.proofs.CallLaws.{returned, left_ask, left_then, left_else, left_after}
use Rattle.nio_words.proofs.Views.{step_acts}
use Rattle.nio_words.specs.Passes.{acts_seen, state_seen}
use Rattle.nio_select.proofs.Begun.{begun_stays, due_now}
use Rattle.nio_select.proofs.KeyChanges.{changed_before, step_changed}
use Rattle.nio_select.proofs.removing.remove_cancelled.Goals as goal

pub remove-removed-requires-clause-may : goal.remove-removed-requires-clause-may
remove-removed-requires-clause-may c =
    or_left (may_remove_cancelled (state_seen c.args.p.now) c.args.me c.args.sel c.args.i)
    (may_clear_out (state_seen c.args.p.now) (acts_seen c.args.p.now c.args.me) c.args.me c.args.sel c.args.i)
    c.requires.may

pub put_free-requires-clause-may : goal.put_free-requires-clause-may
put_free-requires-clause-may c =
    let below : nat_lt c.args.stage.serial last_serial ≡ true = search rules in
    or_right (has_taken (state_seen c.remove-removed.new.p) c.args.me c.args.sel c.args.i)
    (may_put_due (state_seen c.remove-removed.new.p) c.args.me c.args.sel c.args.i)
    (due_now c.args.stage (step_acts c.remove-removed.ensures refl) c.requires.may c.requires.serial below
    (begun_stays c.remove-removed.ensures refl refl c.requires.begun).begun)

pub returns-then-stage-lt4294967295-clause-call : goal.returns-then-stage-lt4294967295-clause-call
returns-then-stage-lt4294967295-clause-call c =
    let below : nat_lt c.args.stage.serial last_serial ≡ true = search rules in
    returned (left_ask _ (step_acts c.remove-removed.ensures refl)
    (left_then _ _ _ below
    (left_ask _ (step_acts c.put_free.ensures refl) (left_after (step_acts c.put_free.ensures refl)))))

pub returns-then-stage-lt4294967295-clause-begun : goal.returns-then-stage-lt4294967295-clause-begun
returns-then-stage-lt4294967295-clause-begun c =
    begun_stays c.put_free.ensures refl refl (begun_stays c.remove-removed.ensures refl refl c.requires.begun)

pub returns-then-stage-lt4294967295-clause-removed : goal.returns-then-stage-lt4294967295-clause-removed
returns-then-stage-lt4294967295-clause-removed c = λ asked.
    let removes = step_acts c.remove-removed.ensures refl in
    changed_before asked removes (step_acts c.put_free.ensures refl) refl ∙ step_changed asked removes

pub returns-else-stage-lt4294967295-clause-call : goal.returns-else-stage-lt4294967295-clause-call
returns-else-stage-lt4294967295-clause-call c =
    let last : nat_lt c.args.stage.serial last_serial ≡ false = search rules in
    returned (left_ask _ (step_acts c.remove-removed.ensures refl)
    (left_else _ _ _ last (left_after (step_acts c.remove-removed.ensures refl))))

pub returns-else-stage-lt4294967295-clause-begun : goal.returns-else-stage-lt4294967295-clause-begun
returns-else-stage-lt4294967295-clause-begun c = begun_stays c.remove-removed.ensures refl refl c.requires.begun

pub returns-else-stage-lt4294967295-clause-removed : goal.returns-else-stage-lt4294967295-clause-removed
returns-else-stage-lt4294967295-clause-removed c = λ asked. step_changed asked (step_acts c.remove-removed.ensures refl)
