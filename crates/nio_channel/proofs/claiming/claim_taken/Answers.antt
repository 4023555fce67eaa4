use Rattle.std.proofs.Common.{◌≡◌, ◌<◌, true, ℕ, Some, refl, ap, sym, add-one, rules}
use Rattle.std.proofs.lemmas.Bool.{or_left}
use Rattle.nio_history.specs.Conditions.{has_taken, may_put_due}
use Rattle.nio_history.specs.Permanent.{a_taken_index}
use Rattle.nio_base.specs.Numbers.{last_serial}
use Rattle.nio_steps.proofs.CallLaws.{returned, left_ask, left_after}
use Rattle.nio_steps.specs.Plan.{reply}
use Rattle.nio_words.proofs.Pins.{no_pin_stays}
use Rattle.nio_words.proofs.Views.{step_acts}
use Rattle.nio_words.specs.Passes.{state_seen}
use Rattle.nio_channel.proofs.Chains.{left_at}
use Rattle.nio_channel.proofs.Claimed.{taken_serial, has_claimed_again}
use Rattle.nio_channel.proofs.Held.{had_stays, may_enrol_stays}
use Rattle.nio_channel.proofs.claiming.claim_taken.Goals as goal

pub claim_again-requires-clause-holds : goal.claim_again-requires-clause-holds
claim_again-requires-clause-holds c =
    (may_enrol_stays c.look_key-stage.ensures refl refl c.requires.may).unblocked.held.holding

pub claim_again-requires-clause-taken : goal.claim_again-requires-clause-taken
claim_again-requires-clause-taken c =
    had_stays (a_taken_index c.args.sel c.args.i) c.look_key-stage.ensures refl refl
    c.requires.may.unblocked.held.ready.pass c.requires.taken

pub claim_again-requires-clause-serial : goal.claim_again-requires-clause-serial
claim_again-requires-clause-serial c =
    taken_serial (step_acts c.look_key-stage.ensures refl)
    (had_stays (a_taken_index c.args.sel c.args.i) c.look_key-stage.ensures refl refl
    c.requires.may.unblocked.held.ready.pass c.requires.taken)

pub put_free-requires-clause-may : goal.put_free-requires-clause-may
put_free-requires-clause-may c =
    let taken = had_stays (a_taken_index c.args.sel c.args.i) c.look_key-stage.ensures refl refl
    c.requires.may.unblocked.held.ready.pass c.requires.taken in
    let kept : has_taken (state_seen c.claim_again.new.p) c.args.me c.args.sel c.args.i ≡ true =
    had_stays (a_taken_index c.args.sel c.args.i) c.if-claim_again.ensures refl refl c.look_key-stage.ensures.pass
    taken in
    or_left (has_taken (state_seen c.claim_again.new.p) c.args.me c.args.sel c.args.i)
    (may_put_due (state_seen c.claim_again.new.p) c.args.me c.args.sel c.args.i) kept

pub overflow_add-result : goal.overflow_add-result
overflow_add-result c =
    let below : c.look_key-stage.result.serial < last_serial =
    taken_serial (step_acts c.look_key-stage.ensures refl)
    (had_stays (a_taken_index c.args.sel c.args.i) c.look_key-stage.ensures refl refl
    c.requires.may.unblocked.held.ready.pass c.requires.taken) in
    search rules

pub returns-then-claim_again-clause-call : goal.returns-then-claim_again-clause-call
returns-then-claim_again-clause-call c =
    returned (left_ask _ (step_acts c.look_key-stage.ensures refl)
    (left_ask _ (step_acts c.if-claim_again.ensures refl)
    (left_ask _ (step_acts c.put_free.ensures refl) (left_after (step_acts c.put_free.ensures refl)))))

pub returns-then-claim_again-clause-may : goal.returns-then-claim_again-clause-may
returns-then-claim_again-clause-may c =
    may_enrol_stays c.put_free.ensures refl refl
    (may_enrol_stays c.claim_again.ensures refl refl
    (may_enrol_stays c.look_key-stage.ensures refl refl c.requires.may))

pub returns-then-claim_again-clause-unpinned : goal.returns-then-claim_again-clause-unpinned
returns-then-claim_again-clause-unpinned c = λ _.
    no_pin_stays (step_acts c.put_free.ensures refl) refl
    (no_pin_stays (step_acts c.if-claim_again.ensures refl) refl
    (no_pin_stays (step_acts c.look_key-stage.ensures refl) refl c.requires.unpinned))

pub returns-else-claim_again-clause-call : goal.returns-else-claim_again-clause-call
returns-else-claim_again-clause-call c =
    returned (left_ask _ (step_acts c.look_key-stage.ensures refl) (left_ask _ (step_acts c.if-claim_again.ensures refl)
    (left_at (ap (λ (n : ℕ). reply (Some (record { index = c.args.i; serial = n })))
    (sym (add-one c.look_key-stage.result.serial))) (step_acts c.if-claim_again.ensures refl))))

pub returns-else-claim_again-clause-may : goal.returns-else-claim_again-clause-may
returns-else-claim_again-clause-may c =
    may_enrol_stays c.claim_again.ensures refl refl (may_enrol_stays c.look_key-stage.ensures refl refl c.requires.may)

pub returns-else-claim_again-clause-claimed : goal.returns-else-claim_again-clause-claimed
returns-else-claim_again-clause-claimed c =
    has_claimed_again c.if-claim_again.ensures
    (may_enrol_stays c.look_key-stage.ensures refl refl c.requires.may).unblocked.held.ready c.requires.key
    (no_pin_stays (step_acts c.look_key-stage.ensures refl) refl c.requires.unpinned)
