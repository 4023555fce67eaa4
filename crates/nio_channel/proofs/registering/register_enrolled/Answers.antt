use Rattle.std.proofs.Common.{◌≡◌, ◌&&◌, true, false, refl, rules}
use Rattle.nio_history.proofs.PassViews.{key_after}
use Rattle.nio_history.specs.Sets.{is_in_key_set, is_valid_key}
use Rattle.nio_steps.proofs.CallLaws.{returned, left_ask, left_then, left_else, left_after_call, ran_then}
use Rattle.nio_words.proofs.Pins.{stays_pinned}
use Rattle.nio_words.proofs.Views.{step_acts}
use Rattle.nio_channel.proofs.Held.{unblocked_stays, may_enrol_stays, valid_in_set, invalid_outside}
use Rattle.nio_channel.proofs.Registered.{enrolled_stays}
use Rattle.nio_channel.proofs.registering.register_enrolled.Goals as goal

pub returns-then-look_gate-clause-unblocked : goal.returns-then-look_gate-clause-unblocked
returns-then-look_gate-clause-unblocked c = unblocked_stays c.look_gate.ensures refl refl c.requires.unblocked

pub returns-then-look_gate-clause-pinned : goal.returns-then-look_gate-clause-pinned
returns-then-look_gate-clause-pinned c = stays_pinned c.look_gate.ensures refl refl c.requires.pinned

pub update_key-requires : goal.update_key-requires
update_key-requires c =
    let valid : is_valid_key c.args.stage c.args.k.serial ≡ true = search rules in
    record {
      unblocked = unblocked_stays c.look_gate.ensures refl refl c.requires.unblocked;
      pinned = stays_pinned c.look_gate.ensures refl refl c.requires.pinned;
      enrolled = enrolled_stays c.args.wanted.now.chan.number c.args.wanted.now.sel c.args.k c.look_gate.ensures refl
          refl refl c.requires.enrolled;
      has = key_after (step_acts c.look_gate.ensures refl)
          (c.requires.has (valid_in_set c.args.stage c.args.k.serial valid));
    }

pub returns-then-is_valid_key-clause-call : goal.returns-then-is_valid_key-clause-call
returns-then-is_valid_key-clause-call c =
    let spared : (is_in_key_set c.args.stage c.args.k.serial && c.args.stage.cancelled) ≡ false = search rules in
    let valid : is_valid_key c.args.stage c.args.k.serial ≡ true = search rules in
    returned (left_else _ _ _ spared
    (left_ask _ (step_acts c.look_gate.ensures refl) (left_else _ _ _ c.if-look_gate.false (left_then _ _ _ valid
    (ran_then _ c.update_key.ensures.call (left_after_call c.update_key.ensures.call))))))

pub returns-else-is_valid_key-clause-unblocked : goal.returns-else-is_valid_key-clause-unblocked
returns-else-is_valid_key-clause-unblocked c = unblocked_stays c.look_gate.ensures refl refl c.requires.unblocked

pub returns-else-is_valid_key-clause-may : goal.returns-else-is_valid_key-clause-may
returns-else-is_valid_key-clause-may c = λ _.
    let spared : (is_in_key_set c.args.stage c.args.k.serial && c.args.stage.cancelled) ≡ false = search rules in
    let invalid : is_valid_key c.args.stage c.args.k.serial ≡ false = search rules in
    may_enrol_stays c.look_gate.ensures refl refl
    (c.requires.may (invalid_outside c.args.stage c.args.k.serial spared invalid))

pub returns-else-is_valid_key-clause-pinned : goal.returns-else-is_valid_key-clause-pinned
returns-else-is_valid_key-clause-pinned c = stays_pinned c.look_gate.ensures refl refl c.requires.pinned
