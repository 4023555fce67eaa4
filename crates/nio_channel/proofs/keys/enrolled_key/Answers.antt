use Rattle.std.proofs.Common.{◌≡◌, true, false, if◌then◌else◌, Some, None, refl, ap, rules}
use Rattle.nio_history.specs.Sets.{is_in_key_set}
use Rattle.nio_steps.proofs.CallLaws.{returned, left_ask}
use Rattle.nio_steps.specs.Names.{key}
use Rattle.nio_steps.specs.Plan.{reply}
use Rattle.nio_words.proofs.Views.{step_acts}
use Rattle.nio_channel.proofs.Chains.{left_at}
use Rattle.nio_channel.proofs.Held.{hold_stays, clear_below_none, clear_below_outside, looked_key}
use Rattle.nio_channel.proofs.keys.enrolled_key.Goals as goal

pub returns-in_default-clause-held : goal.returns-in_default-clause-held
returns-in_default-clause-held c = λ held. hold_stays c.look_enrolled.ensures.step refl refl held

pub returns-in_default-clause-clear : goal.returns-in_default-clause-clear
returns-in_default-clause-clear c = λ _ clear. clear_below_none c.in_default.ensures.step clear

pub returns-then-is_in_key_set-clause-call : goal.returns-then-is_in_key_set-clause-call
returns-then-is_in_key_set-clause-call c =
    let found : is_in_key_set c.look_key-stage.result c.in-Some.k.serial ≡ true = search rules in
    returned (left_ask _ (step_acts c.in-Some.ensures.step refl) (left_ask _ (step_acts c.look_key-stage.ensures refl)
    (left_at (ap (λ b. reply (if b then Some (key c.args.sel c.in-Some.k) else None)) found)
    (step_acts c.look_key-stage.ensures refl))))

pub returns-then-is_in_key_set-clause-found : goal.returns-then-is_in_key_set-clause-found
returns-then-is_in_key_set-clause-found c =
    let found : is_in_key_set c.look_key-stage.result c.in-Some.k.serial ≡ true = search rules in
    looked_key c.look_key-stage.ensures c.in-Some.ensures.inside found

pub returns-then-is_in_key_set-clause-held : goal.returns-then-is_in_key_set-clause-held
returns-then-is_in_key_set-clause-held c =
    λ held. hold_stays c.look_key-stage.ensures refl refl (hold_stays c.in-Some.ensures.step refl refl held)

pub returns-else-is_in_key_set-clause-call : goal.returns-else-is_in_key_set-clause-call
returns-else-is_in_key_set-clause-call c =
    let out : is_in_key_set c.look_key-stage.result c.in-Some.k.serial ≡ false = search rules in
    returned (left_ask _ (step_acts c.in-Some.ensures.step refl) (left_ask _ (step_acts c.look_key-stage.ensures refl)
    (left_at (ap (λ b. reply (if b then Some (key c.args.sel c.in-Some.k) else None)) out)
    (step_acts c.look_key-stage.ensures refl))))

pub returns-else-is_in_key_set-clause-held : goal.returns-else-is_in_key_set-clause-held
returns-else-is_in_key_set-clause-held c =
    λ held. hold_stays c.look_key-stage.ensures refl refl (hold_stays c.in-Some.ensures.step refl refl held)

pub returns-else-is_in_key_set-clause-clear : goal.returns-else-is_in_key_set-clause-clear
returns-else-is_in_key_set-clause-clear c = λ _ clear.
    let out : is_in_key_set c.look_key-stage.result c.in-Some.k.serial ≡ false = search rules in
    clear_below_outside c.in-Some.ensures.step c.look_key-stage.ensures out clear
