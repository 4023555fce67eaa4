use Rattle.std.proofs.Common.{◌≡◌, ◌≤◌, ◌==◌, ℕ, true, false, not, ◌&&◌, suc, refl, ap, subst, eqb-true, rules}
use Rattle.std.proofs.lemmas.Bool.{and_parts}
use Rattle.nio_history.specs.Sets.{can_reopen, fits_channel}
use Rattle.nio_base.specs.Numbers.{last_serial}
use Rattle.nio_steps.proofs.CallLaws.{returned, left_ask, left_then, left_else, left_of_call}
use Rattle.nio_steps.specs.ChannelCalls.{reopen_channel_plan}
use Rattle.nio_words.proofs.Views.{channel_found, step_acts}
use Rattle.nio_channel.proofs.Chans.{later_opened, present_closed, reopen_parts, spent_serial}
use Rattle.nio_channel.proofs.Made.{closed_after, closed_found, found_made, opened_found, unopen_closed}
use Rattle.nio_channel.proofs.reopening.reopen_channel.Goals as goal

pub returns-then-not-fits-clause-lost : goal.returns-then-not-fits-clause-lost
returns-then-not-fits-clause-lost c = λ _.
    let another : fits_channel c.look_channel-found.result c.args.chan.serial ≡ false = search rules in
    record {
      inside = c.requires.channel.inside;
      opened = channel_found (suc c.args.chan.serial) (step_acts c.look_channel-found.ensures refl)
          (later_opened c.look_channel-found.result c.args.chan.serial
          (opened_found (step_acts c.look_channel-found.ensures refl) c.requires.channel) another);
    }

pub returns-then-not-fits-clause-closed : goal.returns-then-not-fits-clause-closed
returns-then-not-fits-clause-closed c = λ _.
    let another : fits_channel c.look_channel-found.result c.args.chan.serial ≡ false = search rules in
    unopen_closed (step_acts c.look_channel-found.ensures refl) c.requires.channel
    (ap (λ b. b && not c.look_channel-found.result.closed) another)

pub returns-then-not-can_reopen-clause-closed : goal.returns-then-not-can_reopen-clause-closed
returns-then-not-can_reopen-clause-closed c = λ _.
    let present : fits_channel c.look_channel-found.result c.args.chan.serial ≡ true = search rules in
    let closed : c.look_channel-found.result.closed ≡ true = search rules in
    closed_found c.args.chan c.look_channel-found.result (step_acts c.look_channel-found.ensures refl) refl
    (present_closed c.look_channel-found.result c.args.chan.serial present closed)

pub returns-then-not-can_reopen-clause-spent : goal.returns-then-not-can_reopen-clause-spent
returns-then-not-can_reopen-clause-spent c = λ _.
    let present : fits_channel c.look_channel-found.result c.args.chan.serial ≡ true = search rules in
    let closed : c.look_channel-found.result.closed ≡ true = search rules in
    let spent : can_reopen c.look_channel-found.result ≡ false = search rules in
    let fit = and_parts c.look_channel-found.result.made (c.look_channel-found.result.serial == c.args.chan.serial)
    present in
    subst (λ (n : ℕ). last_serial ≤ n) (eqb-true c.look_channel-found.result.serial c.args.chan.serial fit.1)
    (spent_serial c.look_channel-found.result fit.0 closed spent)

pub reopen_found-requires-clause-made : goal.reopen_found-requires-clause-made
reopen_found-requires-clause-made c =
    let can : can_reopen c.look_channel-found.result ≡ true = search rules in
    found_made (step_acts c.look_channel-found.ensures refl) (reopen_parts c.look_channel-found.result can).made

pub returns-clause-call : goal.returns-clause-call
unfolding reopen_channel_plan
returns-clause-call c =
    let present : not (fits_channel c.look_channel-found.result c.args.chan.serial) ≡ false = search rules in
    let closed : not c.look_channel-found.result.closed ≡ false = search rules in
    let can : can_reopen c.look_channel-found.result ≡ true = search rules in
    returned (left_ask _ (step_acts c.look_channel-found.ensures refl)
    (left_else _ _ _ present
    (left_else _ _ _ closed (left_then _ _ _ can (left_of_call c.reopen_found.ensures.call)))))

pub returns-clause-closed : goal.returns-clause-closed
returns-clause-closed c = λ _.
    let present : fits_channel c.look_channel-found.result c.args.chan.serial ≡ true = search rules in
    let closed : c.look_channel-found.result.closed ≡ true = search rules in
    closed_after c.args.chan c.reopen_found.ensures.call.acts
    (closed_found c.args.chan c.look_channel-found.result (step_acts c.look_channel-found.ensures refl) refl
    (present_closed c.look_channel-found.result c.args.chan.serial present closed))
