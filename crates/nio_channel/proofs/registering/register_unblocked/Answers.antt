use Rattle.std.proofs.Common.{refl}
use Rattle.nio_steps.proofs.CallLaws.{returned, left_ask, ran_then, left_of_call}
use Rattle.nio_steps.specs.ChannelCalls.{register_rest}
use Rattle.nio_words.proofs.Pins.{no_pin_stays}
use Rattle.nio_words.proofs.Views.{step_acts}
use Rattle.nio_words.specs.Passes.{limits_of}
use Rattle.nio_channel.proofs.Held.{unblocked_over}
use Rattle.nio_channel.proofs.registering.register_unblocked.Goals as goal

pub register_over-over-requires-clause-unblocked : goal.register_over-over-requires-clause-unblocked
register_over-over-requires-clause-unblocked c =
    unblocked_over c.look_enrolled-enrolled.ensures.step refl refl refl refl c.requires.unblocked

pub register_over-over-requires-clause-unpinned : goal.register_over-over-requires-clause-unpinned
register_over-over-requires-clause-unpinned c =
    no_pin_stays (step_acts c.look_enrolled-enrolled.ensures.step refl) refl c.requires.unpinned

pub returns-clause-call : goal.returns-clause-call
returns-clause-call c =
    returned (left_ask _ (step_acts c.look_enrolled-enrolled.ensures.step refl)
    (ran_then
    (register_rest (limits_of c.args.w.now) c.args.wanted.now.sel c.args.wanted.now.chan c.args.wanted.now.ops
    c.args.wanted.now.att)
    c.register_over-over.ensures.call (left_of_call c.register_rest.ensures.call)))
