use Rattle.std.proofs.Common.{refl, false}
use Rattle.nio_steps.proofs.PinLaws.{pins_are_given_back}
use Rattle.nio_steps.specs.TableCalls as call
use Rattle.nio_words.specs.Passes.{limits_of}
use Rattle.nio_table_tests.proofs.Idle.{idle_call, selects_after}
use Rattle.nio_table_tests.proofs.calls.channel_with.Goals as goal

pub returns-clause-idle : goal.returns-clause-idle
returns-clause-idle c =
    idle_call (pins_are_given_back.find_channel _ _ _) c.find_channel.ensures.call c.find_channel.ensures.ready c.requires

pub returns-clause-selecting : goal.returns-clause-selecting
returns-clause-selecting c =
    selects_after (call.find_channel c.args.chan.number.0 c.args.chan.serial) (limits_of c.args.w.now) false refl
    c.find_channel.ensures.call
