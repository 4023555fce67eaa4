use Rattle.std.proofs.Common.{refl, false}
use Rattle.nio_channel.proofs.Idle.{idle_after}
use Rattle.nio_steps.specs.TableCalls as call
use Rattle.nio_words.specs.Passes.{limits_of}
use Rattle.nio_table_tests.proofs.Idle.{selects_after}
use Rattle.nio_table_tests.proofs.amid.registers.Goals as goal

pub returns-clause-idle : goal.returns-clause-idle
returns-clause-idle c =
    idle_after c.try_register.ensures.call.acts c.try_register.ensures.ready.pass c.try_register.ensures.unpinned
    c.in-Some.ensures.idle

pub returns-clause-selecting : goal.returns-clause-selecting
returns-clause-selecting c = λ selection has.
    selects_after (call.try_register _ c.in-Some.chan _ _) (limits_of c.args.w.now) false refl c.try_register.ensures.call selection
    (c.in-Some.ensures.selecting selection has)
