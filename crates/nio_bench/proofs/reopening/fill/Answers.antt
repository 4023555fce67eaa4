use Rattle.nio_steps.proofs.PinLaws.{pins_are_given_back}
use Rattle.nio_bench.proofs.SetUp.{idle_call}
use Rattle.nio_bench.proofs.reopening.fill.Goals as goal

pub loop-preserved : goal.loop-preserved
loop-preserved c =
    idle_call (pins_are_given_back.open_channel _ _) c.open_channel.ensures.call c.open_channel.ensures.ready
    c.loop.invariant

pub returns-clause-idle : goal.returns-clause-idle
returns-clause-idle c =
    idle_call (pins_are_given_back.open_channel _ _) c.open_channel-2.ensures.call c.open_channel-2.ensures.ready
    c.loop.invariant
