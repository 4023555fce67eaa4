use Rattle.nio_poller.proofs.Trying.{begin_gives}
use Rattle.nio_steps.proofs.PinLaws.{pins_are_given_back}
use Rattle.nio_bench.proofs.SetUp.{stays_call, stays_then}
use Rattle.nio_bench.proofs.select.select.Goals as goal

pub returns : goal.returns
returns g c =
    let begun = stays_call (begin_gives _ _ _) c.try_begin.ensures.call c.try_begin.ensures.ready c.requires in
    stays_then begun
    (stays_call (pins_are_given_back.told _ _ _) c.told.ensures.call c.told.ensures.ready begun.idle)
