use Rattle.nio_steps.proofs.PinLaws.{pins_are_given_back}
use Rattle.nio_bench.proofs.SetUp.{idle_call, stays_after}
use Rattle.nio_bench.proofs.select.set_key.Goals as goal

pub set_interest-requires-clause-unpinned : goal.set_interest-requires-clause-unpinned
set_interest-requires-clause-unpinned c =
    (idle_call (pins_are_given_back.find _ _ _ _) c.find.ensures.call c.find.ensures.ready c.requires).unpinned

pub returns : goal.returns
returns c =
    (stays_after c.set_interest.ensures.call.acts c.set_interest.ensures.ready c.set_interest.ensures.unpinned
    (idle_call (pins_are_given_back.find _ _ _ _) c.find.ensures.call c.find.ensures.ready c.requires)).idle
