use Rattle.nio_steps.proofs.PinLaws.{pins_are_given_back}
use Rattle.nio_bench.proofs.SetUp.{idle_call, stays_after}
use Rattle.nio_bench.proofs.select.cancel_key.Goals as goal

pub cancel-requires-clause-unpinned : goal.cancel-requires-clause-unpinned
cancel-requires-clause-unpinned c =
    (idle_call (pins_are_given_back.find _ _ _ _) c.find.ensures.call c.find.ensures.ready c.requires).unpinned

pub returns : goal.returns
returns c =
    (stays_after c.cancel.ensures.call.acts c.cancel.ensures.ready c.cancel.ensures.unpinned
    (idle_call (pins_are_given_back.find _ _ _ _) c.find.ensures.call c.find.ensures.ready c.requires)).idle
