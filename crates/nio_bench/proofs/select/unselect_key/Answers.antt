use Rattle.nio_steps.proofs.PinLaws.{pins_are_given_back}
use Rattle.nio_bench.proofs.SetUp.{idle_call, stays_after, stays_call, stays_then}
use Rattle.nio_bench.proofs.select.unselect_key.Goals as goal

pub unselect-requires-clause-unpinned : goal.unselect-requires-clause-unpinned
unselect-requires-clause-unpinned c =
    (idle_call (pins_are_given_back.find _ _ _ _) c.find.ensures.call c.find.ensures.ready c.requires).unpinned

pub returns : goal.returns
returns c =
    let found = stays_call (pins_are_given_back.find _ _ _ _) c.find.ensures.call c.find.ensures.ready c.requires in
    stays_then found
    (stays_after c.unselect.ensures.call.acts c.unselect.ensures.ready c.unselect.ensures.unpinned found.idle)
