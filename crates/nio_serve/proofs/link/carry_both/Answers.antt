use Rattle.nio_poller.proofs.Marks.{within_trans}
use Rattle.nio_serve.proofs.link.carry_both.Goals as goal

pub carry-requires-clause-read : goal.carry-requires-clause-read
carry-requires-clause-read g c is =
    within_trans 1 c.args.told.ops.client _ (c.within-client_reads.ensures.0 is) c.requires.ready.client

pub carry-requires-clause-write : goal.carry-requires-clause-write
carry-requires-clause-write g c is =
    within_trans 4 c.args.told.ops.target _ (c.within-target_writes.ensures.0 is) c.requires.ready.target

pub carry-requires-2-clause-read : goal.carry-requires-2-clause-read
carry-requires-2-clause-read g c is =
    c.carry.ensures.passes.read
    (within_trans 1 c.args.told.ops.target _ (c.within-target_reads.ensures.0 is) c.requires.ready.target)

pub carry-requires-2-clause-write : goal.carry-requires-2-clause-write
carry-requires-2-clause-write g c is =
    c.carry.ensures.passes.write
    (within_trans 4 c.args.told.ops.client _ (c.within-client_writes.ensures.0 is) c.requires.ready.client)
