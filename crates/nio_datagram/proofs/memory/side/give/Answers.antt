use Rattle.nio_datagram.proofs.SideLaws.{cut_as, cut_length}
use Rattle.nio_datagram.proofs.memory.side.give.Goals as goal

pub returns-clause-count : goal.returns-clause-count
returns-clause-count c = cut_length c.min-len.result c.args.bytes.now c.min-len.ensures

pub returns-clause-buffer : goal.returns-clause-buffer
returns-clause-buffer c =
    rw (
      c.copy_from_slice.ensures.after,
      cut_as c.min-len.result c.args.bytes.now c.min-len.ensures,
      ← cut_length c.min-len.result c.args.bytes.now c.min-len.ensures,
    )
