use Rattle.std.proofs.Common.{◌+◌, ◌≤◌, length, ap, arith}
use Rattle.std.proofs.lemmas.Grind.{common_steps}
use Rattle.nio_link.specs.Pieces.{total, count_of}
use Rattle.nio_link.proofs.Pieces.{total_after}
use Rattle.nio_link.proofs.memory.link.MemoryLink.read.Goals as goal

pub invariant_of-self : goal.invariant_of-self
invariant_of-self c =
    let taken : total c.read.new.self + c.in-Bytes.count ≤ total c.self.inside.pieces =
    omega (
      arith,
      total_after c.self.inside.pieces (length c.args.into.now),
      ap total c.in-Bytes.ensures.left,
      ap count_of c.in-Bytes.ensures.got,
    ) in
    (grind (arith, common_steps), c.self.invariant.1, c.self.invariant.2, c.self.invariant.3)
