use Rattle.std.specs.Prelude.{[]}
use Rattle.nio_pool.specs.Hands.{hand, spent}
use Rattle.nio_pool.proofs.queue.open.Given as goal

abbrev pub ghosts-another : goal.ghosts-another
ghosts-another g a = record { left = λ v. hand g.all g.all [] []; right = λ v. spent }
