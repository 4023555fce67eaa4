use Rattle.std.proofs.Common.{◌≡◌, replicate}
use Rattle.nio_jobs.specs.Jobs.{no_jobs}
use Rattle.nio_jobs.proofs.jobs.Jobs.make.Given as goal

abbrev pub invariant-loop : goal.invariant-loop
invariant-loop l = l.all.items ≡ replicate l.counter (no_jobs 0)
