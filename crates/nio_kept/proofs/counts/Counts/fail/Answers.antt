use Rattle.std.proofs.Common.{inl, arith}
use Rattle.nio_kept.proofs.Counting.{more_here, more_else}
use Rattle.nio_kept.proofs.counts.Counts.fail.Goals as goal

pub returns-clause-later : goal.returns-clause-later
returns-clause-later c = rw (c.push.ensures, more_here c.args.self.now.failed c.args.chan) (omega arith)

pub returns-clause-rose : goal.returns-clause-rose
returns-clause-rose c = rw (c.push.ensures, more_here c.args.self.now.failed c.args.chan) (inl (omega arith))

pub returns-clause-others : goal.returns-clause-others
returns-clause-others c =
    λ k differ. rw (c.push.ensures, more_else c.args.self.now.failed c.args.chan k differ)
