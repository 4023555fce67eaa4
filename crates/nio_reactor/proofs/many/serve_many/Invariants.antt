use Rattle.std.proofs.Common.{length, map}
use Rattle.nio_reactor.specs.Dealing.{slots_of}
use Rattle.nio_reactor.proofs.many.serve_many.Given as goal

abbrev pub ghosts-serve_between : goal.ghosts-serve_between
ghosts-serve_between g a = record {
  lines = map (λ e. e.line) a.exits.items;
  conns = a.outgoing.plan.conns;
  slots = slots_of (length a.more.now.items) a.outgoing.plan;
}
