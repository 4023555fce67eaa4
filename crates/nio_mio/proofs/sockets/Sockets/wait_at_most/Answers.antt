use Rattle.std.proofs.Common.{rules}
use Rattle.nio_mio.proofs.sockets.Sockets.wait_at_most.Goals as goal

pub returns-in_err-poll_once-clause-remembers : goal.returns-in_err-poll_once-clause-remembers
returns-in_err-poll_once-clause-remembers g c = λ was. c.poll_once.ensures.remembers (c.loop.invariant.3 was)

pub returns-then-is_told-clause-remembers : goal.returns-then-is_told-clause-remembers
returns-then-is_told-clause-remembers g c = λ was. c.poll_once.ensures.remembers (c.loop.invariant.3 was)

pub returns-then-eq-clause-remembers : goal.returns-then-eq-clause-remembers
returns-then-eq-clause-remembers g c = λ was. c.poll_once.ensures.remembers (c.loop.invariant.3 was)

pub loop-preserved : goal.loop-preserved
loop-preserved g c = (
  search rules,
  search rules,
  λ known. c.in_ok-poll_once.ensures.knows (c.loop.invariant.2 known),
  λ was. c.poll_once.ensures.remembers (c.loop.invariant.3 was),
)
