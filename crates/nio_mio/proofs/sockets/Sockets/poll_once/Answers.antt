use Rattle.std.proofs.Common.{sym, subst}
use Rattle.nio_kept.specs.News.{Heard, Remembers}
use Rattle.nio_mio.proofs.sockets.Sockets.poll_once.Goals as goal

pub returns-then-hear_all-clause-remembers : goal.returns-then-hear_all-clause-remembers
returns-then-hear_all-clause-remembers c =
    λ was. c.hear_all.ensures.remembers
    (subst (λ (n : Heard). Remembers n c.args.asked.now) (sym c.poll_for.ensures) was)
