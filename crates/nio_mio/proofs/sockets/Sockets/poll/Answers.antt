use Rattle.std.proofs.Common.{rules}
use Rattle.nio_kept.proofs.Continues.{continues_unlisted}
use Rattle.nio_mio.proofs.sockets.Sockets.poll.Goals as goal

pub returns-in-Ok-clause-told : goal.returns-in-Ok-clause-told
returns-in-Ok-clause-told g c = search rules

pub returns-in-Ok-clause-unlisted : goal.returns-in-Ok-clause-unlisted
returns-in-Ok-clause-unlisted g c =
    λ unlisted apart. returns-in-Ok-clause-told g c
    (continues_unlisted c.args.self.now.news c.args.asked.now unlisted apart)

pub returns-in-Ok-clause-remembers : goal.returns-in-Ok-clause-remembers
returns-in-Ok-clause-remembers g c =
    λ follows. c.tell.ensures.known c.args.asked.now (c.wait.ensures.remembers (c.look.ensures.remembers follows))

pub returns-in-Err-clause-remembers : goal.returns-in-Err-clause-remembers
returns-in-Err-clause-remembers g c =
    λ follows. c.tell.ensures.known c.args.asked.now (c.wait.ensures.remembers (c.look.ensures.remembers follows))
