use Rattle.nio_plain.proofs.Replying.{on_err}
use Rattle.nio_script.proofs.Made.{lacks_first}
use Rattle.nio_load.proofs.summary.tally_call.Goals as goal

pub returns-in_err-reply-clause-memory : goal.returns-in_err-reply-clause-memory
returns-in_err-reply-clause-memory g c =
    on_err _ (lacks_first g.Y.System c.args.system.now c.call.new.self c.args.line.now _ c.in_err-reply.ensures.does
    c.in_err-reply.ensures.memory)
