use Rattle.nio_timed.proofs.called.call_group.Goals as goal

pub returns-in-Start-clause-reply : goal.returns-in-Start-clause-reply
returns-in-Start-clause-reply c = rw c.in-Start.is (rw c.unlimited.ensures at c.start.ensures.reply)

pub returns-in-Start-clause-left : goal.returns-in-Start-clause-left
returns-in-Start-clause-left c = rw c.in-Start.is (rw c.unlimited.ensures at c.start.ensures.left)
