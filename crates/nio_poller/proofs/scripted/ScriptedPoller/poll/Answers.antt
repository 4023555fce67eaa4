use Rattle.nio_select.specs.InProgress.{poll_of}
use Rattle.nio_poller.proofs.Scripts.{last_told-added}
use Rattle.nio_poller.proofs.scripted.ScriptedPoller.poll.Goals as goal

pub returns-clause-ready : goal.returns-clause-ready
returns-clause-ready g c =
    λ channel. last_told-added c.self-2.inside.polls c.add_to.new.polls
    (record { asked = c.args.asked.now.keys; mode = c.args.mode; answer = poll_of c.next_told-told.result }) channel
    c.add_to.ensures
