use Rattle.nio_poller.proofs.Quiet.{quiet}
use Rattle.nio_poller.proofs.sleeper.SleeperPoller.poll.Goals as goal

pub returns-clause-ready : goal.returns-clause-ready
returns-clause-ready g c = λ channel. quiet c.args.asked.now.keys c.new.result.items channel c.new.ensures.items
