use Rattle.nio_history.specs.PassViews.{HasChannel}
use Rattle.nio_caller.specs.Callers.{sees}
use Rattle.nio_caller.proofs.Finding.{looked_channel, channel_there}
use Rattle.nio_caller.proofs.NamedCalls.{still_of}
use Rattle.nio_caller.proofs.callers.Caller.has_channel.Goals as goal

pub returns-clause-call : goal.returns-clause-call
returns-clause-call g c =
    rw c.is_some.ensures (looked_channel c.args.chan c.find_channel.result c.find_channel.ensures.call)

pub returns-clause-still : goal.returns-clause-still
returns-clause-still g c =
    still_of c.find_channel.ensures.call

pub returns-clause-has : goal.returns-clause-has
returns-clause-has g c =
    rw c.is_some.ensures (channel_there (HasChannel (sees c.find_channel.new.self)) c.args.chan c.find_channel.result c.find_channel.ensures.call c.find_channel.ensures.found)
