use Rattle.nio_history.specs.PassViews.{HasKey}
use Rattle.nio_caller.specs.Callers.{sees}
use Rattle.nio_caller.proofs.Finding.{looked_key, key_there_is}
use Rattle.nio_caller.proofs.NamedCalls.{still_of}
use Rattle.nio_caller.proofs.callers.Caller.has_key.Goals as goal

pub returns-clause-call : goal.returns-clause-call
returns-clause-call g c =
    rw c.is_some.ensures (looked_key c.args.key c.find.result c.find.ensures.call)

pub returns-clause-still : goal.returns-clause-still
returns-clause-still g c =
    still_of c.find.ensures.call

pub returns-clause-has : goal.returns-clause-has
returns-clause-has g c =
    rw c.is_some.ensures (key_there_is (HasKey (sees c.find.new.self)) c.args.key c.find.result c.find.ensures.call c.find.ensures.found)
