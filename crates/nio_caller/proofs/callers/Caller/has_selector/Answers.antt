use Rattle.nio_history.specs.PassViews.{HasSelector}
use Rattle.nio_caller.specs.Callers.{sees}
use Rattle.nio_caller.proofs.Finding.{looked_selector, selector_there}
use Rattle.nio_caller.proofs.NamedCalls.{still_of}
use Rattle.nio_caller.proofs.callers.Caller.has_selector.Goals as goal

pub returns-clause-call : goal.returns-clause-call
returns-clause-call g c =
    rw c.is_some.ensures (looked_selector c.args.sel c.find_selector.result c.find_selector.ensures.call)

pub returns-clause-still : goal.returns-clause-still
returns-clause-still g c =
    still_of c.find_selector.ensures.call

pub returns-clause-has : goal.returns-clause-has
returns-clause-has g c =
    rw c.is_some.ensures (selector_there (HasSelector (sees c.find_selector.new.self)) c.args.sel c.find_selector.result c.find_selector.ensures.call c.find_selector.ensures.found)
