use Rattle.nio_poller.proofs.Trying.{closes_finished, closes_found}
use Rattle.nio_poller.proofs.waking.close.Goals as goal

pub returns-in-Closing-clause-call : goal.returns-in-Closing-clause-call
returns-in-Closing-clause-call g c =
    let begun = c.in-Closing.ensures in
    closes_finished c.args.sel c.in-Closing.closing begun.closing.0 begun.call c.finish.ensures.call

pub returns-in-AlreadyClosed-clause-call : goal.returns-in-AlreadyClosed-clause-call
returns-in-AlreadyClosed-clause-call g c = closes_found c.args.sel c.in-AlreadyClosed.ensures.call
