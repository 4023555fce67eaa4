use Rattle.std.proofs.Common.{◌≡◌, Some, subst}
use Rattle.std.specs.Prelude.{fold}
use Rattle.nio_caller.specs.Callers.{selection}
use Rattle.nio_c.specs.Holding.{Holding}
use Rattle.nio_c.specs.Selections.{told_changes}
use Rattle.nio_c.proofs.Changes.{took_note}
use Rattle.nio_c.proofs.kept.Kept.tell.Goals as goal

pub returns-clause-listed : goal.returns-clause-listed
returns-clause-listed g c =
    subst (λ (h : Holding). c.told_listing.new.lister ≡ fold g.L.Lister.noted c.args.lister.now
    (told_changes (Some c.told_listing.result) (selection h.caller c.args.sel) h.caller c.told_listing.new.self))
    c.self.view_is
    (took_note g.L.Lister.noted c.self.inside.caller c.told_listing.new.self c.told_listing.result
    (selection c.self.inside.caller c.args.sel) c.args.lister.now c.told_listing.new.lister c.told_listing.ensures.none
    c.told_listing.ensures.untold c.told_listing.ensures.listed)

pub returns-clause-again : goal.returns-clause-again
returns-clause-again g c = λ goes_on. c.told_listing.ensures.again (cc goes_on)
