use Rattle.std.proofs.Common.{subst, sym, ◌∙◌}
use Rattle.nio_base.specs.declared.numbers.ChanId.{ChanId}
use Rattle.nio_link.specs.Links.{IsUnused}
use Rattle.nio_net_tests.proofs.passing.accept_both.Goals as goal

pub returns-clause-unused : goal.returns-clause-unused
returns-clause-unused c =
    let chan : ChanId = record { number = record { 0 = 3 }; serial = 0 } in
    subst IsUnused
    (sym (c.accept-second.ensures.links chan ∙ c.accept-first.ensures.links chan ∙ c.listen-listens.ensures.call.links chan))
    (c.requires.unused chan)
