use Rattle.std.proofs.Common.{ap, ◌∙◌, arith}
use Rattle.nio_link.specs.Places.{is_there}
use Rattle.nio_link.specs.Readiness.{ready_after_making}
use Rattle.nio_checked.specs.Listed.{told_after}
use Rattle.nio_checked.proofs.Leaving.{written}
use Rattle.nio_checked.proofs.checked.CheckedNet.listen.Goals as goal

pub returns-clause-told : goal.returns-clause-told
returns-clause-told g c =
    rw (← c.self.view_is) (λ allowed.
    written c.self.inside.told c.listen.new.told
    (omega (arith, c.listen.auto.told, c.deref_mut.ensures.len, c.self.inside.told.ok.0))
    (c.listen.ensures.told allowed
    ∙ ap (told_after c.args.chan.number
    (ready_after_making (is_there (g.N.Net.place c.listen.new.net c.args.chan).standing))) c.deref_mut.ensures.value))
