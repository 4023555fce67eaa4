use Rattle.std.proofs.Common.{refl, arith}
use Rattle.std.proofs.lemmas.Grind.{common_steps}
use Rattle.nio_link.proofs.Present.{none_vacant, some_there}
use Rattle.nio_link.proofs.place_log.PlaceLog.is_vacant.Goals as goal

pub returns-in-None-clause-vacant : goal.returns-in-None-clause-vacant
returns-in-None-clause-vacant c =
    rw (← c.self.view_is) (
      (λ _. none_vacant c.self.inside.occupants c.self.inside.changes c.args.number
          c.self.invariant (grind (arith, common_steps))),
      λ _. refl,
    )

pub returns-in-Some-clause-vacant : goal.returns-in-Some-clause-vacant
returns-in-Some-clause-vacant c =
    rw (← c.self.view_is) (
      (λ is. absurd (cc is)),
      λ vacant. absurd (some_there c.self.inside.occupants
          c.self.inside.changes c.args.number c.in-Some.field-0 c.self.invariant (grind (arith, common_steps)) vacant),
    )
