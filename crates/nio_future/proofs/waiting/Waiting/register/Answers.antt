use Rattle.std.proofs.Common.{◌∙◌, refl}
use Rattle.nio_future.proofs.WaitingLemmas.{same-names}
use Rattle.nio_future.proofs.waiting.Waiting.register.Goals as goal
use Rattle.nio_future.proofs.waiting.Waiting.register.Goals.{in-Some, in-None}

pub returns-clause-same : goal.returns-clause-same
returns-clause-same c =
    elim c.match-get_mut.branch [
      | in-Some w ↦
          rw w.self-inside-is
          (same-names c.self.inside.places.items c.place_of.result w.in-Some.place.now _ refl w.in-Some.ensures.value
          ∙ c.self.view_is)
      | in-None w ↦ rw w.self-inside-is c.self.view_is
    ]
