use Rattle.std.proofs.Common.{◌∙◌, refl}
use Rattle.nio_future.proofs.WaitingLemmas.{same-names}
use Rattle.nio_future.proofs.waiting.Waiting.wake.Goals as goal
use Rattle.nio_future.proofs.waiting.Waiting.wake.Goals.{in-Some+in-Some-1, in-Some+in-None-1, in_default}

pub returns : goal.returns
returns c =
    elim c.match-get_mut.branch [
      | in-Some+in-Some-1 w ↦
          rw w.self-inside-is
          (same-names c.self.inside.places.items c.place_of.result w.in-Some.place.now _ refl w.in-Some.ensures.value
          ∙ c.self.view_is)
      | in-Some+in-None-1 w ↦
          rw w.self-inside-is
          (same-names c.self.inside.places.items c.place_of.result w.in-Some.place.now _ refl w.in-Some.ensures.value
          ∙ c.self.view_is)
      | in_default w ↦ rw w.self-inside-is c.self.view_is
    ]
