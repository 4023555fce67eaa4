use Rattle.std.proofs.Common.{refl, ◌∙◌}
use Rattle.nio_checked.proofs.Leaving.{unchanged, written_same}
use Rattle.nio_checked.proofs.checked.CheckedNet.read.Goals as goal

pub returns-clause-untold : goal.returns-clause-untold
returns-clause-untold g c =
    rw (← c.self.view_is) (λ allowed none.
    let left = c.read.ensures.untold allowed (rw c.deref_mut.ensures.value none) in (
      left.0,
      unchanged _ _ left.1 refl (written_same c.self.inside.told c.read.new.told (left.2 ∙ c.deref_mut.ensures.value))
          refl refl,
      left.3,
    ))
