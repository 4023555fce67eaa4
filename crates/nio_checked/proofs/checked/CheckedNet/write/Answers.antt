use Rattle.std.proofs.Common.{refl, ap, ◌∙◌, arith}
use Rattle.nio_link.specs.Readiness.{ready_after_write}
use Rattle.nio_checked.specs.Checked.{as_failed}
use Rattle.nio_checked.specs.Listed.{told_after}
use Rattle.nio_checked.proofs.Leaving.{unchanged, written, written_same}
use Rattle.nio_checked.proofs.checked.CheckedNet.write.Goals as goal

pub returns-clause-untold : goal.returns-clause-untold
returns-clause-untold g c =
    rw (← c.self.view_is) (λ allowed none.
    let left = c.write.ensures.untold allowed (rw c.deref_mut.ensures.value none) in (
      left.0,
      unchanged _ _ left.1 refl
          (written_same c.self.inside.told c.write.new.told (left.2 ∙ c.deref_mut.ensures.value)) refl refl,
    ))

pub returns-clause-told : goal.returns-clause-told
returns-clause-told g c =
    rw (← c.self.view_is) (λ allowed told.
    written c.self.inside.told c.write.new.told
    (omega (arith, c.write.auto.told, c.deref_mut.ensures.len, c.self.inside.told.ok.0))
    (c.write.ensures.told allowed (rw c.deref_mut.ensures.value told)
    ∙ ap (told_after c.args.chan.number (ready_after_write (as_failed c.write.result))) c.deref_mut.ensures.value))
