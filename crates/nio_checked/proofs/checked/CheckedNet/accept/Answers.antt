use Rattle.std.proofs.Common.{ℕ, List, refl, ap, ◌∙◌, arith}
use Rattle.nio_base.specs.declared.numbers.ChanNo.{ChanNo}
use Rattle.nio_link.specs.Places.{is_there}
use Rattle.nio_link.specs.Readiness.{ready_after_accept, ready_after_making}
use Rattle.nio_checked.specs.Checked.{as_failed}
use Rattle.nio_checked.specs.Listed.{told_after}
use Rattle.nio_checked.proofs.Leaving.{unchanged, written, written_same}
use Rattle.nio_checked.proofs.checked.CheckedNet.accept.Goals as goal

pub returns-clause-untold : goal.returns-clause-untold
returns-clause-untold g c =
    rw (← c.self.view_is) (λ allowed none.
    let left = c.accept.ensures.untold allowed (rw c.deref_mut.ensures.value none) in (
      left.0,
      unchanged _ _ left.1 c.accept.ensures.numbers
          (written_same c.self.inside.told c.accept.new.told (left.2 ∙ c.deref_mut.ensures.value)) refl refl,
    ))

pub returns-clause-told : goal.returns-clause-told
returns-clause-told g c =
    rw (← c.self.view_is) (λ allowed told.
    written c.self.inside.told c.accept.new.told
    (omega (arith, c.accept.auto.told, c.deref_mut.ensures.len, c.self.inside.told.ok.0))
    (c.accept.ensures.told allowed (rw c.deref_mut.ensures.value told)
    ∙ ap (λ (told : List (ChanNo × ℕ)). told_after c.args.chan.number
    (ready_after_making (is_there (g.N.Net.place c.accept.new.net c.args.chan).standing))
    (told_after c.args.listener.number (ready_after_accept (as_failed c.accept.result)) told)) c.deref_mut.ensures.value))
