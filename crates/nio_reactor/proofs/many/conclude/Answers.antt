use Rattle.std.proofs.Common.{◌∙◌, inr, refl, sym, subst, IsOk}
use Rattle.nio_serve.specs.declared.serving.ServeError.TheVariants.{Memory}
use Rattle.nio_reactor.proofs.Adding.{concludes_sum}
use Rattle.nio_reactor.specs.Working.{AddsUp, CountFew, HasEnded, NoneHasEnded}
use Rattle.nio_reactor.proofs.many.conclude.Goals as goal

pub returns-then-lacks_memory : goal.returns-then-lacks_memory
returns-then-lacks_memory g c =
    inr
    (subst (HasEnded Memory (λ x. x.lane.outcome)) c.deref.ensures.value
    (c.lacks_memory.ensures.some c.if-lacks_memory.true))

pub add_up-requires-clause-faults : goal.add_up-requires-clause-faults
add_up-requires-clause-faults g c κs within =
    subst (CountFew (λ x. x.lane.outcome) c.args.conns) (sym c.deref-2.ensures.value)
    c.requires.faults

pub add_up-requires-clause-memory : goal.add_up-requires-clause-memory
add_up-requires-clause-memory g c κs within =
    subst (NoneHasEnded Memory (λ x. x.lane.outcome)) (c.deref.ensures.value ∙ sym c.deref-2.ensures.value)
    (c.lacks_memory.ensures.none c.if-lacks_memory.false)

pub returns : goal.returns
returns g c =
    concludes_sum c.args.accepted (λ x. x.lane.outcome) c.args.conns c.args.workers.now.items
    (subst (NoneHasEnded Memory (λ x. x.lane.outcome)) c.deref.ensures.value
    (c.lacks_memory.ensures.none c.if-lacks_memory.false)) c.add_up.result
    (subst IsOk (sym c.in_ok-accepted.was) refl)
    (subst (λ l. AddsUp (λ x. x.lane.outcome) c.args.conns l c.add_up.result) c.deref-2.ensures.value c.add_up.ensures)
