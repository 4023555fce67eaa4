use Rattle.std.proofs.Common.{◌≡◌, sym, ◌∙◌, ap, subst, ◌∷◌, [], Ok, Some}
use Rattle.nio_group.specs.Group.{IsMade}
use Rattle.nio_group.specs.declared.refusal.StartError.TheVariants.{FlightFull}
use Rattle.nio_future.specs.Desk.{DeskState}
use Rattle.nio_future.specs.Ticket.{Ticket}
use Rattle.nio_future.specs.Tickets.{IsTicketOf, TakesTicket}
use Rattle.nio_future.proofs.SettleLemmas.{desk_of}
use Rattle.nio_future.proofs.StartLemmas.{free-of, full-cause, not-refused, numbers-left, settling-start, started-facts}
use Rattle.nio_future.proofs.StartLemmas.{IsStarted}
use Rattle.nio_future.proofs.desk.Desk.start.Goals as goal

-- the group doesn't refuse it either
never : (c : goal.After-from_residual) → ⊥
never c =
    let i = c.self.inside in
    let d = desk_of i.core i.out i.source.id i.waiting in
    let free = free-of d _ c.args.chan c.args.kind c.self.invariant c.self.view_is
    (sym c.start_refusal.ensures ∙ c.in_default.is) in
    not-refused d c.args.chan c.args.kind c.in_err-op.field-0.0 free.0 (sym c.in_err-op.was ∙ c.start.ensures.answer)

pub invariant_of-self : goal.invariant_of-self
invariant_of-self c = absurd (never c)

pub returns-in_err-op-clause-answer : goal.returns-in_err-op-clause-answer
returns-in_err-op-clause-answer c = absurd (never c)

pub returns-in_err-op-clause-after : goal.returns-in_err-op-clause-after
returns-in_err-op-clause-after c = absurd (never c)

pub returns-in_err-op-clause-full : goal.returns-in_err-op-clause-full
returns-in_err-op-clause-full c = absurd (never c)

pub returns-in_err-op-clause-made : goal.returns-in_err-op-clause-made
returns-in_err-op-clause-made c = absurd (never c)

pub returns-in_err-op-clause-refused : goal.returns-in_err-op-clause-refused
returns-in_err-op-clause-refused c = absurd (never c)

pub accept-requires-clause-room : goal.accept-requires-clause-room
accept-requires-clause-room c =
    let i = c.self.inside in
    let d = desk_of i.core i.out i.source.id i.waiting in
    let free = free-of d _ c.args.chan c.args.kind c.self.invariant c.self.view_is
    (sym c.start_refusal.ensures ∙ c.in_default.is) in
    free.1

pub accept-requires-clause-numbers : goal.accept-requires-clause-numbers
accept-requires-clause-numbers c =
    let i = c.self.inside in
    let d = desk_of i.core i.out i.source.id i.waiting in
    let free = free-of d _ c.args.chan c.args.kind c.self.invariant c.self.view_is
    (sym c.start_refusal.ensures ∙ c.in_default.is) in
    numbers-left d c.args.chan c.args.kind c.self.invariant free.0

pub settle-requires : goal.settle-requires
settle-requires c =
    let i = c.self.inside in
    let d = desk_of i.core i.out i.source.id i.waiting in
    let free = free-of d _ c.args.chan c.args.kind c.self.invariant c.self.view_is
    (sym c.start_refusal.ensures ∙ c.in_default.is) in
    let made : IsMade d.group c.args.chan = rw (← c.self.view_is) at c.requires in
    settling-start d c.args.chan c.args.kind c.args.len _ _ c.self.invariant made free.0 free.1 c.start.ensures.after
    c.accept.ensures.accepts

begun : (c : goal.After-make) → IsStarted c.args.self.now
    (desk_of c.settle.new.core c.settle.new.out c.self.inside.source.id c.settle.new.waiting) c.args.chan c.args.kind c.args.len c.in_ok-op.op
begun c =
    let i = c.self.inside in
    let d = desk_of i.core i.out i.source.id i.waiting in
    let made : IsMade d.group c.args.chan = rw (← c.self.view_is) at c.requires in
    started-facts d _ _ c.args.chan c.args.kind c.args.len _ _ c.in_ok-op.op c.self.invariant c.self.view_is made
    (sym c.start_refusal.ensures ∙ c.in_default.is) (sym c.in_ok-op.was ∙ c.start.ensures.answer)
    c.start.ensures.after c.accept.ensures.accepts c.settle.ensures.settles

ticket : (c : goal.After-make) → c.make.result ≡ record { op = c.in_ok-op.op; desk = c.args.self.now.source ∷ [] }
ticket c =
    let source = ap (λ (x : DeskState). x.source) c.self.view_is in
    rw (← source) c.make.ensures

pub returns-clause-answer : goal.returns-clause-answer
returns-clause-answer c = ap Ok (ticket c) ∙ (begun c).answer

pub returns-clause-after : goal.returns-clause-after
returns-clause-after c = (begun c).after

pub returns-clause-made : goal.returns-clause-made
returns-clause-made c = (begun c).made

pub returns-clause-given : goal.returns-clause-given
returns-clause-given c =
    subst (λ (t : Ticket). IsTicketOf (desk_of c.settle.new.core c.settle.new.out c.self.inside.source.id c.settle.new.waiting) t)
    (sym (ticket c)) (begun c).given

pub returns-clause-tickets : goal.returns-clause-tickets
returns-clause-tickets c =
    subst (λ (t : Ticket). TakesTicket t c.args.self.now (desk_of c.settle.new.core c.settle.new.out
    c.self.inside.source.id c.settle.new.waiting)) (sym (ticket c)) (begun c).tickets

pub returns-in-Some-clause-full : goal.returns-in-Some-clause-full
returns-in-Some-clause-full c = λ is.
    let full : c.in-Some.refused ≡ FlightFull = cc in
    full-cause c.args.self.now c.args.chan c.args.kind
    (sym c.start_refusal.ensures ∙ c.in-Some.is ∙ ap Some full)

pub returns-in_err-op-clause-given : goal.returns-in_err-op-clause-given
returns-in_err-op-clause-given c = absurd (never c)
