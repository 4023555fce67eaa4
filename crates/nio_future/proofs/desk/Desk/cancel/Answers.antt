use Rattle.std.proofs.Common.{ap, ◌∙◌, subst, sym}
use Rattle.nio_group.specs.Flight.{op_at}
use Rattle.nio_group.specs.Group.{StaysMade}
use Rattle.nio_future.specs.Desk.{DeskState, is_out}
use Rattle.nio_future.specs.Tickets.{KeepsTickets}
use Rattle.nio_future.proofs.SettleLemmas.{desk_of}
use Rattle.nio_future.proofs.TicketLemmas.{cancelled, IsCancelled}
use Rattle.nio_future.proofs.desk.Desk.cancel.Goals as goal

left : (c : goal.After-end) → IsCancelled c.args.self.now
    (desk_of c.self.inside.core c.end.new.self c.self.inside.source.id c.self.inside.waiting) c.args.ticket
left c =
    let i = c.self.inside in
    let d = desk_of i.core i.out i.source.id i.waiting in
    let closed = c.close_for-pending.ensures in
    let view = c.self.view_is in
    cancelled d c.args.self.now c.args.ticket c.op-op.result c.end.new.self c.self.invariant c.requires c.op-op.ensures
    (view ∙ closed.after) (ap (λ (x : DeskState). is_out x c.op-op.result.0) view ∙ closed.out)
    (ap (λ (x : DeskState). op_at x.group.flight c.op-op.result.0) view ∙ closed.ended)
    (subst (λ (x : DeskState). KeepsTickets c.args.self.now x) (sym view) closed.tickets) c.end.ensures

pub invariant_of-self : goal.invariant_of-self
invariant_of-self c = (left c).desk

pub returns-clause-after : goal.returns-clause-after
returns-clause-after c = (left c).after

pub returns-clause-made : goal.returns-clause-made
returns-clause-made c =
    subst (λ (x : DeskState). StaysMade c.args.self.now.group x.group) (sym c.self.view_is)
    c.close_for-pending.ensures.made

pub returns-clause-tickets : goal.returns-clause-tickets
returns-clause-tickets c = (left c).tickets
