use Rattle.std.proofs.Common.{◌≡◌, sym, ◌∙◌, subst, true, Some}
use Rattle.nio_group.specs.Group.{IsMade}
use Rattle.nio_future.specs.Desk.{DeskState, held_at}
use Rattle.nio_future.proofs.SettleLemmas.{desk_of}
use Rattle.nio_future.proofs.TicketLemmas.{closes, pending-made, waiting-from, ClosesFor}
use Rattle.nio_future.proofs.desk.Desk.close_for.Goals as goal

pub close_channel-requires : goal.close_channel-requires
close_channel-requires c =
    let i = c.self.inside in
    let d = desk_of i.core i.out i.source.id i.waiting in
    let there : held_at d c.args.op.0 ≡ Some c.in-Some.held = sym c.get.ensures ∙ c.in-Some.is in
    let slot = waiting-from d c.args.op.0 c.in-Some.held c.self.invariant there c.in-Pending.is in
    let made = pending-made d c.args.op.0 c.in-Some.held c.self.invariant slot c.in-Pending.is in
    subst (λ (x : DeskState). IsMade x.group c.in-Some.held.chan) c.self.view_is made.1

closed : (c : goal.After-close_channel) → ClosesFor c.args.self.now c.close_channel.new.self c.args.op.0 true
closed c =
    let i = c.self.inside in
    let d = desk_of i.core i.out i.source.id i.waiting in
    let there : held_at d c.args.op.0 ≡ Some c.in-Some.held = sym c.get.ensures ∙ c.in-Some.is in
    closes d c.args.self.now c.close_channel.new.self c.args.op.0 c.in-Some.held c.self.invariant c.self.view_is there
    c.in-Pending.is c.close_channel.ensures.after

pub returns-in-Pending-clause-answer : goal.returns-in-Pending-clause-answer
returns-in-Pending-clause-answer c = (closed c).answer

pub returns-in-Pending-clause-after : goal.returns-in-Pending-clause-after
returns-in-Pending-clause-after c = (closed c).after

pub returns-in-Pending-clause-out : goal.returns-in-Pending-clause-out
returns-in-Pending-clause-out c = (closed c).out

pub returns-in-Pending-clause-ended : goal.returns-in-Pending-clause-ended
returns-in-Pending-clause-ended c = (closed c).ended
