use Rattle.std.proofs.Common.{true, refl}
use Rattle.nio_group.specs.declared.channel.Endpoint.TheVariants.{Listener}
use Rattle.nio_group.specs.Group.{Group, IsMade, channel_at, is_open}
use Rattle.nio_group.specs.Refusals.{bind_refusal}
use Rattle.nio_group.specs.Steps.{with_endpoint}
use Rattle.nio_group.specs.Run.{bind}
use Rattle.nio_future.proofs.CallLemmas.{called, refused-keeps, settles-call, IsCalled}
use Rattle.nio_future.proofs.SettleLemmas.{desk_of}
use Rattle.nio_future.proofs.desk.Desk.bind.Goals as goal
use Rattle.nio_future.proofs.desk.Desk.bind.Goals.{After-settle}

pub settle-requires : goal.settle-requires
settle-requires c =
    let i = c.self.inside in
    let made : IsMade i.core c.args.chan = rw (← c.self.view_is) at c.requires in
    settles-call (desk_of i.core i.out i.source.id i.waiting) (bind c.args.chan) _ c.self.invariant made refl
    c.bind-answer.ensures.after

-- what the call leaves
leaves : (c : After-settle) → IsCalled c.args.self.now
    (desk_of c.settle.new.core c.settle.new.out c.self.inside.source.id c.settle.new.waiting) (bind c.args.chan)
leaves c =
    let i = c.self.inside in
    let made : IsMade i.core c.args.chan = rw (← c.self.view_is) at c.requires in
    called (desk_of i.core i.out i.source.id i.waiting) _ _ (bind c.args.chan) _ c.self.view_is
    c.self.invariant made refl c.bind-answer.ensures.after c.settle.ensures.settles

pub returns-clause-after : goal.returns-clause-after
returns-clause-after c = (leaves (goal.at.returns-clause-after c).After-settle).after

pub returns-clause-made : goal.returns-clause-made
returns-clause-made c = (leaves (goal.at.returns-clause-made c).After-settle).made

pub returns-clause-tickets : goal.returns-clause-tickets
returns-clause-tickets c = (leaves (goal.at.returns-clause-tickets c).After-settle).tickets

pub returns-clause-refused : goal.returns-clause-refused
returns-clause-refused c =
    let i = c.self.inside in
    let g : Group = i.core in
    let call = leaves (goal.at.returns-clause-refused c).After-settle in
    refused-keeps
    (bind_refusal (is_open g c.args.chan) (channel_at g c.args.chan.number).endpoint) tt c.bind-answer.result
    (desk_of i.core i.out i.source.id i.waiting) _ _
    (with_endpoint g c.args.chan.number (Listener true)) (bind c.args.chan)
    c.bind-answer.ensures.answer refl c.self.invariant c.self.view_is call.after
