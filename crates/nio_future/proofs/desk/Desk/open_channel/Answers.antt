use Rattle.std.proofs.Common.{refl}
use Rattle.nio_group.specs.Run.{open_channel}
use Rattle.nio_future.proofs.CallLemmas.{called, open-keeps, opened-made, settles-call, IsCalled}
use Rattle.nio_future.proofs.SettleLemmas.{desk_of}
use Rattle.nio_future.proofs.desk.Desk.open_channel.Goals as goal
use Rattle.nio_future.proofs.desk.Desk.open_channel.Goals.{After-settle}

pub settle-requires : goal.settle-requires
settle-requires c =
    let i = c.self.inside in
    settles-call (desk_of i.core i.out i.source.id i.waiting) (open_channel c.args.kind) _ c.self.invariant tt refl
    c.open_channel-answer.ensures.after

-- what the call leaves
leaves : (c : After-settle) → IsCalled c.args.self.now
    (desk_of c.settle.new.core c.settle.new.out c.self.inside.source.id c.settle.new.waiting) (open_channel c.args.kind)
leaves c =
    let i = c.self.inside in
    called (desk_of i.core i.out i.source.id i.waiting) _ _ (open_channel c.args.kind) _ c.self.view_is
    c.self.invariant tt refl c.open_channel-answer.ensures.after c.settle.ensures.settles

pub returns-clause-after : goal.returns-clause-after
returns-clause-after c = (leaves (goal.at.returns-clause-after c).After-settle).after

pub returns-clause-made : goal.returns-clause-made
returns-clause-made c = (leaves (goal.at.returns-clause-made c).After-settle).made

pub returns-clause-tickets : goal.returns-clause-tickets
returns-clause-tickets c = (leaves (goal.at.returns-clause-tickets c).After-settle).tickets

pub returns-clause-opened : goal.returns-clause-opened
returns-clause-opened c =
    let i = c.self.inside in
    opened-made (desk_of i.core i.out i.source.id i.waiting) c.args.kind _ _ c.self.invariant c.open_channel-answer.ensures.after
    c.settle.ensures.settles _ c.open_channel-answer.ensures.answer

pub returns-clause-refused : goal.returns-clause-refused
returns-clause-refused c =
    let i = c.self.inside in
    let call = leaves (goal.at.returns-clause-refused c).After-settle in
    open-keeps c.args.kind c.open_channel-answer.result (desk_of i.core i.out i.source.id i.waiting) _ _
    c.open_channel-answer.ensures.answer c.self.invariant c.self.view_is call.after
