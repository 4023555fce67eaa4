use Rattle.std.proofs.Common.{refl}
use Rattle.nio_group.specs.Run.{shutdown_now}
use Rattle.nio_future.proofs.CallLemmas.{called, settles-call, IsCalled}
use Rattle.nio_future.proofs.SettleLemmas.{desk_of}
use Rattle.nio_future.proofs.desk.Desk.shutdown_now.Goals as goal
use Rattle.nio_future.proofs.desk.Desk.shutdown_now.Goals.{After-settle}

pub settle-requires : goal.settle-requires
settle-requires c =
    let i = c.self.inside in
    settles-call (desk_of i.core i.out i.source.id i.waiting) shutdown_now _ c.self.invariant tt refl
    c.shutdown_now.ensures

-- what the call leaves
leaves : (c : After-settle) → IsCalled c.args.self.now
    (desk_of c.settle.new.core c.settle.new.out c.self.inside.source.id c.settle.new.waiting) shutdown_now
leaves c =
    let i = c.self.inside in
    called (desk_of i.core i.out i.source.id i.waiting) _ _ shutdown_now _ c.self.view_is
    c.self.invariant tt refl c.shutdown_now.ensures c.settle.ensures.settles

pub returns-clause-after : goal.returns-clause-after
returns-clause-after c = (leaves (goal.at.returns-clause-after c).After-settle).after

pub returns-clause-made : goal.returns-clause-made
returns-clause-made c = (leaves (goal.at.returns-clause-made c).After-settle).made

pub returns-clause-tickets : goal.returns-clause-tickets
returns-clause-tickets c = (leaves (goal.at.returns-clause-tickets c).After-settle).tickets
