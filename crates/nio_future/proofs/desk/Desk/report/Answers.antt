use Rattle.nio_group.specs.Flight.{op_at}
use Rattle.nio_group.specs.Group.{Group}
use Rattle.nio_group.specs.Refusals.{report_refusal}
use Rattle.nio_group.specs.Steps.{reported}
use Rattle.std.proofs.Common.{refl}
use Rattle.nio_group.specs.Run.{report}
use Rattle.nio_future.proofs.CallLemmas.{called, refused-keeps, settles-call, IsCalled}
use Rattle.nio_future.proofs.SettleLemmas.{desk_of}
use Rattle.nio_future.proofs.desk.Desk.report.Goals as goal
use Rattle.nio_future.proofs.desk.Desk.report.Goals.{After-settle}

pub settle-requires : goal.settle-requires
settle-requires c =
    let i = c.self.inside in
    settles-call (desk_of i.core i.out i.source.id i.waiting) (report c.args.op c.args.outcome) _ c.self.invariant tt refl
    c.report-answer.ensures.after

-- what the call leaves
leaves : (c : After-settle) → IsCalled c.args.self.now
    (desk_of c.settle.new.core c.settle.new.out c.self.inside.source.id c.settle.new.waiting) (report c.args.op c.args.outcome)
leaves c =
    let i = c.self.inside in
    called (desk_of i.core i.out i.source.id i.waiting) _ _ (report c.args.op c.args.outcome) _ c.self.view_is
    c.self.invariant tt refl c.report-answer.ensures.after c.settle.ensures.settles

pub returns-clause-after : goal.returns-clause-after
returns-clause-after c = (leaves (goal.at.returns-clause-after c).After-settle).after

pub returns-clause-made : goal.returns-clause-made
returns-clause-made c = (leaves (goal.at.returns-clause-made c).After-settle).made

pub returns-clause-tickets : goal.returns-clause-tickets
returns-clause-tickets c = (leaves (goal.at.returns-clause-tickets c).After-settle).tickets

pub returns-clause-refused : goal.returns-clause-refused
returns-clause-refused c =
    let i = c.self.inside in
    let g : Group = i.core in
    let call = leaves (goal.at.returns-clause-refused c).After-settle in
    refused-keeps (report_refusal (op_at g.flight c.args.op.0) c.args.outcome) tt c.report-answer.result
    (desk_of i.core i.out i.source.id i.waiting) _ _
    (reported g c.args.op.0 c.args.outcome (op_at g.flight c.args.op.0)) (report c.args.op c.args.outcome)
    c.report-answer.ensures.answer refl c.self.invariant c.self.view_is call.after
