use Rattle.std.proofs.Common.{Ok, subst}
use Rattle.nio_select.specs.InHand.{selection_of}
use Rattle.nio_steps.proofs.CallLaws.{call_as}
use Rattle.nio_steps.specs.Runs.{Completes}
use Rattle.nio_steps.specs.SelectCalls.{leave_plan}
use Rattle.nio_caller.specs.Selections.{HasBack, IsMade}
use Rattle.nio_caller.proofs.NamedCalls.{made_on}
use Rattle.nio_caller.proofs.Ongoing.{acting_left, if_is, its_list, others_back, place_of, selects_at}
use Rattle.nio_caller.proofs.Ongoing.{not_none, was_there}
use Rattle.nio_caller.proofs.callers.Caller.leave.Goals as goal

pub leave-list-requires-clause-begun : goal.leave-list-requires-clause-begun
leave-list-requires-clause-begun g c =
    selects_at c.words.ensures c.self.inside.pass c.self.inside.pass c.self.inside.number c.self.inside.lists
    c.self.inside.progress c.take_selection.new.self c.args.sel c.in-Some.selection c.in-Some.ensures.taken
    c.take_selection.ensures.left c.take_selection.ensures.others c.take_selection.ensures.closings c.self.invariant

pub take_back-requires-clause-place : goal.take_back-requires-clause-place
take_back-requires-clause-place g c =
    place_of c.words.ensures c.self.inside.pass c.self.inside.pass c.self.inside.number c.self.inside.lists
    c.self.inside.progress c.take_selection.new.self c.args.sel c.in-Some.selection c.in-Some.ensures.taken
    c.take_selection.ensures.left c.take_selection.ensures.others c.take_selection.ensures.closings c.self.invariant

pub take_back-requires-clause-its : goal.take_back-requires-clause-its
take_back-requires-clause-its g c =
    its_list c.words.ensures c.self.inside.pass c.self.inside.pass c.self.inside.number c.self.inside.lists
    c.self.inside.progress c.take_selection.new.self c.args.sel c.in-Some.selection c.in-Some.ensures.taken
    c.take_selection.ensures.left c.take_selection.ensures.others c.take_selection.ensures.closings
    c.leave-list.result c.leave-list.ensures.back.back c.self.invariant

pub invariant_of-self-2 : goal.invariant_of-self-2
invariant_of-self-2 g c =
    acting_left c.words.ensures c.self.inside.pass c.leave-list.new.p c.self.inside.number c.self.inside.lists
    c.self.inside.progress c.take_selection.new.self c.args.sel c.in-Some.selection c.in-Some.ensures.taken
    c.take_selection.ensures.left c.take_selection.ensures.others c.take_selection.ensures.closings
    c.take_back.new.self c.leave-list.result c.take_back.ensures c.leave-list.ensures.back.had
    c.leave-list.ensures.ready c.self.invariant c.leave-list.ensures.call

pub returns-clause-call : goal.returns-clause-call
returns-clause-call g c =
    if_is _ _ _ (was_there c.args.sel c.self.view_is c.in-Some.ensures.taken)
    (made_on c.words.ensures c.args.sel (IsMade (Completes (leave_plan (selection_of c.in-Some.selection)))) (Ok tt)
    c.self.view_is (call_as (IsMade (Completes (leave_plan (selection_of c.in-Some.selection)))) (Ok tt)
    (λ xs run. run) c.leave-list.ensures.call)
    (others_back c.words.ensures c.self.inside.pass c.leave-list.new.p c.self.inside.number c.self.inside.lists
    c.self.inside.progress c.take_selection.new.self c.args.sel c.in-Some.selection c.in-Some.ensures.taken
    c.take_selection.ensures.left c.take_selection.ensures.others c.take_selection.ensures.closings
    c.take_back.new.self c.leave-list.result c.take_back.ensures c.leave-list.ensures.back.had
    c.leave-list.ensures.ready c.self.invariant c.leave-list.ensures.back.back))

pub returns-clause-none : goal.returns-clause-none
returns-clause-none g c = not_none _ _ _ _ (was_there c.args.sel c.self.view_is c.in-Some.ensures.taken)

pub returns-clause-back : goal.returns-clause-back
returns-clause-back g c =
    if_is _ _ _ (was_there c.args.sel c.self.view_is c.in-Some.ensures.taken)
    (rw (← c.self.view_is) (subst (λ o. HasBack o c.self.inside.lists c.take_back.new.self)
    c.leave-list.ensures.back.back c.take_back.ensures))
