use Rattle.std.proofs.Common.{Some, ap, sym, ◌∙◌, subst}
use Rattle.nio_select.specs.InProgress.{poll_of}
use Rattle.nio_caller.specs.Callers.{Acting}
use Rattle.nio_caller.specs.Selections.{HasBack, TellsKept}
use Rattle.nio_caller.proofs.NamedCalls.{made_on, noted_at}
use Rattle.nio_caller.proofs.Ongoing.{acting_on, acting_told, if_is, its_list, others_back, others_on, place_of, selects_at}
use Rattle.nio_caller.proofs.Ongoing.{not_none, tells_again, tells_done, was_there}
use Rattle.nio_caller.proofs.callers.Caller.told_listing.Goals as goal

pub told_listing-requires-clause-begun : goal.told_listing-requires-clause-begun
told_listing-requires-clause-begun g c =
    selects_at c.words.ensures c.self.inside.pass c.self.inside.pass c.self.inside.number c.self.inside.lists
    c.self.inside.progress c.take_selection.new.self c.args.sel c.in-Some.selection c.in-Some.ensures.taken
    c.take_selection.ensures.left c.take_selection.ensures.others c.take_selection.ensures.closings c.self.invariant

pub take_back-requires-clause-place : goal.take_back-requires-clause-place
take_back-requires-clause-place g c =
    place_of c.words.ensures c.self.inside.pass c.self.inside.pass c.self.inside.number c.self.inside.lists
    c.self.inside.progress c.take_selection.new.self c.args.sel c.in-Some.selection c.in-Some.ensures.taken
    c.take_selection.ensures.left c.take_selection.ensures.others c.take_selection.ensures.closings c.self.invariant

pub take_back-requires-clause-its : goal.take_back-requires-clause-its
take_back-requires-clause-its g c =
    its_list c.words.ensures c.self.inside.pass c.self.inside.pass c.self.inside.number c.self.inside.lists
    c.self.inside.progress c.take_selection.new.self c.args.sel c.in-Some.selection c.in-Some.ensures.taken
    c.take_selection.ensures.left c.take_selection.ensures.others c.take_selection.ensures.closings
    c.in-Done.list c.in-Done.ensures.done.back c.self.invariant

pub put_selection-requires : goal.put_selection-requires
put_selection-requires g c =
    place_of c.words.ensures c.self.inside.pass c.self.inside.pass c.self.inside.number c.self.inside.lists
    c.self.inside.progress c.take_selection.new.self c.args.sel c.in-Some.selection c.in-Some.ensures.taken
    c.take_selection.ensures.left c.take_selection.ensures.others c.take_selection.ensures.closings c.self.invariant

pub invariant_of-self-in-Done : goal.invariant_of-self-in-Done
invariant_of-self-in-Done g c =
    acting_told c.words.ensures c.self.inside.pass c.told_listing.new.p c.self.inside.number c.self.inside.lists
    c.self.inside.progress c.take_selection.new.self c.args.sel c.in-Some.selection c.in-Some.ensures.taken
    c.take_selection.ensures.left c.take_selection.ensures.others c.take_selection.ensures.closings
    c.take_back.new.self c.in-Done.list c.take_back.ensures c.in-Done.ensures.done.had c.told_listing.ensures.ready
    c.self.invariant (poll_of c.args.told.now) _ c.told_listing.ensures.call

pub invariant_of-self-in-Again : goal.invariant_of-self-in-Again
invariant_of-self-in-Again g c =
    acting_on c.words.ensures c.self.inside.pass c.told_listing.new.p c.self.inside.number c.self.inside.lists
    c.self.inside.progress c.take_selection.new.self c.args.sel c.in-Some.selection c.in-Some.ensures.taken
    c.take_selection.ensures.left c.take_selection.ensures.others c.take_selection.ensures.closings
    c.put_selection.new.self c.in-Again.selection c.in-Again.ensures.goes_on.0 c.put_selection.ensures.put
    c.put_selection.ensures.others c.put_selection.ensures.closings (poll_of c.args.told.now) _ c.told_listing.ensures.call
    c.in-Again.ensures.goes_on.1 c.told_listing.ensures.ready c.self.invariant

pub returns-in-Done-clause-call : goal.returns-in-Done-clause-call
returns-in-Done-clause-call g c =
    if_is _ _ _ (was_there c.args.sel c.self.view_is c.in-Some.ensures.taken)
    (made_on c.words.ensures c.args.sel (TellsKept c.in-Some.selection (poll_of c.args.told.now)) _ c.self.view_is
    (tells_done c.in-Some.selection _ _ c.in-Done.ensures.call)
    (others_back c.words.ensures c.self.inside.pass c.told_listing.new.p c.self.inside.number c.self.inside.lists
    c.self.inside.progress c.take_selection.new.self c.args.sel c.in-Some.selection c.in-Some.ensures.taken
    c.take_selection.ensures.left c.take_selection.ensures.others c.take_selection.ensures.closings
    c.take_back.new.self c.in-Done.list c.take_back.ensures c.in-Done.ensures.done.had c.told_listing.ensures.ready
    c.self.invariant c.in-Done.ensures.done.back))

pub returns-in-Again-clause-call : goal.returns-in-Again-clause-call
returns-in-Again-clause-call g c =
    if_is _ _ _ (was_there c.args.sel c.self.view_is c.in-Some.ensures.taken)
    (made_on c.words.ensures c.args.sel (TellsKept c.in-Some.selection (poll_of c.args.told.now)) _ c.self.view_is
    (tells_again c.in-Some.selection _ _ c.in-Again.ensures.goes_on.0 c.in-Again.ensures.call)
    (others_on c.words.ensures c.self.inside.pass c.told_listing.new.p c.self.inside.number c.self.inside.lists
    c.self.inside.progress c.take_selection.new.self c.args.sel c.in-Some.selection c.in-Some.ensures.taken
    c.take_selection.ensures.left c.take_selection.ensures.others c.take_selection.ensures.closings
    c.put_selection.new.self c.in-Again.selection c.in-Again.ensures.goes_on.0 c.put_selection.ensures.put
    c.put_selection.ensures.others c.put_selection.ensures.closings))

pub returns-in-Done-clause-none : goal.returns-in-Done-clause-none
returns-in-Done-clause-none g c = not_none _ _ _ _ (was_there c.args.sel c.self.view_is c.in-Some.ensures.taken)

pub returns-in-Again-clause-none : goal.returns-in-Again-clause-none
returns-in-Again-clause-none g c = not_none _ _ _ _ (was_there c.args.sel c.self.view_is c.in-Some.ensures.taken)

pub returns-in-Done-clause-done : goal.returns-in-Done-clause-done
returns-in-Done-clause-done g c =
    if_is _ _ _ (was_there c.args.sel c.self.view_is c.in-Some.ensures.taken) (
      c.take_selection.ensures.left,
      rw (← c.self.view_is) (subst (λ o. HasBack o c.self.inside.lists c.take_back.new.self) c.in-Done.ensures.done.back
          c.take_back.ensures),
    )

pub returns-in-Again-clause-goes_on : goal.returns-in-Again-clause-goes_on
returns-in-Again-clause-goes_on g c = λ _. (
  ap (λ (x : Acting). x.selectors) c.self.view_is,
  c.put_selection.ensures.put
      ∙ (ap Some c.in-Again.ensures.goes_on.0 ∙ sym (was_there c.args.sel c.self.view_is c.in-Some.ensures.taken)),
)

pub returns-in-Done-clause-listed : goal.returns-in-Done-clause-listed
returns-in-Done-clause-listed g c =
    if_is _ _ _ (was_there c.args.sel c.self.view_is c.in-Some.ensures.taken)
    (noted_at c.words.ensures c.told_listing.new.p c.take_back.new.self c.take_selection.new.self c.self.view_is
    c.told_listing.ensures.listed)

pub returns-in-Again-clause-again : goal.returns-in-Again-clause-again
returns-in-Again-clause-again g c = λ _. c.in-Again.ensures.nothing

pub returns-in-Again-clause-listed : goal.returns-in-Again-clause-listed
returns-in-Again-clause-listed g c =
    if_is _ _ _ (was_there c.args.sel c.self.view_is c.in-Some.ensures.taken)
    (noted_at c.words.ensures c.told_listing.new.p c.self.inside.lists c.put_selection.new.self c.self.view_is
    c.told_listing.ensures.listed)
