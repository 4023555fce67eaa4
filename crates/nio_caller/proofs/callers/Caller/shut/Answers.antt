use Rattle.std.proofs.Common.{Some, ap, refl, ◌∙◌}
use Rattle.nio_caller.proofs.Calls.{acting_after}
use Rattle.nio_caller.proofs.GoingOn as goes_on
use Rattle.nio_caller.proofs.NamedCalls.{gives_call, has_same, met_on, missed, on_calls}
use Rattle.nio_caller.proofs.Ongoing.{acting_closing, if_is, others_closing}
use Rattle.nio_caller.proofs.Selections.{has_place}
use Rattle.nio_caller.proofs.callers.Caller.shut.Goals as goal

pub returns-then-not-has_selector-clause-call : goal.returns-then-not-has_selector-clause-call
returns-then-not-has_selector-clause-call g c =
    on_calls _ (missed _ _ c.if-not-has_selector.ensures.call)

pub put_closing-requires : goal.put_closing-requires
put_closing-requires g c = has_place c.has_selector.new.self c.args.sel (c.if-not-has_selector.ensures.has refl)

pub invariant_of-self : goal.invariant_of-self
invariant_of-self g c =
    acting_closing c.words.ensures c.self.inside.pass c.shut.new.p c.self.inside.number c.self.inside.lists c.self.inside.progress
    c.put_closing.new.self c.args.sel c.put_closing.ensures.others c.put_closing.ensures.selections
    (goes_on.shut _) c.in-Closing.ensures.call c.shut.ensures.ready c.self.invariant
    (if_is _ _ _ c.put_closing.ensures.put c.in-Closing.ensures.closing)

pub invariant_of-self-in-AlreadyClosed : goal.invariant_of-self-in-AlreadyClosed
invariant_of-self-in-AlreadyClosed g c =
    acting_after c.words.ensures (goes_on.shut _) c.in-AlreadyClosed.ensures.call c.shut.ensures.ready c.self.invariant

pub returns-in-Closing-clause-call : goal.returns-in-Closing-clause-call
returns-in-Closing-clause-call g c =
    met_on c.words.ensures c.self.inside.lists c.put_closing.new.self c.args.sel _ _ _ c.if-not-has_selector.ensures.call
    c.self.view_is (gives_call _ _ c.in-Closing.ensures.call)
    (others_closing c.words.ensures c.self.inside.pass c.shut.new.p c.self.inside.number c.self.inside.lists c.self.inside.progress
    c.put_closing.new.self c.args.sel c.put_closing.ensures.others c.put_closing.ensures.selections)

pub returns-in-Closing-clause-closing : goal.returns-in-Closing-clause-closing
returns-in-Closing-clause-closing g c =
    c.put_closing.ensures.put ∙ ap Some c.in-Closing.ensures.closing.0

pub returns-in-AlreadyClosed-clause-call : goal.returns-in-AlreadyClosed-clause-call
returns-in-AlreadyClosed-clause-call g c =
    met_on c.words.ensures c.self.inside.lists c.self.inside.progress c.args.sel _ _ _ c.if-not-has_selector.ensures.call
    c.self.view_is (gives_call _ _ c.in-AlreadyClosed.ensures.call) (has_same _ refl refl)
