use Rattle.std.proofs.Common.{Some, true, false, ap, sym, ◌∙◌}
use Rattle.nio_caller.specs.Selections.{Finishes}
use Rattle.nio_caller.proofs.GoingOn as goes_on
use Rattle.nio_caller.proofs.NamedCalls.{made_on}
use Rattle.nio_caller.proofs.Ongoing.{acting_closing, closing_place, closing_was, finishes, if_is, none_is, others_closing}
use Rattle.nio_caller.proofs.Ongoing.{not_none, shut_at}
use Rattle.nio_caller.proofs.callers.Caller.try_finish.Goals as goal

pub try_finish-requires-clause-closing : goal.try_finish-requires-clause-closing
try_finish-requires-clause-closing g c =
    (shut_at c.words.ensures c.self.inside.pass c.self.inside.number c.self.inside.lists c.self.inside.progress c.args.sel
    c.in-Some.closing c.in-Some.ensures.taken c.self.invariant).1

pub put_closing-requires : goal.put_closing-requires
put_closing-requires g c =
    closing_place c.words.ensures c.self.inside.pass c.self.inside.number c.self.inside.lists c.self.inside.progress c.args.sel
    c.in-Some.closing c.in-Some.ensures.taken c.self.invariant

pub invariant_of-self-in-Closed : goal.invariant_of-self-in-Closed
invariant_of-self-in-Closed g c =
    acting_closing c.words.ensures c.self.inside.pass c.try_finish.new.p c.self.inside.number c.self.inside.lists
    c.self.inside.progress c.take_closing.new.self c.args.sel c.take_closing.ensures.others
    c.take_closing.ensures.selections
    (goes_on.try_finish _) c.try_finish.ensures.call c.try_finish.ensures.ready c.self.invariant
    (none_is _ _ c.take_closing.ensures.left)

pub invariant_of-self-in-Busy : goal.invariant_of-self-in-Busy
invariant_of-self-in-Busy g c =
    acting_closing c.words.ensures c.self.inside.pass c.try_finish.new.p c.self.inside.number c.self.inside.lists
    c.self.inside.progress c.put_closing.new.self c.args.sel
    (λ t other. c.put_closing.ensures.others t other ∙ c.take_closing.ensures.others t other)
    (c.put_closing.ensures.selections ∙ c.take_closing.ensures.selections)
    (goes_on.try_finish _) c.try_finish.ensures.call c.try_finish.ensures.ready c.self.invariant
    (if_is _ _ _ c.put_closing.ensures.put (
      c.in-Busy.ensures.still.0 ∙ (shut_at c.words.ensures c.self.inside.pass c.self.inside.number c.self.inside.lists c.self.inside.progress c.args.sel
          c.in-Some.closing c.in-Some.ensures.taken c.self.invariant).0,
      c.in-Busy.ensures.still.1,
    ))

pub returns-in-Closed-clause-call : goal.returns-in-Closed-clause-call
returns-in-Closed-clause-call g c =
    if_is _ _ _ (closing_was c.args.sel c.self.view_is c.in-Some.ensures.taken)
    (made_on c.words.ensures c.args.sel (Finishes c.args.sel) _ c.self.view_is
    (finishes c.args.sel c.in-Some.closing true (shut_at c.words.ensures c.self.inside.pass c.self.inside.number c.self.inside.lists c.self.inside.progress c.args.sel
    c.in-Some.closing c.in-Some.ensures.taken c.self.invariant).0 c.in-Closed.ensures.call)
    (others_closing c.words.ensures c.self.inside.pass c.try_finish.new.p c.self.inside.number c.self.inside.lists
    c.self.inside.progress c.take_closing.new.self c.args.sel c.take_closing.ensures.others
    c.take_closing.ensures.selections))

pub returns-in-Busy-clause-call : goal.returns-in-Busy-clause-call
returns-in-Busy-clause-call g c =
    if_is _ _ _ (closing_was c.args.sel c.self.view_is c.in-Some.ensures.taken)
    (made_on c.words.ensures c.args.sel (Finishes c.args.sel) _ c.self.view_is
    (finishes c.args.sel c.in-Some.closing false (shut_at c.words.ensures c.self.inside.pass c.self.inside.number c.self.inside.lists c.self.inside.progress c.args.sel
    c.in-Some.closing c.in-Some.ensures.taken c.self.invariant).0 c.in-Busy.ensures.call)
    (others_closing c.words.ensures c.self.inside.pass c.try_finish.new.p c.self.inside.number c.self.inside.lists
    c.self.inside.progress c.put_closing.new.self c.args.sel
    (λ t other. c.put_closing.ensures.others t other ∙ c.take_closing.ensures.others t other)
    (c.put_closing.ensures.selections ∙ c.take_closing.ensures.selections)))

pub returns-in-Closed-clause-none : goal.returns-in-Closed-clause-none
returns-in-Closed-clause-none g c = not_none _ _ _ _ (closing_was c.args.sel c.self.view_is c.in-Some.ensures.taken)

pub returns-in-Busy-clause-none : goal.returns-in-Busy-clause-none
returns-in-Busy-clause-none g c = not_none _ _ _ _ (closing_was c.args.sel c.self.view_is c.in-Some.ensures.taken)

pub returns-in-Busy-clause-closing : goal.returns-in-Busy-clause-closing
returns-in-Busy-clause-closing g c =
    c.put_closing.ensures.put
    ∙ (ap Some c.in-Busy.ensures.still.0 ∙ sym (closing_was c.args.sel c.self.view_is c.in-Some.ensures.taken))
