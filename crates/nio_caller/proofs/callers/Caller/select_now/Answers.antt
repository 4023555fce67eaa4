use Rattle.std.proofs.Common.{Ok}
use Rattle.nio_history.specs.declared.found.Mode.TheVariants as mode
use Rattle.nio_caller.proofs.Calls.{ready_of}
use Rattle.nio_caller.proofs.Selections.{acting_selected, may_at, selects_nowhere, selects_on, timed_at}
use Rattle.nio_caller.proofs.callers.Caller.select_now.Goals as goal

pub invariant_of-self : goal.invariant_of-self
invariant_of-self g c =
    acting_selected (g.T.Table.table c.self.inside.table) c.self.inside.pass c.select_now-selected.new.p c.self.inside.number
    c.self.inside.lists c.take-selector.new.self c.put.new.self c.self.inside.progress _ (Ok mode.Now) c.args.sel _ _ _ _ _ _
    (timed_at c.words.ensures c.self.inside.pass c.select_now-selected.new.p _ (Ok mode.Now) _ _ _ _ _ _ _ c.select_now-selected.ensures.call) c.take-selector.ensures.taken
    c.take-selector.ensures.others c.put.ensures.put c.put.ensures.others
    (ready_of c.words.ensures c.select_now-selected.ensures.ready) (may_at c.words.ensures c.select_now-selected.new.p c.select_now-selected.ensures.may) c.self.invariant

pub returns-then-not-has_selector-clause-call : goal.returns-then-not-has_selector-clause-call
returns-then-not-has_selector-clause-call g c = selects_nowhere _ _ c.if-not-has_selector.ensures.call

pub returns-clause-call : goal.returns-clause-call
returns-clause-call g c =
    rw c.called.ensures
    (selects_on (g.T.Table.table c.self.inside.table) c.self.inside.pass c.select_now-selected.new.p c.self.inside.number
    c.self.inside.lists c.take-selector.new.self c.put.new.self c.self.inside.progress _ (Ok mode.Now) c.args.sel _ _ _ _ _ _
    (timed_at c.words.ensures c.self.inside.pass c.select_now-selected.new.p _ (Ok mode.Now) _ _ _ _ _ _ _ c.select_now-selected.ensures.call) c.take-selector.ensures.taken
    c.take-selector.ensures.others c.put.ensures.put c.put.ensures.others c.if-not-has_selector.ensures.call
    c.self.view_is c.self.invariant.lists)
