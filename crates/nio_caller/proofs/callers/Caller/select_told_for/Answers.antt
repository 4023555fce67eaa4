use Rattle.std.proofs.Common.{ℤ, subst}
use Rattle.std.proofs.lemmas.Int.{to_z-of_z}
use Rattle.nio_history.specs.Timeout.{mode_for}
use Rattle.nio_poller.specs.Selecting.{TimedToldClause}
use Rattle.nio_words.specs.Views.{view}
use Rattle.nio_caller.proofs.Calls.{ready_of}
use Rattle.nio_caller.proofs.Selections.{acting_selected, may_at, selects_nowhere, selects_on, timed_at}
use Rattle.nio_caller.proofs.callers.Caller.select_told_for.Goals as goal

pub invariant_of-self : goal.invariant_of-self
invariant_of-self g c =
    acting_selected (g.T.Table.table c.self.inside.table) c.self.inside.pass c.select_told_for-selected.new.p
    c.self.inside.number c.self.inside.lists c.take-selector.new.self c.put.new.self c.self.inside.progress _ _ c.args.sel _ _ _ _ _ _
    (timed_at c.words.ensures c.self.inside.pass c.select_told_for-selected.new.p _ _ _ _ _ _ _ _ _ c.select_told_for-selected.ensures.call) c.take-selector.ensures.taken
    c.take-selector.ensures.others c.put.ensures.put c.put.ensures.others
    (ready_of c.words.ensures c.select_told_for-selected.ensures.ready)
    (may_at c.words.ensures c.select_told_for-selected.new.p c.select_told_for-selected.ensures.may) c.self.invariant

pub returns-then-not-has_selector-clause-call : goal.returns-then-not-has_selector-clause-call
returns-then-not-has_selector-clause-call g c = selects_nowhere _ _ c.if-not-has_selector.ensures.call

pub returns-clause-call : goal.returns-clause-call
returns-clause-call g c =
    let table = g.T.Table.table c.self.inside.table in
    let call = subst
    (λ (ms : ℤ). TimedToldClause c.self.inside.number ms c.take-selector.result c.select_told_for-selected.new.selector
    (view table c.self.inside.pass) (view table c.select_told_for-selected.new.p) (g.P.Poller.polls c.args.poller.now)
    (g.P.Poller.polls c.select_told_for-selected.new.poller) (g.P.Poller.ready c.select_told_for-selected.new.poller)
    c.select_told_for-selected.result)
    (to_z-of_z _ c.args.ms c.ranges.ms) (timed_at c.words.ensures c.self.inside.pass c.select_told_for-selected.new.p _ _ _ _ _ _ _ _ _ c.select_told_for-selected.ensures.call) in
    rw c.called.ensures
    (selects_on table c.self.inside.pass c.select_told_for-selected.new.p c.self.inside.number
    c.self.inside.lists c.take-selector.new.self c.put.new.self c.self.inside.progress _ (mode_for c.args.ms) c.args.sel _ _ _ _ _ _ call
    c.take-selector.ensures.taken c.take-selector.ensures.others c.put.ensures.put c.put.ensures.others
    c.if-not-has_selector.ensures.call c.self.view_is c.self.invariant.lists)
