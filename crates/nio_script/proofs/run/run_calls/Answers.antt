use Rattle.std.proofs.Common.{◌≡◌, ◌+◌, [], ◌∷◌, Err, drop, suc, sym, ap, subst, drop-cons, add-one}
use Rattle.std.proofs.lemmas.List.{drop_all}
use Rattle.std.proofs.lemmas.Result.{IfErr-at_err, on_err_weaker, on_ok_weaker}
use Rattle.nio_plain.proofs.Replying.{on_err}
use Rattle.nio_script.specs.Output.{IsWritten, WritesPrefix}
use Rattle.nio_script.proofs.Running.{IsRunning, cut_amid, cut_behind, goes_on, makes_whole, stops_amid, stops_behind}
use Rattle.nio_script.proofs.Running.{whole_behind}
use Rattle.nio_script.proofs.run.run_calls.Goals as goal
use Rattle.nio_script.proofs.run.run_calls.Goals.{After-answer_call, After-write_out}

-- the next call and those after it are left
next_is : (g : _) (c : After-answer_call g)
    → drop c.loop-index.index c.args.calls.now ≡ c.index-calls-index.result
    ∷ drop (c.loop-index.index + 1) c.args.calls.now
next_is g c =
    let calls = c.args.calls.now in
    let call = c.index-calls-index.result in
    rw (add-one, drop-cons calls c.loop-index.index call c.loop-index-test.true)
    (ap (λ x. x ∷ drop (suc c.loop-index.index) calls) (sym c.index-calls-index.is))

-- what is kept before the next call
running : (g : _) (c : After-answer_call g)
    → IsRunning g.K.Sink g.Y.System c.args.output.now c.loop-index.output c.args.system.now c.loop-index.system
    c.loop-index.kept.items (c.loop-index.index + 1)
    (c.index-calls-index.result ∷ drop (c.loop-index.index + 1) c.args.calls.now) c.args.calls.now
running g c =
    subst (λ rest. IsRunning g.K.Sink g.Y.System c.args.output.now c.loop-index.output c.args.system.now
    c.loop-index.system c.loop-index.kept.items (c.loop-index.index + 1) rest c.args.calls.now)
    (next_is g c) c.loop-index.invariant

pub returns-in_err-answer_call-clause-stops : goal.returns-in_err-answer_call-clause-stops
returns-in_err-answer_call-clause-stops g c =
    on_err c.from_residual.result
    (stops_amid g.K.Sink g.Y.System _ _ c.answer_call.new.output _ _ _ _ _ _ _
    (running g (goal.at.returns-in_err-answer_call-clause-stops g c).After-answer_call)
    c.answer_call.new.system c.in_err-answer_call.ensures.stops)

pub loop-index-preserved : goal.loop-index-preserved
loop-index-preserved g c =
    let laws = g.met.Y.System in
    goes_on g.K.Sink g.Y.System _ _ _ _ _ _ _ _ _ _ (running g (goal.at.loop-index-preserved g c).After-answer_call)
    c.answer_call.new.system c.answer_call.new.kept.items
    c.in_ok-answer_call.ensures.ok c.in_ok-answer_call.ensures.makes
    (c.in_ok-answer_call.ensures.cause.still (λ e. cc))
    (laws.kept_on _ _ _ c.loop-index.invariant.kept_on c.answer_call.ensures.kept)
    (laws.kept_rules _ _ c.answer_call.ensures.kept) (laws.kept_limits _ _ c.answer_call.ensures.kept)

pub returns-in_err-answer_call-clause-kept : goal.returns-in_err-answer_call-clause-kept
returns-in_err-answer_call-clause-kept g c =
    g.met.Y.System.kept_on _ _ _ c.loop-index.invariant.kept_on c.answer_call.ensures.kept

pub returns-in_err-answer_call-clause-write_fault : goal.returns-in_err-answer_call-clause-write_fault
returns-in_err-answer_call-clause-write_fault g c = λ is.
    let error = rw is at c.from_residual.ensures.1 in
    cut_amid g.K.Sink g.Y.System _ _ c.answer_call.new.output _ _ _ _ _ _ _
    (running g (goal.at.returns-in_err-answer_call-clause-write_fault g c).After-answer_call)
    c.answer_call.new.system (c.in_err-answer_call.ensures.write_fault (ap Err (sym error)))

-- what is kept once every call was made
ending : (g : _) (c : After-write_out g)
    → IsRunning g.K.Sink g.Y.System c.args.output.now c.loop-index.output c.args.system.now c.loop-index.system
    c.loop-index.kept.items (c.loop-index.index + 1) [] c.args.calls.now
ending g c =
    subst (λ rest. IsRunning g.K.Sink g.Y.System c.args.output.now c.loop-index.output c.args.system.now
    c.loop-index.system c.loop-index.kept.items (c.loop-index.index + 1) rest c.args.calls.now)
    (drop_all c.loop-index.index c.args.calls.now c.loop-index-test.false) c.loop-index.invariant

pub returns-clause-ok : goal.returns-clause-ok
returns-clause-ok g c =
    on_ok_weaker c.write_out.result
    (λ all. whole_behind g.K.Sink g.Y.System _ _ c.write_out.new.sink _ _ _ _ _
    (ending g (goal.at.returns-clause-ok g c).After-write_out)
    (subst (IsWritten g.K.Sink c.loop-index.output c.write_out.new.sink) c.deref.ensures.value all))
    c.write_out.ensures.ok

pub returns-clause-left : goal.returns-clause-left
returns-clause-left g c =
    on_ok_weaker c.write_out.result
    (λ _. (makes_whole g.K.Sink g.Y.System _ _ c.write_out.new.sink _ _ _ _ _
    (ending g (goal.at.returns-clause-left g c).After-write_out)).left)
    c.write_out.ensures.ok

pub returns-clause-makes : goal.returns-clause-makes
returns-clause-makes g c =
    on_ok_weaker c.write_out.result
    (λ _. (makes_whole g.K.Sink g.Y.System _ _ c.write_out.new.sink _ _ _ _ _
    (ending g (goal.at.returns-clause-makes g c).After-write_out)).makes)
    c.write_out.ensures.ok

pub returns-clause-stops : goal.returns-clause-stops
returns-clause-stops g c =
    on_err_weaker c.write_out.result
    (λ some. stops_behind g.K.Sink g.Y.System _ _ c.write_out.new.sink _ _ _ _ _
    (ending g (goal.at.returns-clause-stops g c).After-write_out)
    (subst (WritesPrefix g.K.Sink c.loop-index.output c.write_out.new.sink) c.deref.ensures.value some))
    c.write_out.ensures.err

pub returns-clause-write_fault : goal.returns-clause-write_fault
returns-clause-write_fault g c = λ fault.
    cut_behind g.K.Sink g.Y.System _ _ c.write_out.new.sink _ _ _ _ _
    (ending g (goal.at.returns-clause-write_fault g c).After-write_out)
    (subst (WritesPrefix g.K.Sink c.loop-index.output c.write_out.new.sink) c.deref.ensures.value
    (IfErr-at_err (λ _. WritesPrefix g.K.Sink c.loop-index.output c.write_out.new.sink c.deref.result.now) fault
    c.write_out.ensures.err))
