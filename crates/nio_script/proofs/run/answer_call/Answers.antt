use Rattle.std.proofs.Common.{◌≡◌, [], ◌∷◌, ◌++◌, inl, inr, ap, ◌∙◌, subst}
use Rattle.std.proofs.lemmas.Result.{IfErr-at_err, on_err_weaker, on_ok_weaker}
use Rattle.nio_language.specs.Replies.{history_line}
use Rattle.nio_plain.proofs.Replying.{on_err}
use Rattle.nio_script.specs.Output.{WritesPrefix}
use Rattle.nio_script.specs.Run.{MakesOne, StopsWithin, WritesOfMade, line_for}
use Rattle.nio_script.proofs.Made.{lacks_first, makes_one, prefix_of_one}
use Rattle.nio_script.proofs.Running.{written_line}
use Rattle.nio_script.proofs.Writing.{writes_nothing}
use Rattle.nio_script.proofs.run.answer_call.Goals as goal
use Rattle.nio_script.proofs.run.answer_call.Goals.{After-call, After-put_line}

-- what was written where the call, or its line, lacked memory: nothing
abbrev Unwritten : (g : _) (c : After-call g) → Type 0
Unwritten g c =
    WritesOfMade g.K.Sink g.Y.System c.args.output.now c.args.output.now c.args.system.now c.args.kept.now.items
    c.args.number (StopsWithin g.Y.System c.args.system.now c.call.new.self (c.args.line.now ∷ []))

pub returns-in_err-reply-clause-stops : goal.returns-in_err-reply-clause-stops
returns-in_err-reply-clause-stops g c =
    let none : Unwritten g (goal.at.returns-in_err-reply-clause-stops g c).After-call = record {
      made = [];
      makes = inr (lacks_first g.Y.System c.args.system.now c.call.new.self c.args.line.now _
          c.in_err-reply.ensures.does c.in_err-reply.ensures.memory);
      written = writes_nothing g.K.Sink c.args.output.now _;
    } in
    on_err _ none

pub returns-in_err-text-clause-stops : goal.returns-in_err-text-clause-stops
returns-in_err-text-clause-stops g c =
    let its = c.in_ok-reply.ensures in
    let none : Unwritten g (goal.at.returns-in_err-text-clause-stops g c).After-call = record {
      made = c.args.line.now ∷ [];
      makes = inl (prefix_of_one g.Y.System c.args.system.now c.call.new.self c.args.line.now
          (makes_one g.Y.System c.args.system.now c.call.new.self c.args.line.now _ its.does its.reply its.left));
      written = writes_nothing g.K.Sink c.args.output.now _;
    } in
    on_err _ none

-- the call was made
made : (g : _) (c : After-put_line g) → MakesOne g.Y.System c.args.system.now c.call.new.self c.args.line.now
made g c =
    let its = c.in_ok-reply.ensures in
    makes_one g.Y.System c.args.system.now c.call.new.self c.args.line.now _ its.does its.reply its.left

-- its line
line_is : (g : _) (c : After-put_line g)
    → c.deref.result.now ≡ line_for (g.Y.System.rules c.args.system.now) (g.Y.System.limits c.args.system.now)
    (g.Y.System.state c.args.system.now) c.args.number c.args.line.now
line_is g c =
    c.deref.ensures.value
    ∙ (c.in_ok-text.ensures
    ∙ ap (history_line c.args.number c.args.line.now.caller c.args.line.now.call) c.in_ok-reply.ensures.reply)

pub returns-clause-makes : goal.returns-clause-makes
returns-clause-makes g c =
    on_ok_weaker c.put_line.result (λ _. made g (goal.at.returns-clause-makes g c).After-put_line)
    c.put_line.ensures.ok

pub returns-clause-stops : goal.returns-clause-stops
returns-clause-stops g c =
    let y = g.Y.System in
    let at = (goal.at.returns-clause-stops g c).After-put_line in
    on_err_weaker c.put_line.result
    (λ some. record {
      made = c.args.line.now ∷ [];
      makes = inl (prefix_of_one y c.args.system.now c.call.new.self c.args.line.now (made g at));
      written = written_line g.K.Sink c.args.output.now c.put_line.new.sink (y.rules c.args.system.now)
          (y.limits c.args.system.now) (y.state c.args.system.now) c.args.kept.now.items c.args.number
          c.args.line.now
          (subst (λ xs. WritesPrefix g.K.Sink c.args.output.now c.put_line.new.sink (c.args.kept.now.items ++ xs))
          (line_is g at) some);
    }) c.put_line.ensures.err

pub returns-clause-write_fault : goal.returns-clause-write_fault
returns-clause-write_fault g c = λ fault.
    let y = g.Y.System in
    let at = (goal.at.returns-clause-write_fault g c).After-put_line in
    record {
      made = c.args.line.now ∷ [];
      makes = prefix_of_one y c.args.system.now c.call.new.self c.args.line.now (made g at);
      written = written_line g.K.Sink c.args.output.now c.put_line.new.sink (y.rules c.args.system.now)
          (y.limits c.args.system.now) (y.state c.args.system.now) c.args.kept.now.items c.args.number
          c.args.line.now
          (subst (λ xs. WritesPrefix g.K.Sink c.args.output.now c.put_line.new.sink (c.args.kept.now.items ++ xs))
          (line_is g at)
          (IfErr-at_err (λ _. WritesPrefix g.K.Sink c.args.output.now c.put_line.new.sink
          (c.args.kept.now.items ++ c.deref.result.now)) fault c.put_line.ensures.err));
    }
