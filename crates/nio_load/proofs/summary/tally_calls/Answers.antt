use Rattle.std.proofs.Common.{rules, ◌≡◌, ◌+◌, List, [], ◌∷◌, ◌++◌, sym, ap, ◌∙◌, subst, suc, take, drop}
use Rattle.std.proofs.Common.{take-append-drop}
use Rattle.std.proofs.Common.{drop-cons, add-one}
use Rattle.std.proofs.lemmas.List.{take_more}
use Rattle.nio_language.specs.declared.call.ScriptCall.{ScriptCall}
use Rattle.nio_plain.proofs.Replying.{on_err}
use Rattle.nio_script.specs.Run.{MakesAll}
use Rattle.nio_script.proofs.Made.{all_of_one, lacks_after, left_after, left_from_run, makes_both}
use Rattle.nio_load.proofs.Tallying.{IsTallying, selections_on, updates_on}
use Rattle.nio_load.proofs.summary.tally_calls.Goals as goal
use Rattle.nio_load.proofs.summary.tally_calls.Goals.{After-tally_call}

-- the next call and those after it are left
next_is : (g : _) (c : After-tally_call g)
    → drop c.loop-line.line-index c.args.calls.now ≡ c.line-item.result
    ∷ drop (c.loop-line.line-index + 1) c.args.calls.now
next_is g c =
    let calls = c.args.calls.now in
    let index = c.loop-line.line-index in
    rw (add-one, drop-cons calls index c.line-item.result c.loop-line-test.true)
    (ap (λ x. x ∷ drop (suc index) calls) (sym c.line-item.is))

pub returns-in_err-tally_call-clause-memory : goal.returns-in_err-tally_call-clause-memory
returns-in_err-tally_call-clause-memory g c =
    let y = g.Y.System in
    let index = c.loop-line.line-index in
    let calls = c.args.calls.now in
    let before = c.loop-line.invariant in
    let next = next_is g (goal.at.returns-in_err-tally_call-clause-memory g c).After-tally_call in
    on_err c.from_residual.result (
      take index calls ++ [],
      lacks_after y c.args.system.now c.loop-line.system (take index calls) before.makes before.left before.rules
          before.limits c.tally_call.new.system (c.line-item.result ∷ []) (drop (index + 1) calls) calls []
          (ap (λ (xs : List ScriptCall). take index calls ++ xs) (sym next) ∙ take-append-drop index calls)
          c.in_err-tally_call.ensures.memory,
    )

pub loop-line-preserved : goal.loop-line-preserved
loop-line-preserved g c =
    let y = g.Y.System in
    let laws = g.met.Y.System in
    let run = c.args.system.now in
    let index = c.loop-line.line-index in
    let calls = c.args.calls.now in
    let call = c.line-item.result in
    let rest = drop (index + 1) calls in
    let before = c.loop-line.invariant in
    let its = c.in_ok-tally_call.ensures in
    let next = next_is g (goal.at.loop-line-preserved g c).After-tally_call in
    let one_more = ap (λ x. take index calls ++ x ∷ []) c.line-item.is
    ∙ sym (take_more calls index call c.loop-line-test.true) in
    let tallying : IsTallying y run c.loop-line.system c.loop-line.tally index (call ∷ rest) calls =
    subst (λ xs. IsTallying y run c.loop-line.system c.loop-line.tally index xs calls) next before in
    record {
      selections = selections_on y run c.loop-line.system c.tally_call.new.system c.loop-line.tally
          c.tally_call.new.tally index call rest calls tallying its.tally its.makes.left;
      updates = updates_on y run c.loop-line.system c.tally_call.new.system c.loop-line.tally c.tally_call.new.tally
          index call rest calls tallying its.tally its.makes.left;
      makes = subst (λ (made : List ScriptCall). MakesAll y run c.tally_call.new.system made) one_more
          (makes_both y run c.loop-line.system c.tally_call.new.system (take index calls) (call ∷ []) before.makes
          (all_of_one y c.loop-line.system c.tally_call.new.system call its.makes));
      left = its.makes.left
          ∙ left_after y run c.loop-line.system (take index calls) before.makes before.left before.rules before.limits
          (call ∷ [])
          ∙ ap (left_from_run y run) one_more;
      few_selections = search rules;
      few_updates = search rules;
      kept_on = laws.kept_on _ _ _ before.kept_on c.tally_call.ensures.kept;
      rules = laws.kept_rules _ _ c.tally_call.ensures.kept ∙ before.rules;
      limits = laws.kept_limits _ _ c.tally_call.ensures.kept ∙ before.limits;
    }
