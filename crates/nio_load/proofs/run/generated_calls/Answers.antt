use Rattle.std.proofs.Common.{◌≡◌, ◌∙◌, subst, sym}
use Rattle.nio_language.specs.Script.{IsScript}
use Rattle.nio_script.specs.declared.script.ScriptError.TheVariants.{Memory}
use Rattle.nio_load.proofs.Calls.{few_read, generated_calls, generated_script}
use Rattle.nio_load.proofs.run.generated_calls.Goals as goal

pub returns-in-Ok-clause-few : goal.returns-in-Ok-clause-few
returns-in-Ok-clause-few c =
    let text = c.deref.ensures.value ∙ c.in_ok-text.ensures in
    few_read c.args.rounds c.in-Ok.calls.items (subst (λ t. IsScript t c.in-Ok.calls.items) text c.in-Ok.ensures.ok)

pub unreachable-requires : goal.unreachable-requires
unreachable-requires c =
    let text = c.deref.ensures.value ∙ c.in_ok-text.ensures in
    let only : c.in-Err-BadLine.field-0 ≡ Memory = c.in-Err-BadLine.ensures.only (generated_calls c.args.rounds)
    (subst (λ t. IsScript t (generated_calls c.args.rounds)) (sym text) (generated_script c.args.rounds)) in
    cc
