use Rattle.std.proofs.Common.{◌≡◌, ◌≤◌, ◌⊎◌, ℕ, length, inl, inr, ⊎_elim, sym, subst}
use Rattle.std.specs.Prelude.{IfSome}
use Rattle.nio_language.specs.Script.{IsFirstBad}
use Rattle.nio_script.specs.Run.{IsRefused}
use Rattle.nio_script.specs.declared.input.TheConstants.{LONGEST_INPUT}
use Rattle.nio_script.specs.declared.status.Status.TheVariants.{BadScript, ReadFault, Memory}
use Rattle.nio_script.proofs.Bytes.{if_known}
use Rattle.nio_script.proofs.run.run_script.Goals as goal

pub returns-in-Ok-clause-bad_script : goal.returns-in-Ok-clause-bad_script
returns-in-Ok-clause-bad_script g c = λ line bad. (
  c.in-Ok.text.items,
  c.in-Ok.ensures.whole,
  subst (IsRefused g.K.Sink c.args.output.now c.run_text.new.output c.args.system.now c.run_text.new.system line)
      c.deref.ensures.value (c.run_text.ensures.bad_script line bad),
)

pub returns-in-Ok-clause-of_bad : goal.returns-in-Ok-clause-of_bad
returns-in-Ok-clause-of_bad g c =
    let status = c.run_text.result in
    if_known (g.S.Source.left c.args.input.now) c.deref.result.now
    (λ text. (line : ℕ) → length text ≤ LONGEST_INPUT → IsFirstBad text line
    → (status ≡ BadScript line) ⊎ (status ≡ ReadFault) ⊎ (status ≡ Memory))
    (subst (λ text. IfSome (g.S.Source.left c.args.input.now) (λ bytes. bytes ≡ text))
    (sym c.deref.ensures.value) c.in-Ok.ensures.whole.whole)
    (λ line fits bad. ⊎_elim inl (λ lacks. inr (inr lacks)) (c.run_text.ensures.of_bad line bad))
