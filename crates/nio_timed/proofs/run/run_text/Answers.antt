use Rattle.std.proofs.Common.{◌≡◌, ◌⊎◌, ap, subst}
use Rattle.std.specs.Prelude.{Err}
use Rattle.nio_script.specs.declared.status.Status.TheVariants.{BadScript, Memory}
use Rattle.nio_timed.proofs.FirstBad.{script_not_bad, first_bad_is_one}
use Rattle.nio_timed.proofs.run.run_text.Goals as goal

pub returns-in-Ok-clause-of_bad : goal.returns-in-Ok-clause-of_bad
returns-in-Ok-clause-of_bad g c =
    λ line bad. absurd (script_not_bad c.args.text.now c.in-Ok.calls.items line c.in-Ok.ensures.ok bad)

pub returns-in-Err-BadLine-clause-of_script : goal.returns-in-Err-BadLine-clause-of_script
returns-in-Err-BadLine-clause-of_script g c = λ calls script.
    let read = c.in-Err-BadLine in
    absurd (script_not_bad c.args.text.now calls read.line script (read.ensures.bad read.line (ap Err read.field-0-is)))

pub returns-in-Err-BadLine-clause-of_bad : goal.returns-in-Err-BadLine-clause-of_bad
returns-in-Err-BadLine-clause-of_bad g c = λ line bad.
    let read = c.in-Err-BadLine in
    let first = read.ensures.bad read.line (ap Err read.field-0-is) in
    subst (λ n. (c.refuse.result ≡ BadScript n) ⊎ (c.refuse.result ≡ Memory))
    (first_bad_is_one c.args.text.now read.line line first bad) c.refuse.ensures.status
