use Rattle.std.proofs.Common.{◌≡◌, Err}
use Rattle.std.proofs.lemmas.Result.{err_from_is_err_and}
use Rattle.nio_audit.specs.declared.auditing.AuditError.TheVariants.{Memory, NotAStep}
use Rattle.nio_audit.proofs.auditing.audit.Goals as goal

pub returns-in_err-judged-clause-not_a_step : goal.returns-in_err-judged-clause-not_a_step
returns-in_err-judged-clause-not_a_step c = λ place judged.
    let same = err_from_is_err_and c.from_residual.result c.from_residual.ensures.1 in
    let was : c.judged.result ≡ Err c.in_err-judged.field-0.0 = c.in_err-judged.was in
    let first = c.judged.ensures.not_a_step place (λ memory. let lacks : c.from_residual.result ≡ Err Memory = cc in
    judged lacks) in (
      λ told. let before : c.judged.result ≡ Err (NotAStep place) = cc in first.0 before,
      λ no_step. let before : c.judged.result ≡ Err (NotAStep place) = first.1 no_step in cc,
    )
