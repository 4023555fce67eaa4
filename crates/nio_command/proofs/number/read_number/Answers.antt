-- A text is read as `parse` reads it, once its first character fits.
use Rattle.std.proofs.Common.{arith, refl, ◌≡◌}
use Rattle.std.proofs.lemmas.Bool.{false≢true}
use Rattle.nio_command.proofs.Numbers.{not_begun, is_number, parses_as}
use Rattle.nio_command.proofs.number.read_number.Goals as goal

pub returns-then-not-begins_as_number-clause-only :
    goal.returns-then-not-begins_as_number-clause-only
returns-then-not-begins_as_number-clause-only c = λ n least most e.
    absurd (not_begun c.args.text.now n (omega arith) (λ b. false≢true (c.if-not-begins_as_number.ensures.1 b)) e)

pub returns-in_default-clause-only : goal.returns-in_default-clause-only
returns-in_default-clause-only c = λ n least most e.
    let is = parses_as c.args.text.now n c.parse.result (omega arith) e c.parse.ensures.value.0 in absurd (cc)

pub returns-then-number-most-clause-found : goal.returns-then-number-most-clause-found
returns-then-number-most-clause-found c =
    let is = is_number c.args.text.now c.in-Ok.number c.parse.result (c.if-not-begins_as_number.ensures.0 refl)
    c.parse.ensures.value.0 c.in-Ok.is in
    (omega arith, omega arith, is)

pub returns-then-number-most-clause-only : goal.returns-then-number-most-clause-only
returns-then-number-most-clause-only c = λ n least most e.
    let is = parses_as c.args.text.now n c.parse.result (omega arith) e c.parse.ensures.value.0 in cc

pub returns-else-least-number-clause-only : goal.returns-else-least-number-clause-only
returns-else-least-number-clause-only c = λ n least most e.
    let is = parses_as c.args.text.now n c.parse.result (omega arith) e c.parse.ensures.value.0 in
    let same : c.in-Ok.number ≡ n = cc in
    absurd (omega arith)
