-- Each exit is one of the four lemmas on decimal numbers.
use Rattle.std.proofs.Common.{arith, refl, rules}
use Rattle.std.proofs.lemmas.Bool.{false≢true}
use Rattle.nio_language.proofs.Numbers.{not_begun, not_text, is_number, not_parsed}
use Rattle.nio_language.proofs.parse.number.read_number.Goals as goal

pub returns-then-not-begins_as_number : goal.returns-then-not-begins_as_number
returns-then-not-begins_as_number c =
    not_begun c.args.text.now c.args.max (omega arith)
    (λ b. false≢true (c.if-not-begins_as_number.ensures.1 b))

pub returns-in_default : goal.returns-in_default
returns-in_default c =
    not_text c.args.text.now c.args.max (omega arith) c.in_default.ensures.cases.0

pub returns-in_default-parse : goal.returns-in_default-parse
returns-in_default-parse c =
    not_parsed c.args.text.now c.in-Ok.digits.now c.args.max c.parse.result
    (omega arith) c.in-Ok.ensures.cases.0 c.parse.ensures.value.0 (λ v e f. (cc))

pub returns-then-number-max : goal.returns-then-number-max
returns-then-number-max c =
    is_number c.args.text.now c.in-Ok.digits.now c.args.max c.in-Ok-parse.number c.parse.result
    (omega arith) c.in-Ok.ensures.cases.0 (c.if-not-begins_as_number.ensures.0 refl) c.parse.ensures.value.0
    c.in-Ok-parse.is (omega arith)

pub returns-else-number-max : goal.returns-else-number-max
returns-else-number-max c =
    not_parsed c.args.text.now c.in-Ok.digits.now c.args.max c.parse.result
    (omega arith) c.in-Ok.ensures.cases.0 c.parse.ensures.value.0 (search rules)
