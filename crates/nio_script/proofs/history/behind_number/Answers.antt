use Rattle.std.proofs.Common.{Some, None, ap, arith, option_copied, refl, ◌∙◌}
use Rattle.std.specs.Fmt.{decimal}
use Rattle.nio_script.proofs.EntryTexts.{finds_none, not_behind_uncut, not_behind_other, behind_same}
use Rattle.nio_script.proofs.history.behind_number.Goals as goal

pub returns-in_err-word : goal.returns-in_err-word
returns-in_err-word c =
    finds_none _ _ (ap option_copied c.from_residual.ensures)
    (not_behind_uncut c.args.text.now c.args.number (omega arith) c.in_err-word.ensures.only)

pub returns-in_err-read_number : goal.returns-in_err-read_number
returns-in_err-read_number c =
    finds_none _ _ (ap option_copied c.from_residual-in_err-read_number.ensures)
    (not_behind_other c.args.text.now c.args.number (omega arith) c.in_ok-word.word.now c.in_ok-word.rest.now
    c.in_ok-word.ensures.only
    _ (omega arith) None c.in_err-read_number.ensures (λ e. cc))

pub returns-then-branch-number : goal.returns-then-branch-number
returns-then-branch-number c =
    behind_same c.args.text.now c.args.number (omega arith) c.in_ok-word.word.now c.in_ok-word.rest.now
    c.in_ok-word.ensures.only
    c.in_ok-word.ensures.found (c.in_ok-read_number.ensures.found.1 ∙ ap decimal c.if-branch-number.true)

pub returns-else-branch-number : goal.returns-else-branch-number
returns-else-branch-number c =
    finds_none _ _ refl
    (not_behind_other c.args.text.now c.args.number (omega arith) c.in_ok-word.word.now c.in_ok-word.rest.now
    c.in_ok-word.ensures.only
    _ (omega arith) (Some c.in_ok-read_number.field-0) c.in_ok-read_number.ensures (λ e. c.if-branch-number.false cc))
