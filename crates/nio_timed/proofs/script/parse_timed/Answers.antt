use Rattle.std.proofs.Common.{◌≡◌, ◌+◌, Err, map, refl, sym, ◌∙◌, ap, subst, arith}
use Rattle.std.proofs.lemmas.List.{length-map, take_all}
use Rattle.std.proofs.lemmas.Result.{err_from_is_err_and}
use Rattle.nio_language.specs.Script.{lines_of}
use Rattle.nio_script.specs.declared.script.ScriptError.TheVariants.{BadLine}
use Rattle.nio_script.proofs.Lines.{next_now, reads_more}
use Rattle.nio_timed.specs.Lines.{AreTimedLines, IsFirstBadTimed, no_lines}
use Rattle.nio_timed.proofs.FirstBad.{AreTimedLines-append, first_bad_here}
use Rattle.nio_timed.proofs.script.parse_timed.Goals as goal

pub loop-line-init : goal.loop-line-init
loop-line-init c = (refl, rw c.new-calls.ensures.items no_lines)

pub overflow_add-number : goal.overflow_add-number
overflow_add-number c = omega (arith, c.loop-line.invariant.0, c.deref-line-items.type_inv.0)

pub loop-line-preserved : goal.loop-line-preserved
loop-line-preserved c = (
  omega arith,
  reads_more AreTimedLines (next_now c.deref-line-items.result.now c.loop-line.line-index _ c.loop-line-test.true)
      c.in_ok-read_line.ensures.read
      (λ added. AreTimedLines-append c.loop-line.invariant.1),
)

pub returns-in_err-read_line-clause-bad : goal.returns-in_err-read_line-clause-bad
returns-in_err-read_line-clause-bad c line is =
    let p = err_from_is_err_and c.from_residual-in_err-read_line.result c.from_residual-in_err-read_line.ensures.1 in
    let named : p.0 ≡ BadLine line = cc in
    let b = c.in_err-read_line.ensures.bad line (ap Err (sym p.2 ∙ named)) in
    subst (IsFirstBadTimed c.args.text.now) (sym (b.0 ∙ ap (λ n. n + 1) c.loop-line.invariant.0))
    (first_bad_here (ap (map (λ r. r.now)) c.deref-line-items.ensures.value ∙ c.in_ok-lines.ensures)
    (next_now c.deref-line-items.result.now c.loop-line.line-index _ c.loop-line-test.true) c.loop-line.invariant.1 b.1)

pub returns-clause-ok : goal.returns-clause-ok
returns-clause-ok c =
    let lines = map (λ r. r.now) c.deref-line-items.result.now in
    let text : lines ≡ lines_of c.args.text.now = ap (map (λ r. r.now)) c.deref-line-items.ensures.value
    ∙ c.in_ok-lines.ensures in
    subst (λ ls. AreTimedLines ls c.loop-line.calls.items)
    (take_all c.loop-line.line-index lines (simp length-map c.loop-line-test.false) ∙ text) c.loop-line.invariant.1
