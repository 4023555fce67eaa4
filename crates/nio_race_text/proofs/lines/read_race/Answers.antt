use Rattle.std.proofs.Common.{◌≡◌, Err, map, sym, ◌∙◌, ap, subst, arith}
use Rattle.std.proofs.lemmas.List.{length-map, take_all}
use Rattle.std.proofs.lemmas.Result.{err_from_is_err_and}
use Rattle.nio_race_text.specs.RaceLines.{AreRaceLines, no_lines}
use Rattle.nio_script.specs.declared.script.ScriptError.TheVariants.{BadLine}
use Rattle.nio_script.proofs.Lines.{next_now, reads_more, stops_here}
use Rattle.nio_race_text.proofs.Parts.{AreRaceLines-append, AreRaceLines-behind}
use Rattle.nio_race_text.proofs.lines.read_race.Goals as goal

pub loop-line-init : goal.loop-line-init
loop-line-init c = (omega arith, rw c.new-race.ensures.items no_lines)

pub overflow_add-number : goal.overflow_add-number
overflow_add-number c = omega (arith, c.loop-line.invariant.0, c.requires)

pub loop-line-preserved : goal.loop-line-preserved
loop-line-preserved c = (
  omega arith,
  reads_more AreRaceLines (next_now c.args.lines.now c.loop-line.line-index _ c.loop-line-test.true)
      c.in_ok-read_race_line.ensures.read
      (λ added. AreRaceLines-append c.loop-line.invariant.1),
)

pub returns-in_err-read_race_line-clause-bad : goal.returns-in_err-read_race_line-clause-bad
returns-in_err-read_race_line-clause-bad c n is =
    let p = err_from_is_err_and c.from_residual.result c.from_residual.ensures.1 in
    let named : p.0 ≡ BadLine n = cc in
    let b = c.in_err-read_race_line.ensures.bad n (ap Err (sym p.2 ∙ named)) in
    stops_here AreRaceLines-behind (next_now c.args.lines.now c.loop-line.line-index _ c.loop-line-test.true)
    c.loop-line.invariant.1 b.1
    (omega (arith, b.0, c.loop-line.invariant.0))

pub returns-clause-ok : goal.returns-clause-ok
returns-clause-ok c =
    let lines = map (λ r. r.now) c.args.lines.now in
    subst (λ ls. AreRaceLines ls c.loop-line.race.items)
    (take_all c.loop-line.line-index lines (simp length-map c.loop-line-test.false)) c.loop-line.invariant.1
