use Rattle.std.proofs.Common.{[], ◌∷◌, refl, ⊎_elim}
use Rattle.std.proofs.lemmas.Bool.{false≢true}
use Rattle.std.proofs.lemmas.Option.{none-some}
use Rattle.nio_script.proofs.Lines.{adds_nothing}
use Rattle.nio_timed.specs.Lines.{no_lines, blank_line, timed_line}
use Rattle.nio_timed.proofs.script.read_line.Goals as goal

pub returns-then-is_blank-clause-read : goal.returns-then-is_blank-clause-read
returns-then-is_blank-clause-read c =
    adds_nothing _ (blank_line {line = c.args.line.now} (c.if-is_blank.ensures.0 refl) no_lines)

pub returns-in_ok-push_line-in-Some-clause-read : goal.returns-in_ok-push_line-in-Some-clause-read
returns-in_ok-push_line-in-Some-clause-read c = record {
  added = c.in-Some.line ∷ [];
  so = timed_line {line = c.args.line.now} (rw c.in-Some.is at c.in_ok-line.ensures.found) no_lines;
  adds = c.in_ok-push_line-in-Some.ensures;
}

pub returns-in-None-clause-bad : goal.returns-in-None-clause-bad
returns-in-None-clause-bad c n is =
    let finds = rw c.in-None.is at c.in_ok-line.ensures in (
      cc,
      λ good. ⊎_elim (λ blank. false≢true (c.if-is_blank.ensures.1 blank)) (λ l. none-some l.0 (finds.only l.0 l.1))
          good,
    )
