use Rattle.std.proofs.Common.{ap, sym, ◌∙◌}
use Rattle.std.specs.Prelude.{Ok, Err}
use Rattle.std.proofs.lemmas.Bool.{false≢true}
use Rattle.nio_race_text.specs.RaceLines.{script_line, block_line}
use Rattle.nio_race_text.proofs.Blocks.{finds_barred, finds_neither, finds_race}
use Rattle.nio_race_text.proofs.line.read_race_call.Goals as goal

pub returns-then-may_race : goal.returns-then-may_race
returns-then-may_race c =
    let read = c.in-Ok-Line in
    finds_race
    (script_line (read.ensures.found read.caller read.call (ap Ok read.field-0-is)) (sym c.if-may_race.ensures))

pub returns-else-may_race : goal.returns-else-may_race
returns-else-may_race c =
    let read = c.in-Ok-Line in
    finds_barred (read.ensures.found read.caller read.call (ap Ok read.field-0-is))
    (λ may. false≢true (c.if-may_race.ensures ∙ may))

pub returns-in-Some : goal.returns-in-Some
returns-in-Some c = finds_race (block_line c.in-Some.ensures.found)

pub returns-in-None : goal.returns-in-None
returns-in-None c =
    let read = c.in-Err-Malformed in
    finds_neither ((read.ensures.malformed (λ e. cc)).0 (ap Err read.field-0-is)) c.in-None.ensures
