use Rattle.std.proofs.Common.{ap}
use Rattle.std.specs.Prelude.{Ok}
use Rattle.nio_timed.proofs.Lines.{finds_line}
use Rattle.nio_timed.proofs.line.read_timed_line.Goals as goal

pub returns-in-Ok-Line : goal.returns-in-Ok-Line
returns-in-Ok-Line c =
    let read = c.in-Ok-Line in
    finds_line c.group_line.result (read.ensures.found read.caller read.call (ap Ok read.field-0-is))
    (rw read.field-0-is at c.group_line.ensures)
