use Rattle.std.proofs.Common.{ap}
use Rattle.std.specs.Prelude.{Ok}
use Rattle.nio_script.proofs.EntryTexts.{call_found}
use Rattle.nio_script.proofs.history.read_call.Goals as goal

pub returns-in-Ok-Line : goal.returns-in-Ok-Line
returns-in-Ok-Line c =
    let read = c.in-Ok-Line in
    call_found c.args.text.now (Ok read.field-0) read.caller read.call (ap Ok read.field-0-is) read.ensures.found
    read.ensures.only
