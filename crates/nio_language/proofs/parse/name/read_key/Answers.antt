use Rattle.std.proofs.Common.{Some, None}
use Rattle.nio_language.proofs.NameWords.{reads_key}
use Rattle.nio_language.proofs.parse.name.read_key.Goals as goal

pub returns-in_err-index : goal.returns-in_err-index
returns-in_err-index c = rw c.from_residual.ensures (reads_key c.args.word.now None c.in_err-index.ensures)

pub returns : goal.returns
returns c =
    reads_key c.args.word.now (Some (c.in_ok-index.index, c.in_ok-index.serial)) c.in_ok-index.ensures
