use Rattle.std.proofs.Common.{Some, None}
use Rattle.nio_language.proofs.NameWords.{reads_channel}
use Rattle.nio_language.proofs.parse.name.read_channel.Goals as goal

pub returns-in_err-number : goal.returns-in_err-number
returns-in_err-number c = rw c.from_residual.ensures (reads_channel c.args.word.now None c.in_err-number.ensures)

pub returns : goal.returns
returns c =
    reads_channel c.args.word.now (Some (c.in_ok-number.number, c.in_ok-number.serial)) c.in_ok-number.ensures
