use Rattle.nio_language.proofs.HexWords.{bytes_read}
use Rattle.nio_language.proofs.parse.bytes.read_bytes.Goals as goal

pub returns : goal.returns
returns c =
    bytes_read c.args.word.now c.in-Some.bytes.items
    (rw c.deref.ensures.value at (c.in_ok-is_printed.ensures.0 c.if-not-branch.false))
    (rw c.in-Some.is at c.in_ok-bytes.ensures)
