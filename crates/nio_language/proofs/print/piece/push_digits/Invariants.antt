use Rattle.std.proofs.Common.{◌≡◌, ◌++◌, take}
use Rattle.nio_language.specs.Words.{hex_digits}
use Rattle.nio_language.proofs.print.piece.push_digits.Given as goal

abbrev pub invariant-loop-byte : goal.invariant-loop-byte
invariant-loop-byte l = l.line.items ≡ l.initial.line.items ++ hex_digits (take l.byte-index l.bytes)
