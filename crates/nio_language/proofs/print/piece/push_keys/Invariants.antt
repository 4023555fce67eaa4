use Rattle.std.proofs.Common.{◌≡◌, ◌++◌, map, take}
use Rattle.nio_language.specs.Printing.{spaced}
use Rattle.nio_language.specs.Words.{key_word}
use Rattle.nio_language.proofs.print.piece.push_keys.Given as goal

abbrev pub invariant-loop-key : goal.invariant-loop-key
invariant-loop-key l =
    l.line.items ≡ l.initial.line.items ++ spaced (map key_word (take l.key-index l.keys))
