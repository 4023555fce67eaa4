use Rattle.std.proofs.Common.{◌≡◌, ◌++◌, map, take}
use Rattle.nio_language.specs.Printing.{spaced}
use Rattle.nio_language.specs.Words.{pair_word}
use Rattle.nio_language.proofs.print.piece.push_pairs.Given as goal

abbrev pub invariant-loop-pair : goal.invariant-loop-pair
invariant-loop-pair l =
    l.line.items ≡ l.initial.line.items ++ spaced (map pair_word (take l.pair-index l.pairs))
