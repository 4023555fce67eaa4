use Rattle.std.specs.Prelude.{bit_and}
use Rattle.std.specs.Int.{bit_not, w64}
use Rattle.nio_words.specs.Rule.{split_view}
use Rattle.nio_words.proofs.words.Words.split_off.Given as goal

abbrev pub ghosts-split_seat : goal.ghosts-split_seat
ghosts-split_seat g a =
    record { left = λ v. split_view (bit_and v.numbers (bit_not w64 g.taken)) v; right = λ v. split_view g.taken v }
