use Rattle.std.proofs.Common.{◌≡◌}
use Rattle.nio_words.specs.Decodings.{is_set}
use Rattle.nio_words.specs.Telling.{TellsDrawn}
use Rattle.nio_words.proofs.words.Words.draw_as.Given as goal

abbrev pub ghosts-perform : goal.ghosts-perform
ghosts-perform g a =
    record {
      then = λ _ before found after. (after.1 ≡ before.1)
          × TellsDrawn before.0 g.who (is_set found g.who.0) after.0;
    }
