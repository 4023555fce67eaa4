use Rattle.std.proofs.Common.{◌≡◌}
use Rattle.nio_words.specs.Telling.{Recalls}
use Rattle.nio_words.proofs.words.Words.join.Given as goal

abbrev pub ghosts-perform : goal.ghosts-perform
ghosts-perform a = record { then = λ _ before found after. (after.1 ≡ before.1) × Recalls before.0 after.0 }
