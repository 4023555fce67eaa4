use Rattle.std.proofs.Common.{◌≡◌}
use Rattle.nio_words.proofs.words.Words.step.Given as goal
use Rattle.nio_words.specs.Telling.{Adds}

abbrev pub ghosts-perform : goal.ghosts-perform
ghosts-perform g a =
    record {
      then = λ _ before found after. (after.1 ≡ before.1)
          × Adds before.0 before.0.numbers g.doing.who (g.doing.act found) after.0;
    }
