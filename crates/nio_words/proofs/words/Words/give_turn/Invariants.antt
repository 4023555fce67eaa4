use Rattle.nio_history.specs.declared.act.Act.TheVariants.{GiveTurn}
use Rattle.nio_words.specs.Parts.{selector_in}
use Rattle.nio_words.proofs.words.Words.give_turn.Given as goal

abbrev pub ghost-step : goal.ghost-step
ghost-step a = record { who = a._me; act = λ n. GiveTurn (selector_in a.part) }
