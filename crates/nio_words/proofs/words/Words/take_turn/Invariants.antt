use Rattle.nio_history.specs.declared.act.Act.TheVariants.{TakeTurn}
use Rattle.nio_words.specs.Decodings.{holder_of}
use Rattle.nio_words.specs.Parts.{selector_in}
use Rattle.nio_words.proofs.words.Words.take_turn.Given as goal

abbrev pub ghost-step : goal.ghost-step
ghost-step a = record { who = a._me; act = λ n. TakeTurn (selector_in a.part) (holder_of n) }
