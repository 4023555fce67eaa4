use Rattle.nio_history.specs.declared.act.Act.TheVariants.{LookIndex}
use Rattle.nio_words.specs.Decodings.{index_of}
use Rattle.nio_words.specs.Parts.{selector_in, index_in}
use Rattle.nio_words.proofs.words.Words.look_index.Given as goal

abbrev pub ghost-step : goal.ghost-step
ghost-step a = record { who = a._me; act = λ n. LookIndex (selector_in a.part) (index_in a.part) (index_of n) }
