use Rattle.nio_history.specs.declared.act.Act.TheVariants.{TakeList}
use Rattle.nio_words.specs.Decodings.{holder_of}
use Rattle.nio_words.specs.Parts.{selector_in}
use Rattle.nio_words.proofs.words.Words.take_list.Given as goal

abbrev pub ghost-step : goal.ghost-step
ghost-step a = record { who = a._me; act = λ n. TakeList (selector_in a.part) (holder_of n) }
