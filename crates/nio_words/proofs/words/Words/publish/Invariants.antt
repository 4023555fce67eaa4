use Rattle.nio_history.specs.declared.act.Act.TheVariants.{Publish}
use Rattle.nio_words.specs.Decodings.{stage_of}
use Rattle.nio_words.specs.Parts.{selector_in, index_in}
use Rattle.nio_words.proofs.words.Words.publish.Given as goal

abbrev pub ghost-step : goal.ghost-step
ghost-step a = record { who = a._me; act = λ n. Publish (selector_in a.part) (index_in a.part) (stage_of n) }
