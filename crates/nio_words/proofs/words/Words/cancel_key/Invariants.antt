use Rattle.nio_history.specs.declared.act.Act.TheVariants.{CancelKey}
use Rattle.nio_words.specs.Decodings.{stage_of}
use Rattle.nio_words.specs.Parts.{selector_in, index_in}
use Rattle.nio_words.proofs.words.Words.cancel_key.Given as goal

abbrev pub ghost-step : goal.ghost-step
ghost-step a = record { who = a._me; act = λ n. CancelKey (selector_in a.part) (index_in a.part) (stage_of n) }
