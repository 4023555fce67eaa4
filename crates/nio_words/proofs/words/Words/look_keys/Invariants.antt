use Rattle.nio_history.specs.declared.act.Act.TheVariants.{LookKeys}
use Rattle.nio_words.specs.Decodings.{number_of}
use Rattle.nio_words.specs.Parts.{selector_in}
use Rattle.nio_words.proofs.words.Words.look_keys.Given as goal

abbrev pub ghost-step : goal.ghost-step
ghost-step a = record { who = a._me; act = λ n. LookKeys (selector_in a.part) (number_of n) }
