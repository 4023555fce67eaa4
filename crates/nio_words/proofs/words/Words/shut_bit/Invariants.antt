use Rattle.nio_history.specs.declared.act.Act.TheVariants.{ShutBit}
use Rattle.nio_words.specs.Decodings.{is_set}
use Rattle.nio_words.specs.Parts.{selector_in}
use Rattle.nio_words.proofs.words.Words.shut_bit.Given as goal

abbrev pub ghost-step : goal.ghost-step
ghost-step a = record { who = a._me; act = λ n. ShutBit (selector_in a.part) (is_set n 1) }
