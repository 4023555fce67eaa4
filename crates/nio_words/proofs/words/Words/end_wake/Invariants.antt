use Rattle.nio_history.specs.declared.act.Act.TheVariants.{EndWake}
use Rattle.nio_words.specs.Decodings.{gate_of}
use Rattle.nio_words.specs.Parts.{selector_in}
use Rattle.nio_words.proofs.words.Words.end_wake.Given as goal

abbrev pub ghost-step : goal.ghost-step
ghost-step a = record { who = a._me; act = λ n. EndWake (selector_in a.part) (gate_of n) }
