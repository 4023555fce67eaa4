use Rattle.nio_history.specs.declared.act.Act.TheVariants.{LookMark}
use Rattle.nio_words.specs.Decodings.{mark_of}
use Rattle.nio_words.specs.Parts.{selector_in, index_in}
use Rattle.nio_words.proofs.words.Words.look_mark.Given as goal

abbrev pub ghost-step : goal.ghost-step
ghost-step a = record { who = a._me; act = λ n. LookMark (selector_in a.part) (index_in a.part) (mark_of n) }
