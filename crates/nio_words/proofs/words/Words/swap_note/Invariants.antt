use Rattle.nio_history.specs.declared.act.Act.TheVariants.{SwapNote}
use Rattle.nio_words.specs.Instructions.{operand}
use Rattle.nio_words.specs.Parts.{selector_in, index_in}
use Rattle.nio_words.proofs.words.Words.swap_note.Given as goal

abbrev pub ghost-step : goal.ghost-step
ghost-step a =
    record { who = a._me; act = λ n. SwapNote (selector_in a.part) (index_in a.part) (operand a.instruction) n }
