use Rattle.nio_history.specs.declared.act.Act.TheVariants.{SwapInterest}
use Rattle.nio_words.specs.Decodings.{operations_of}
use Rattle.nio_words.specs.Instructions.{operand}
use Rattle.nio_words.specs.Parts.{selector_in, index_in}
use Rattle.nio_words.proofs.words.Words.swap_interest.Given as goal

abbrev pub ghost-step : goal.ghost-step
ghost-step a =
    record {
      who = a._me;
      act = λ n. SwapInterest (selector_in a.part) (index_in a.part) (operand a.instruction)
          (operations_of n);
    }
