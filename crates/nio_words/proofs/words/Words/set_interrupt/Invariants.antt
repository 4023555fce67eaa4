use Rattle.nio_history.specs.declared.act.Act.TheVariants.{SetInterrupt}
use Rattle.nio_words.specs.Decodings.{is_set}
use Rattle.nio_words.specs.Instructions.{operand}
use Rattle.nio_words.proofs.words.Words.set_interrupt.Given as goal

abbrev pub ghost-step : goal.ghost-step
ghost-step a =
    record {
      who = a._me;
      act = λ n. SetInterrupt (record {
        0 = operand a.instruction;
      }) (is_set n (operand a.instruction));
    }
