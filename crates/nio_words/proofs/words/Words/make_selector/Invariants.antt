use Rattle.nio_history.specs.declared.act.Act.TheVariants.{MakeSelector}
use Rattle.nio_words.specs.Decodings.{is_set}
use Rattle.nio_words.specs.Instructions.{operand}
use Rattle.nio_words.proofs.words.Words.make_selector.Given as goal

abbrev pub ghost-step : goal.ghost-step
ghost-step a =
    record {
      who = a._me;
      act = λ n. MakeSelector (record {
        0 = operand a.instruction;
      }) (is_set n (operand a.instruction));
    }
