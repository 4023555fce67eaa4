use Rattle.std.specs.Prelude.{◌%◌}
use Rattle.nio_history.specs.declared.act.Act.TheVariants.{Touch}
use Rattle.nio_words.specs.Decodings.{is_set}
use Rattle.nio_words.specs.Parts.{selector_in}
use Rattle.nio_words.proofs.Details.{number_of_details}
use Rattle.nio_words.proofs.words.Words.touch.Given as goal

abbrev pub ghost-step_that : goal.ghost-step_that
ghost-step_that a =
    record {
      who = a.me;
      act = λ n. Touch (selector_in a.part) (number_of_details a._details)
          (is_set n (number_of_details a._details % 64));
    }
