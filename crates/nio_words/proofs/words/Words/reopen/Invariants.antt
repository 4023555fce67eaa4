use Rattle.nio_history.specs.declared.act.Act.TheVariants.{Reopen}
use Rattle.nio_words.specs.Decodings.{is_other_channel}
use Rattle.nio_words.specs.Parts.{channel_in}
use Rattle.nio_words.proofs.Details.{found_of_details}
use Rattle.nio_words.proofs.words.Words.reopen.Given as goal

abbrev pub ghost-step_that : goal.ghost-step_that
ghost-step_that a =
    record {
      who = a.me;
      act = λ n. Reopen (channel_in a.part) (found_of_details a._details)
          (is_other_channel (found_of_details a._details) n);
    }
