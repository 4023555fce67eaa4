use Rattle.nio_history.specs.declared.act.Act.TheVariants.{Enrol}
use Rattle.nio_words.specs.Decodings.{enrolled_of}
use Rattle.nio_words.specs.Parts.{channel_in, selector_in}
use Rattle.nio_words.proofs.Details.{key_of_details}
use Rattle.nio_words.proofs.words.Words.enrol.Given as goal

abbrev pub ghost-step_that : goal.ghost-step_that
ghost-step_that a =
    record {
      who = a.me;
      act = λ n. Enrol (channel_in a.part) (selector_in a.part) (key_of_details a._details).index
          (key_of_details a._details).serial (enrolled_of n);
    }
