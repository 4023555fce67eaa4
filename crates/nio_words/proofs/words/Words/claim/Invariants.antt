use Rattle.nio_history.specs.declared.act.Act.TheVariants.{Claim}
use Rattle.nio_words.specs.Decodings.{is_set}
use Rattle.nio_words.specs.Parts.{selector_in, index_in}
use Rattle.nio_words.proofs.Details.{channel_of_details}
use Rattle.nio_words.proofs.words.Words.claim.Given as goal

abbrev pub ghost-step_that : goal.ghost-step_that
ghost-step_that a =
    record {
      who = a.me;
      act = λ n. Claim (selector_in a.part) (index_in a.part) (channel_of_details a._details)
          (is_set n 0);
    }
