use Rattle.nio_history.specs.declared.act.Act.TheVariants.{ClaimAgain}
use Rattle.nio_words.specs.Decodings.{was_pinned}
use Rattle.nio_words.specs.Parts.{selector_in, index_in}
use Rattle.nio_words.proofs.Details.{channel_of_details, stage_of_details}
use Rattle.nio_words.proofs.words.Words.claim_again.Given as goal

abbrev pub ghost-step_that : goal.ghost-step_that
ghost-step_that a =
    record {
      who = a.me;
      act = λ n. ClaimAgain (selector_in a.part) (index_in a.part) (channel_of_details a._details)
          (stage_of_details a._details) (was_pinned (stage_of_details a._details) n);
    }
