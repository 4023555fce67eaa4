use Rattle.nio_history.specs.declared.act.Act.TheVariants.{Mark}
use Rattle.nio_words.specs.Decodings.{exchange_found}
use Rattle.nio_words.specs.Parts.{selector_in, index_in}
use Rattle.nio_words.proofs.Details.{mark_of_details, told_of_details}
use Rattle.nio_words.proofs.words.Words.mark.Given as goal

abbrev pub ghost-step_that : goal.ghost-step_that
ghost-step_that a =
    record {
      who = a.me;
      act = λ n. Mark (selector_in a.part) (index_in a.part) (mark_of_details a._details)
          (told_of_details a._details) (exchange_found (mark_of_details a._details) n);
    }
