use Rattle.nio_history.specs.declared.act.Act.TheVariants.{CloseBit}
use Rattle.nio_words.specs.Decodings.{chan_of}
use Rattle.nio_words.specs.Parts.{channel_in}
use Rattle.nio_words.proofs.Details.{found_of_details}
use Rattle.nio_words.proofs.words.Words.close_bit.Given as goal

abbrev pub ghost-step_that : goal.ghost-step_that
ghost-step_that a =
    record { who = a.me; act = λ n. CloseBit (channel_in a.part) (found_of_details a._details) (chan_of n) }
