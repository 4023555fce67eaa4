use Rattle.nio_history.specs.declared.act.Act.TheVariants.{MakeChannel}
use Rattle.nio_words.specs.Decodings.{is_set}
use Rattle.nio_words.specs.Parts.{channel_in}
use Rattle.nio_words.proofs.Details.{kind_of_details}
use Rattle.nio_words.proofs.words.Words.make_channel.Given as goal

abbrev pub ghost-step_that : goal.ghost-step_that
ghost-step_that a =
    record { who = a.me; act = λ n. MakeChannel (channel_in a.part) (kind_of_details a._details) (is_set n 0) }
