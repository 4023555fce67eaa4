use Rattle.nio_history.specs.declared.act.Act.TheVariants.{RaiseChannels}
use Rattle.nio_words.specs.Decodings.{number_of}
use Rattle.nio_words.proofs.Details.{number_of_details}
use Rattle.nio_words.proofs.words.Words.raise_channels.Given as goal

abbrev pub ghost-step_that : goal.ghost-step_that
ghost-step_that a = record { who = a.me; act = λ n. RaiseChannels (number_of_details a._details) (number_of n) }
