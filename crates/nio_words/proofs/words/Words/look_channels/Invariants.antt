use Rattle.nio_history.specs.declared.act.Act.TheVariants.{LookChannels}
use Rattle.nio_words.specs.Decodings.{number_of}
use Rattle.nio_words.proofs.words.Words.look_channels.Given as goal

abbrev pub ghost-step : goal.ghost-step
ghost-step a = record { who = a._me; act = λ n. LookChannels (number_of n) }
