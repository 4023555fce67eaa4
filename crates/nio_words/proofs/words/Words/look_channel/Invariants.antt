use Rattle.nio_history.specs.declared.act.Act.TheVariants.{LookChannel}
use Rattle.nio_words.specs.Decodings.{chan_of}
use Rattle.nio_words.specs.Parts.{channel_in}
use Rattle.nio_words.proofs.words.Words.look_channel.Given as goal

abbrev pub ghost-step : goal.ghost-step
ghost-step a = record { who = a._me; act = λ n. LookChannel (channel_in a.part) (chan_of n) }
