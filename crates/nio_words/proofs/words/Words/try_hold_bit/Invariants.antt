use Rattle.nio_history.specs.declared.act.Act.TheVariants.{TryHoldBit}
use Rattle.nio_words.specs.Decodings.{holder_of}
use Rattle.nio_words.specs.Parts.{channel_in}
use Rattle.nio_words.proofs.words.Words.try_hold_bit.Given as goal

abbrev pub ghost-step : goal.ghost-step
ghost-step a = record { who = a._me; act = λ n. TryHoldBit (channel_in a.part) (holder_of n) }
