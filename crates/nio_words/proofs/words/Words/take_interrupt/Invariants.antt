use Rattle.nio_history.specs.declared.act.Act.TheVariants.{TakeInterrupt}
use Rattle.nio_words.specs.Decodings.{is_set}
use Rattle.nio_words.proofs.words.Words.take_interrupt.Given as goal

abbrev pub ghost-step : goal.ghost-step
ghost-step a = record { who = a._me; act = λ n. TakeInterrupt (is_set n a._me.0) }
