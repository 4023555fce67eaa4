use Rattle.nio_history.specs.declared.act.Act.TheVariants.{LookInterrupt}
use Rattle.nio_words.specs.Decodings.{is_set}
use Rattle.nio_words.proofs.words.Words.look_interrupt.Given as goal

abbrev pub ghost-step : goal.ghost-step
ghost-step a = record { who = a._me; act = λ n. LookInterrupt (is_set n a._me.0) }
