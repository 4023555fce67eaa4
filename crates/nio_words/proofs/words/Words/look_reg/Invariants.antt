use Rattle.nio_history.specs.declared.act.Act.TheVariants.{LookReg}
use Rattle.nio_words.specs.Decodings.{enrolled_of}
use Rattle.nio_words.specs.Parts.{channel_in, selector_in}
use Rattle.nio_words.proofs.words.Words.look_reg.Given as goal

abbrev pub ghost-step : goal.ghost-step
ghost-step a = record { who = a._me; act = λ n. LookReg (channel_in a.part) (selector_in a.part) (enrolled_of n) }
