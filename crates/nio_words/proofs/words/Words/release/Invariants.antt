use Rattle.nio_history.specs.declared.act.Act.TheVariants.{Release}
use Rattle.nio_words.specs.Parts.{channel_in}
use Rattle.nio_words.proofs.words.Words.release.Given as goal

abbrev pub ghost-step : goal.ghost-step
ghost-step a = record { who = a._me; act = λ n. Release (channel_in a.part) }
