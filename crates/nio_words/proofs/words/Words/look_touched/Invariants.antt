use Rattle.nio_history.specs.declared.act.Act.TheVariants.{LookTouched}
use Rattle.nio_words.specs.Parts.{selector_in, index_in}
use Rattle.nio_words.proofs.words.Words.look_touched.Given as goal

abbrev pub ghost-step : goal.ghost-step
ghost-step a = record { who = a._me; act = λ n. LookTouched (selector_in a.part) (index_in a.part) n }
