use Rattle.nio_history.specs.declared.act.Act.TheVariants.{LookSelectors}
use Rattle.nio_words.proofs.words.Words.look_selectors.Given as goal

abbrev pub ghost-step : goal.ghost-step
ghost-step a = record { who = a._me; act = λ n. LookSelectors n }
