use Rattle.nio_words.proofs.words.Words.step_that.Given as goal

abbrev pub ghost-step : goal.ghost-step
ghost-step g a = g.doing
