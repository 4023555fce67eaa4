use Rattle.nio_words.proofs.words.Words.draw_bit.Given as goal

abbrev pub ghost-draw_as : goal.ghost-draw_as
ghost-draw_as a = a.number
