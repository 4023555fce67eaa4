use Rattle.nio_words.proofs.words.Words.split.Given as goal

abbrev pub ghost-split_off : goal.ghost-split_off
ghost-split_off a = a.numbers
