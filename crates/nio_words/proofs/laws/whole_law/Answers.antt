use Rattle.nio_words.proofs.Whole.{holders_of_all_see_all}
use Rattle.nio_words.proofs.laws.whole_law.Goals as goal

pub returns : goal.returns
returns c = holders_of_all_see_all
