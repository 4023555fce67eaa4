use Rattle.nio_table_tests.proofs.Following.{drawn_follows}
use Rattle.nio_table_tests.proofs.words.worked.table_follows_the_worked_history.Goals as goal

pub remove_first_key-requires : goal.remove_first_key-requires
remove_first_key-requires g c = drawn_follows c.in_ok-words.ensures.limits c.in_ok-words.ensures.drawn
