use Rattle.nio_table_tests.proofs.Callers.{both_drawn}
use Rattle.nio_table_tests.proofs.tables.drawn_table.Goals as goal

pub returns-clause-drawn : goal.returns-clause-drawn
returns-clause-drawn c =
    both_drawn c.in_ok-words.ensures.pass c.in_ok-draw.ensures.answer.1 c.in_ok-draw-2.ensures.answer.1
