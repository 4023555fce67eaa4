use Rattle.nio_table_tests.proofs.Idle.{some_still}
use Rattle.nio_table_tests.proofs.select.is_told_beside.Goals as goal

pub finishes-closing-requires-2-clause-closing : goal.finishes-closing-requires-2-clause-closing
finishes-closing-requires-2-clause-closing c =
    some_still c.finishes-closing.result c.finishes-closing.ensures.closing c.is_told-ended.ensures.closing

pub is_told-ended-requires-clause-begun : goal.is_told-ended-requires-clause-begun
is_told-ended-requires-clause-begun c =
    c.finishes-closing.ensures.selecting _
    (c.shuts-closing.ensures.selecting _ (c.begins_beside-busy.ensures.selecting _ c.requires.begun))
