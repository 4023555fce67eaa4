use Rattle.nio_table_tests.proofs.select.one_of_two_threads_selects.Goals as goal

pub select_beside-closed-requires-clause-second : goal.select_beside-closed-requires-clause-second
select_beside-closed-requires-clause-second g c κs =
    (c.in_ok-q.ensures.second, (c.in_ok-q.ensures.channels c.in_ok-chan.chan c.in_ok-chan.ensures.made).1)
