use Rattle.nio_table_tests.proofs.channel.two_threads_register_and_close.Goals as goal

pub both_close-first-requires-clause-first : goal.both_close-first-requires-clause-first
both_close-first-requires-clause-first g c κs =
    (c.in_ok-q.ensures.first, (c.in_ok-q.ensures.channels c.in_ok-chan.chan c.in_ok-chan.ensures.made).0)

pub both_close-first-requires-clause-second : goal.both_close-first-requires-clause-second
both_close-first-requires-clause-second g c κs =
    (c.in_ok-q.ensures.second, (c.in_ok-q.ensures.channels c.in_ok-chan.chan c.in_ok-chan.ensures.made).1)
