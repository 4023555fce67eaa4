use Rattle.std.proofs.Common.{refl}
use Rattle.nio_channel.proofs.Idle.{zero_other}
use Rattle.nio_channel.specs.Idle.{zero, one}
use Rattle.nio_table_tests.proofs.Following.{drawn_follows}
use Rattle.nio_table_tests.proofs.words.threads.two_threads_take_and_put.Goals as goal

pub remove_first_key-requires : goal.remove_first_key-requires
remove_first_key-requires g c = drawn_follows c.in_ok-words.ensures.limits c.in_ok-words.ensures.drawn

pub both_take_and_put-first-requires-clause-first : goal.both_take_and_put-first-requires-clause-first
both_take_and_put-first-requires-clause-first g c κs =
    let over = c.in_ok-q.ensures in
    record { pass = over.sees.pass; number = (over.numbers zero).1 (c.remove_first_key.ensures.first, zero_other) }

pub both_take_and_put-first-requires-clause-second : goal.both_take_and_put-first-requires-clause-second
both_take_and_put-first-requires-clause-second g c κs =
    let over = c.in_ok-q.ensures in
    record { pass = over.sees.given_pass; number = (over.given_number one).1 refl }
