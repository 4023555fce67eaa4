use Rattle.std.proofs.Common.{refl}
use Rattle.nio_bench.specs.SetUp.{selector}
use Rattle.nio_channel.specs.Idle.{zero, one}
use Rattle.nio_channel.proofs.Idle.{zero_other}
use Rattle.nio_poller.proofs.Ready.{selector_same}
use Rattle.nio_bench.proofs.waiting.time_select.Goals as goal

pub join-slept-requires-after_bounds : goal.join-slept-requires-after_bounds
join-slept-requires-after_bounds g c κs within =
    let over = c.in_ok-q.ensures in
    let idle = c.in_ok-words.ensures in
    let words = c.in_ok-words.words in (
      (
        record { pass = over.sees.pass; number = (over.numbers zero).1 (idle.zero_ready.number, zero_other) },
        selector_same words c.in_ok-words.p c.hand_over.new.p selector over.sees.sight idle.selector,
      ),
      (
        record { pass = over.sees.given_pass; number = (over.given_number one).1 refl },
        selector_same words c.in_ok-words.p c.in_ok-q.q selector over.sees.given_sight idle.selector,
      ),
    )
