use Rattle.nio_steps.proofs.PinLaws.{pins_are_given_back}
use Rattle.nio_bench.proofs.SetUp.{idle_call}
use Rattle.nio_bench.proofs.select.run_by_list.Goals as goal

pub select_by_list-requires-clause-idle : goal.select_by_list-requires-clause-idle
select_by_list-requires-clause-idle g c =
    idle_call (pins_are_given_back.take_list _) c.take-selector.ensures.call c.take-selector.ensures.ready
    c.in_ok-words.ensures
