use Rattle.nio_steps.proofs.PinLaws.{pins_are_given_back}
use Rattle.nio_table_tests.proofs.Idle.{idle_call, some_still}
use Rattle.nio_table_tests.proofs.amid.a_selecting_caller_acts.Goals as goal

pub loop-at-init : goal.loop-at-init
loop-at-init g c = record {
  idle = idle_call (pins_are_given_back.take_list _) c.take_list-list.ensures.call c.take_list-list.ensures.ready
      c.answer-opened.ensures;
  list = some_still c.take_list-list.result c.take_list-list.ensures.list (λ list has. has.1);
}
