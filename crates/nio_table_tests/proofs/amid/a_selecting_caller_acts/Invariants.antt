use Rattle.std.specs.Prelude.{IfSome}
use Rattle.nio_channel.specs.Idle.{AreIdle, zero}
use Rattle.nio_select.specs.InProgress.{HasList}
use Rattle.nio_words.specs.Views.{view}
use Rattle.nio_table_tests.proofs.amid.a_selecting_caller_acts.Given as goal

abbrev pub invariant-loop-at : goal.invariant-loop-at
invariant-loop-at g l = record {
  idle : AreIdle l.words l.p;
  list : IfSome l.list (HasList (view l.words l.p) zero);
}
