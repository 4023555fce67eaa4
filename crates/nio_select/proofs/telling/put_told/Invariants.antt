use Rattle.std.proofs.Common.{take}
use Rattle.nio_select.specs.ToldSlots.{IsAsLong, IsTold}
use Rattle.nio_select.proofs.telling.put_told.Given as goal

abbrev pub invariant-loop-index : goal.invariant-loop-index
invariant-loop-index l = record {
  told : IsTold (take l.index-index l.pairs) l.bound l.noted;
  room : IsAsLong l.fn.noted l.noted;
}
