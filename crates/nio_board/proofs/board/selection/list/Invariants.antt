use Rattle.std.proofs.Common.{◌≡◌}
use Rattle.std.specs.Prelude.{take}
use Rattle.nio_poller.specs.Polls.{told_of_channel}
use Rattle.nio_board.specs.Board.{AreReady, told_of_keys}
use Rattle.nio_board.proofs.board.selection.list.Given as goal

abbrev pub invariant-loop-index : goal.invariant-loop-index
invariant-loop-index l = record {
  ready : AreReady (told_of_channel l.asked.keys l.pairs) l.told.items;
  exact : l.told.items ≡ told_of_keys l.asked.keys (take l.index-index l.pairs);
}
