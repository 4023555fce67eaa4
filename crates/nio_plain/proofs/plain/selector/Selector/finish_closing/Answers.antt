use Rattle.std.proofs.Common.{true, Some, ap}
use Rattle.nio_plain.specs.PlainState.{SelectorRow}
use Rattle.nio_plain.proofs.plain.selector.Selector.finish_closing.Goals as goal

pub returns : goal.returns
returns c =
    let ends : SelectorRow
    → SelectorRow = λ r. record r {
      gate = record r.gate { shut = true };
      closer = Some c.args.closer;
      entered = true;
    } in
    ap ends c.remove_keys.ensures
