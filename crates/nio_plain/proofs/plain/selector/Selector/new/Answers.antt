use Rattle.std.proofs.Common.{length, ap, ◌∙◌}
use Rattle.std.specs.BTreeMap.{is_at}
use Rattle.std.specs.Map.{lookup}
use Rattle.std.specs.Ordering.{nat_cmp}
use Rattle.nio_plain.proofs.Places.{places-nil}
use Rattle.nio_plain.specs.PlainState.{places, key_row, no_key, new_selector}
use Rattle.nio_plain.proofs.plain.selector.Selector.new.Goals as goal

pub returns : goal.returns
returns c =
    let none = ap (places key_row no_key) c.new.ensures.items ∙ places-nil key_row no_key in
    λ i. record new_selector {
      keys_high = length (c.new.ensures.items i);
      keys = none i;
      enrolled = λ k. lookup (is_at (nat_cmp k)) (c.new-2.ensures.empty i);
    }
