use Rattle.std.proofs.Common.{◌≡◌, Bool, true, false, not, Option, Some, None, is_some, refl}
use Rattle.nio_base.specs.declared.numbers.CallerNo.{CallerNo}
use Rattle.nio_channel.proofs.Held.{takes_the_hold}
use Rattle.nio_table_tests.proofs.channel.holds.Goals as goal

is_none : (o : Option CallerNo) (b : Bool) → is_some o ≡ not b → b ≡ true → o ≡ None
is_none None b there free = refl
is_none (Some n) true there free = absurd cc
is_none (Some n) false there free = absurd cc

pub returns : goal.returns
returns c =
    λ free. takes_the_hold c.try_hold_bit.ensures
    (is_none c.try_hold_bit.result c.is_none.result c.is_none.ensures free) c.requires.may.ready
    c.requires.channel.inside
