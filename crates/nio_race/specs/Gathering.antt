-- What the joining of a race's passes leaves.
use Rattle.std.specs.Prelude.{◌≡◌}
use mathlib.Core.List.{IsPrefix}
use Rattle.nio_base.specs.declared.numbers.CallerNo.{CallerNo}
use Rattle.nio_history.specs.Histories.{mine}
use Rattle.nio_words.specs.Passes.{Holds, seen}
use Rattle.nio_words.specs.declared.words.Pass.{Pass}

-- What the one pass has seen begins what the other has. Its numbers are held by the other, and have the same events
-- there.
pub record StandsIn (before after : Pass) : Type 0 where
  pub begins : IsPrefix (seen before) (seen after)
  pub holds : (n : CallerNo) → Holds before n → Holds after n
  pub own : (n : CallerNo) → Holds before n → mine n (seen after) ≡ mine n (seen before)
