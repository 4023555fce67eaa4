-- What splitting a pass, handing a number over and joining two passes do.
use Rattle.std.specs.Prelude.{◌≡◌, ◌≢◌, ◌↔◌, ◌⊎◌}
use mathlib.Core.List.{IsPrefix}
use Rattle.nio_base.specs.declared.numbers.CallerNo.{CallerNo}
use Rattle.nio_history.specs.Histories.{mine}
use Rattle.nio_words.specs.Passes.{seen, Holds, HoldSame, IsPassOf}
use Rattle.nio_words.specs.Rule.{longer}
use Rattle.nio_words.specs.declared.words.Pass.{Pass}
use Rattle.nio_words.specs.declared.words.Words.{Words}

-- a pass, before and after, and one that comes from it: both have seen what it had seen
pub record SeesSame (w : Words) (before after given : Pass) : Type 0 where
  pub pass : IsPassOf w after
  pub given_pass : IsPassOf w given
  pub sight : seen after ≡ seen before
  pub given_sight : seen given ≡ seen before

-- the new pass holds no number
pub record Splits (w : Words) (before after given : Pass) : Type 0 where
  pub sees : SeesSame w before after given
  pub numbers : HoldSame before after
  pub empty : (n : CallerNo) → Holds given n → ⊥

-- the new pass holds this number alone, and the old one the others
pub record HandsOver (w : Words) (number : CallerNo) (before after given : Pass) : Type 0 where
  pub sees : SeesSame w before after given
  pub numbers : (n : CallerNo) → Holds after n ↔ (Holds before n × (n ≢ number))
  pub given_number : (n : CallerNo) → Holds given n ↔ (n ≡ number)

-- what one of two joined passes had seen begins what is seen now, and each of its numbers has the
-- events that it had there
pub record StandsAfter (old after : Pass) : Type 0 where
  pub begins : IsPrefix (seen old) (seen after)
  pub own : (n : CallerNo) → Holds old n → mine n (seen after) ≡ mine n (seen old)

-- the pass holds the numbers of both, and has seen the longer of what they had seen
pub record Joins (w : Words) (before other after : Pass) : Type 0 where
  pub pass : IsPassOf w after
  pub sight : seen after ≡ longer (seen before) (seen other)
  pub stands : StandsAfter before after
  pub other_stands : StandsAfter other after
  pub numbers : (n : CallerNo) → Holds after n ↔ (Holds before n ⊎ Holds other n)
