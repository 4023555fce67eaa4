-- What contracts see of the ends of a line.
use Rattle.std.specs.Prelude.{◌≡◌, ◌≢◌, ℕ, Option, List, [], ◌∷◌, ◌++◌, All}
use mathlib.Core.List.{IsPrefix}
use Rattle.atomic_table.specs.Seated.{TableId}
use Rattle.atomic_table.specs.declared.badge.Badge.{Badge}
use Rattle.crossbeam_channel.specs.declared.flavors.array.Key.{Key}

-- which line it is
pub record LineId (T : Type 0) : Type 0 where
  pub table : TableId
  pub key : Badge (Key T)

-- The end that sends: which line it is an end of, how many messages the line has room for, and what was sent, the
-- oldest first.
pub record End (T : Type 0) : Type 0 where
  pub line : LineId T
  pub room : ℕ
  pub carried : List T

-- The end that receives: the same with what was received, and, once it has taken in the other end, what was sent in
-- all.
pub record Exit (T : Type 0) : Type 0 where
  pub line : LineId T
  pub room : ℕ
  pub carried : List T
  pub all : Option (List T)

-- Where the last message was received too, and was sent once, all was received.
abbrev pub LastIsAll : Type 0 → Type 0
LastIsAll T = (received sent : List T) (last : T) → All (λ x. x ≢ last) sent
    → IsPrefix (received ++ last ∷ []) (sent ++ last ∷ []) → received ≡ sent
