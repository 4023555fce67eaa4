-- The looked keys with the indexes below a number, index by index.
use Rattle.std.proofs.Common.{◌≡◌, ℕ, ◌+◌, ◌<◌, Bool, if◌then◌else◌, List, [], ◌∷◌, ◌++◌, length, refl, ap, ◌∙◌, arith}
use Rattle.std.specs.Prelude.{nat_lt}
use Rattle.std.proofs.lemmas.Bool.{le-ltb}
use Rattle.std.proofs.lemmas.List.{length-append}
use Rattle.std.proofs.lemmas.List.Sums.{length-filter, count_by-le-length}
use Rattle.nio_steps.specs.declared.looked.LookedKey.{LookedKey}
use Rattle.nio_select.specs.Asked.{keys_to}

-- no index is below 0
pub none_below : (keys : List LookedKey) → keys_to 0 keys ≡ []
none_below [] = refl
none_below (key ∷ later) =
    ap (λ (b : Bool). if b then key ∷ keys_to 0 later else keys_to 0 later) (le-ltb key.index 0 (omega arith))
    ∙ none_below later

-- the keys below an index that has a key are fewer than all
pub fewer_below : (index : ℕ) (key : LookedKey) (keys : List LookedKey)
    → keys_to (index + 1) keys ≡ keys_to index keys ++ key ∷ [] → length (keys_to index keys) < length keys
fewer_below index key keys next =
    omega (
      arith,
      ap length next,
      length-append (keys_to index keys) (key ∷ []),
      length-filter (λ (e : LookedKey). nat_lt e.index (index + 1)) keys,
      count_by-le-length (λ (e : LookedKey). nat_lt e.index (index + 1)) keys,
    )
