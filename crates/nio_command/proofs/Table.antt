-- A table of options: which of them a name finds.
use Rattle.std.proofs.Common.{◌≡◌, ◌⊎◌, ◌∙◌, ℕ, Bool, true, false, List, [], ◌∷◌, Some, None, map, refl, sym, ap, inl}
use Rattle.std.proofs.Common.{inr}
use Rattle.std.proofs.lemmas.Slice.Eq.{bytes_eq-Decides}
use Rattle.std.specs.Str.{bytes_eq}
use Rattle.clap.specs.Walk.{Rule, Text, arg_by_id, arg_by_index, arg_by_long, arg_by_short}
use Rattle.nio_command.proofs.Apps.{option_rule}

abbrev pub rules_of : List Text → List Rule
rules_of names = map option_rule names

abbrev pub IsName : List Text → Text → Type 0
IsName [] n = ⊥
IsName (x ∷ xs) n = (x ≡ n) ⊎ IsName xs n

differs : (x n : Text) → bytes_eq x n ≡ false → x ≡ n → ⊥
differs x n e same = let bad : true ≡ false = sym ((bytes_eq-Decides x n).1 same) ∙ e in cc

pub long_found : (names : List Text) (n : Text) → IsName names n → arg_by_long (rules_of names) n ≡ Some (option_rule n)
long_found [] n h = absurd h
long_found (x ∷ xs) n h = go (bytes_eq x n) refl (long_found xs n)
  where
    go : (t : Bool) → bytes_eq x n ≡ t → (IsName xs n → arg_by_long (rules_of xs) n ≡ Some (option_rule n))
        → arg_by_long (rules_of (x ∷ xs)) n ≡ Some (option_rule n)
    go true e more = rw e (ap (λ (m : Text). Some (option_rule m)) ((bytes_eq-Decides x n).0 e))
    go false e more = elim h [
      | inl same ↦ absurd (differs x n e same)
      | inr rest ↦ rw e (more rest)
    ]

pub long_either : (names : List Text) (n : Text) → (arg_by_long (rules_of names) n ≡ None) ⊎ IsName names n
long_either [] n = inl refl
long_either (x ∷ xs) n = go (bytes_eq x n) refl (long_either xs n)
  where
    go : (t : Bool) → bytes_eq x n ≡ t → (arg_by_long (rules_of xs) n ≡ None) ⊎ IsName xs n
        → (arg_by_long (rules_of (x ∷ xs)) n ≡ None) ⊎ IsName (x ∷ xs) n
    go true e more = inr (inl ((bytes_eq-Decides x n).0 e))
    go false e more = elim more [
      | inl none ↦ inl (rw e none)
      | inr rest ↦ inr (inr rest)
    ]

pub id_found : (names : List Text) (n : Text) → IsName names n → arg_by_id (rules_of names) n ≡ Some (option_rule n)
id_found [] n h = absurd h
id_found (x ∷ xs) n h = go (bytes_eq x n) refl (id_found xs n)
  where
    go : (t : Bool) → bytes_eq x n ≡ t → (IsName xs n → arg_by_id (rules_of xs) n ≡ Some (option_rule n))
        → arg_by_id (rules_of (x ∷ xs)) n ≡ Some (option_rule n)
    go true e more = rw e (ap (λ (m : Text). Some (option_rule m)) ((bytes_eq-Decides x n).0 e))
    go false e more = elim h [
      | inl same ↦ absurd (differs x n e same)
      | inr rest ↦ rw e (more rest)
    ]

pub no_short : (names : List Text) (x : ℕ) → arg_by_short (rules_of names) x ≡ None
no_short [] x = refl
no_short (n ∷ ns) x = no_short ns x

pub no_index : (names : List Text) (i : ℕ) → arg_by_index (rules_of names) i ≡ None
no_index [] i = refl
no_index (n ∷ ns) i = no_index ns i
