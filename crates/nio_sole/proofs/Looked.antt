-- The keys of a looked list, by their indexes.
use Rattle.std.proofs.Common.{◌≡◌, ℕ, ◌+◌, ◌<◌, ◌==◌, Bool, true, false, ◌&&◌, ◌||◌, if◌then◌else◌, Option, Some, None}
use Rattle.std.proofs.Common.{All, List, [], ◌∷◌, ◌++◌, map, refl, ap, sym, ◌∙◌, arith, eqb-true}
use Rattle.std.specs.Prelude.{option_map, option_to_list}
use Rattle.std.specs.List.{AllPairs}
use Rattle.std.proofs.Math.Bool.{or-false}
use Rattle.std.proofs.lemmas.Bool.{ne_eqb}
use Rattle.std.proofs.lemmas.List.{map-append}
use Rattle.std.proofs.lemmas.List.Elements.{All-head, All-tail, All-weaker}
use Rattle.nio_base.specs.declared.numbers.KeyId.{KeyId}
use Rattle.nio_history.specs.Lists.{ListEntry}
use Rattle.nio_plain.specs.Seq.Names.{is_same_key}
use Rattle.nio_plain.specs.Seq.Selections.{is_looked}
use Rattle.nio_select.specs.Asked.{key_at, key_with, keys_to}
use Rattle.nio_serial.specs.Documented.{looked_pair}
use Rattle.nio_steps.proofs.Lists.{pairs-head, pairs-tail}
use Rattle.nio_steps.proofs.Relisted.{listed_from, none_listed}
use Rattle.nio_steps.specs.declared.looked.LookedKey.{LookedKey}

abbrev Rise : List LookedKey → Type 0
Rise looked = AllPairs (λ x y. x.index < y.index) looked

-- ---- the keys with smaller indexes

-- what is listed of the keys up to the next index
pub next_pairs : (n : ℕ) (looked : List LookedKey) (o : Option LookedKey)
    → keys_to (n + 1) looked ≡ keys_to n looked ++ option_to_list o
    → map looked_pair (keys_to (n + 1) looked) ≡ map looked_pair (keys_to n looked) ++ map looked_pair (option_to_list o)
next_pairs n looked o more = ap (map looked_pair) more ∙ map-append looked_pair (keys_to n looked) (option_to_list o)

-- ---- a key by its index and serial

-- the key has this serial
abbrev pub has_serial : ℕ → Option LookedKey → Bool
has_serial serial None = false
has_serial serial (Some key) = key.serial == serial

other_index : (x : LookedKey) (k : KeyId) → (x.index ≡ k.index → ⊥) → is_same_key (looked_pair x).0 k ≡ false
other_index x k other = ap (λ (b : Bool). b && (x.serial == k.serial)) (ne_eqb x.index k.index other)

-- none of these is the key
none_above : (looked : List LookedKey) (k : KeyId) → All (λ x. k.index < x.index) looked
    → is_looked (map looked_pair looked) k ≡ false
none_above [] k above = refl
none_above (x ∷ looked) k above =
    let great = All-head (λ y. k.index < y.index) x looked above in
    ap (λ (b : Bool). b || is_looked (map looked_pair looked) k) (other_index x k (λ same. omega (arith, great, same)))
    ∙ none_above looked k (All-tail (λ y. k.index < y.index) x looked above)

-- Where the indexes rise, a key is looked at if the key of its index has its serial.
pub looked_by_index : (looked : List LookedKey) (k : KeyId) → Rise looked
    → is_looked (map looked_pair looked) k ≡ has_serial k.serial (key_at k.index looked)
looked_by_index [] k rise = refl
looked_by_index (x ∷ looked) k rise =
    by_test (x.index == k.index) refl
    (looked_by_index looked k (pairs-tail (λ a b. a.index < b.index) x looked rise))
  where
    entry : ListEntry
    entry = record { serial = x.serial; channel = x.channel; interest = x.interest }

    with_entry : Option ListEntry → Bool
    with_entry found = has_serial k.serial (option_map (key_with k.index) (listed_from k.index found looked))

    by_test : (b : Bool) → (x.index == k.index) ≡ b
        → is_looked (map looked_pair looked) k ≡ has_serial k.serial (key_at k.index looked)
        → is_looked (map looked_pair (x ∷ looked)) k ≡ with_entry (if (x.index == k.index) then Some entry else None)
    by_test true is later =
        let same : x.index ≡ k.index = eqb-true x.index k.index is in
        let above : All (λ y. k.index < y.index) looked = All-weaker (λ y. x.index < y.index) (λ y. k.index < y.index)
        (λ y greater. omega (arith, same, greater)) looked (pairs-head (λ a b. a.index < b.index) x looked rise) in
        let not_there = none_listed k.index (Some entry) looked
        (All-weaker (λ y. k.index < y.index) (λ y. (y.index == k.index) ≡ false)
        (λ y greater. ne_eqb y.index k.index (λ at. omega (arith, at, greater))) looked above) in
        ap (λ (b : Bool). (b && (x.serial == k.serial)) || is_looked (map looked_pair looked) k) is
        ∙ (ap (λ (b : Bool). (x.serial == k.serial) || b) (none_above looked k above)
        ∙ (or-false (x.serial == k.serial)
        ∙ sym (ap (λ (b : Bool). with_entry (if b then Some entry else None)) is
        ∙ ap (λ o. has_serial k.serial (option_map (key_with k.index) o)) not_there)))
    by_test false is later =
        ap (λ (b : Bool). (b && (x.serial == k.serial)) || is_looked (map looked_pair looked) k) is
        ∙ (later ∙ sym (ap (λ (b : Bool). with_entry (if b then Some entry else None)) is))
