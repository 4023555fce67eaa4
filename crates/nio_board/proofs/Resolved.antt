-- What a poll told of a key, its channel is ready for.
use Rattle.std.proofs.Common.{◌≡◌, ℕ, ◌==◌, Bool, true, false, if◌then◌else◌, IsTrue, inl, inr, Option, Some, List}
use Rattle.std.proofs.Common.{[], ◌∷◌}
use Rattle.std.proofs.Common.{◌++◌, ◌+◌, ◌<◌, length, slice_index_or, bit_and, refl, ap, sym, ◌∙◌, subst, eq-eqb, eqb-true}
use Rattle.std.proofs.Common.{add-one}
use Rattle.std.specs.Prelude.{take}
use Rattle.std.specs.List.{flat_map}
use Rattle.std.proofs.Math.Seq.{take-suc}
use Rattle.std.proofs.lemmas.Grind.{flat_map-append}
use Rattle.std.proofs.lemmas.List.{append-nil}
use Rattle.std.proofs.Common.{◌⊎◌, None, fold, arith}
use Rattle.std.specs.Prelude.{option_map}
use Rattle.std.specs.List.{All, Contains}
use Rattle.std.proofs.lemmas.List.Elements.{All-append, Contains-append_right, Contains-get_or}
use Rattle.nio_base.specs.declared.numbers.ChanNo.{ChanNo}
use Rattle.nio_history.specs.Lists.{ListEntry}
use Rattle.nio_poller.proofs.Marks.{IsPart, part_met, part_then, told_in_channel, told_in_pairs}
use Rattle.nio_steps.proofs.Lists.{all-one}
use Rattle.nio_base.specs.Ops.{is_within}
use Rattle.nio_steps.specs.SelectCalls.{told_at}
use Rattle.nio_steps.specs.declared.looked.LookedKey.{LookedKey}
use Rattle.nio_poller.specs.Polls.{told_of_channel}
use Rattle.nio_select.specs.Asked.{key_at, key_with}
use Rattle.nio_board.specs.Board.{AreReady, told_of_key, told_of_keys}

-- the key stands in the list, under this index
abbrev Stands : ℕ → List LookedKey → LookedKey → Type 0
Stands i keys key = Contains keys key × (key.index ≡ i)

-- the key that is found where the list is gone over, with what was found before
found_from : (i : ℕ) (keys : List LookedKey) (before : Option ListEntry) (key : LookedKey)
    → option_map (key_with i) (fold (λ found e. if e.index == i then Some (record {
      serial = e.serial;
      channel = e.channel;
      interest = e.interest;
    }) else found) before keys) ≡ Some key → Stands i keys key ⊎ (option_map (key_with i) before ≡ Some key)
found_from i [] before key is = inr is
found_from i (e ∷ keys) before key is = elim (found_from i keys _ key is) [
  | inl later ↦ inl (Contains-append_right (e ∷ []) keys key later.0, later.1)
  | inr here ↦ by_test (e.index == i) refl here
]
  where
    by_test : (b : Bool) → (e.index == i) ≡ b
        → option_map (key_with i) (if b then Some (record {
          serial = e.serial;
          channel = e.channel;
          interest = e.interest;
        }) else before) ≡ Some key
        → Stands i (e ∷ keys) key ⊎ (option_map (key_with i) before ≡ Some key)
    by_test true same found =
        let is_it : record e { index = i } ≡ key = cc found in
        let this : e ≡ key = ap (λ k. record e { index = k }) (eqb-true e.index i same) ∙ is_it in
        inl (
          subst (Contains (e ∷ keys)) this (Contains-get_or (e ∷ keys) 0 e (omega arith)),
          sym (ap (λ (x : LookedKey). x.index) is_it),
        )
    by_test false other found = inr found

-- the key with this index that the list has stands in it
found_key : (i : ℕ) (keys : List LookedKey) (key : LookedKey) → key_at i keys ≡ Some key → Stands i keys key
found_key i keys key is = elim (found_from i keys None key is) [
  | inl stands ↦ stands
  | inr none ↦ absurd (cc none)
]

-- bits that were told of a key and that it is interested in
told_one : (asked : List LookedKey) (pairs : List (ℕ × ℕ)) (i bits : ℕ) (key : LookedKey) → Contains pairs (i, bits)
    → key_at i asked ≡ Some key → IsPart (bit_and bits key.interest) (told_of_channel asked pairs key.channel)
told_one asked pairs i bits key there is =
    let found = found_key i asked key is in
    let of_key : IsPart bits (told_at pairs key.index) = subst (λ n. IsPart bits (told_at pairs n)) (sym found.1)
    (told_in_pairs pairs i bits there) in
    part_met bits key.interest (told_of_channel asked pairs key.channel)
    (part_then bits (told_at pairs key.index) (told_of_channel asked pairs key.channel) of_key
    (told_in_channel asked pairs key found.0))

pub one_more : (asked : List LookedKey) (pairs : List (ℕ × ℕ)) (i bits : ℕ) (key : LookedKey)
    (told more : List (ChanNo × ℕ)) → more ≡ told ++ (key.channel, bit_and bits key.interest) ∷ []
    → Contains pairs (i, bits) → key_at i asked ≡ Some key → AreReady (told_of_channel asked pairs) told
    → AreReady (told_of_channel asked pairs) more
one_more asked pairs i bits key told more is there asks before =
    let P : ChanNo × ℕ → Type 0 = λ x. IsTrue (is_within x.1 (told_of_channel asked pairs x.0)) in
    let part = told_one asked pairs i bits key there asks in
    subst (All P) (sym is) (All-append P told ((key.channel, bit_and bits key.interest) ∷ []) before
    (all-one P (key.channel, bit_and bits key.interest)
    (eq-eqb (bit_and (bit_and bits key.interest) (told_of_channel asked pairs key.channel))
    (bit_and bits key.interest)
    part)))

-- ---- all that was told

-- what one pair more tells
pub told_more : (keys : List LookedKey) (pairs : List (ℕ × ℕ)) (n : ℕ) (pair : ℕ × ℕ) (key : Option LookedKey)
    → n < length pairs → pair ≡ slice_index_or pairs n pair → key ≡ key_at pair.0 keys
    → told_of_keys keys (take (n + 1) pairs) ≡ told_of_keys keys (take n pairs) ++ told_of_key key pair.1
told_more keys pairs n pair key within is found =
    let f : ℕ × ℕ → List (ChanNo × ℕ) = λ one. told_of_key (key_at one.0 keys) one.1 in
    ap (λ m. flat_map f (take m pairs)) (add-one n)
    ∙ (ap (flat_map f) (take-suc pairs n pair within)
    ∙ (flat_map-append f (take n pairs) (slice_index_or pairs n pair ∷ [])
    ∙ ap (λ xs. flat_map f (take n pairs) ++ xs)
    (append-nil (f (slice_index_or pairs n pair))
    ∙ (ap f (sym is) ∙ ap (λ (k : Option LookedKey). told_of_key k pair.1) (sym found)))))
