-- What was told, while it is put and while the keys are marked by it.
use Rattle.std.proofs.Common.{◌≡◌, ℕ, zero, suc, ◌+◌, ◌-◌, ◌*◌, ◌/◌, ◌%◌, ◌^◌, ◌<◌, ◌≤◌, ◌==◌, Bool, true, false, List, [], ◌∷◌, ◌++◌}
use Rattle.std.proofs.Common.{length, get_or, set, if◌then◌else◌, refl, ap, sym, ◌∙◌, subst, arith, eqb-true, ne_eqb, eq-eqb}
use Rattle.std.specs.Prelude.{bit_or, nat_lt}
use Rattle.std.proofs.lemmas.Bool.{eqb-false, ltb-true, ltb-false}
use Rattle.std.specs.Int.{bit_at, w64}
use Rattle.std.proofs.lemmas.List.{get_or_default, get_or-set_same, get_or-set_other, length-set}
use Rattle.std.proofs.lemmas.Nat.Bits.{bit_at-zero, bit_at_set_same, bit_at_set_other}
use Rattle.nio_steps.proofs.Relisted.{strictly}
use Rattle.nio_steps.specs.KeyCalls.{has_bit}
use Rattle.std.proofs.lemmas.List.Sums.{fold-append}
use Rattle.nio_history.proofs.Soundness.{both_ways}
use Rattle.nio_steps.specs.SelectCalls.{told_at}
use Rattle.nio_select.specs.ToldSlots.{IsAsLong, IsNoted, IsPutTo, IsTakenFrom, IsTold, IsUntold, told_of, is_noted}
use Rattle.nio_select.specs.declared.noted.Noted.{Noted}

-- ---- telling

-- what pairs tell, and one pair more
told_at-more : (pairs : List (ℕ × ℕ)) (pair : ℕ × ℕ) (i : ℕ)
    → told_at (pairs ++ pair ∷ []) i ≡ (if pair.0 == i then bit_or (told_at pairs i) pair.1 else told_at pairs i)
told_at-more pairs pair i = fold-append (λ bits p. if p.0 == i then bit_or bits p.1 else bits) 0 pairs (pair ∷ [])

pub told_first : (bound : ℕ) (now : Noted) → IsUntold now → IsTold [] bound now
told_first bound now none = record {
  below = λ i below. none.told i;
  above = λ i above. none.told i;
  noted = λ i clear. none.told i;
}

-- the pair is put to its index
pub told_put : (pairs : List (ℕ × ℕ)) (i ops bound : ℕ) (old new : Noted) → i < bound → IsTold pairs bound old
    → IsPutTo i ops old new → IsTold (pairs ++ (i, ops) ∷ []) bound new
told_put pairs i ops bound old new inside told put = record {
  below = λ k below. by_place k (i == k) refl below;
  above = λ k above. put.others k (λ same. omega (arith, inside, above, same)) ∙ told.above k above;
  noted = λ k clear. by_noted k (i == k) refl clear;
}
  where
    by_place : (k : ℕ) (b : Bool) → (i == k) ≡ b → k < bound → told_of new k ≡ told_at (pairs ++ (i, ops) ∷ []) k
    by_place k true here below =
        let same : i ≡ k = eqb-true i k here in
        subst (λ (m : ℕ). told_of new m ≡ bit_or (told_at pairs m) ops) same
        (put.here ∙ ap (λ (bits : ℕ). bit_or bits ops) (told.below i inside))
        ∙ sym (told_at-more pairs (i, ops) k ∙ ap (λ (b : Bool). if b then bit_or (told_at pairs k) ops else told_at pairs k) here)
    by_place k false other below =
        put.others k (λ same. eqb-false i k other (sym same))
        ∙ (told.below k below
        ∙ sym (told_at-more pairs (i, ops) k ∙ ap (λ (b : Bool). if b then bit_or (told_at pairs k) ops else told_at pairs k) other))

    by_noted : (k : ℕ) (b : Bool) → (i == k) ≡ b → is_noted new k ≡ false → told_of new k ≡ 0
    by_noted k true here clear =
        absurd (both_ways (is_noted new k) (subst (λ (m : ℕ). is_noted new m ≡ true) (eqb-true i k here) put.noted) clear)
    by_noted k false other clear =
        put.others k (λ same. eqb-false i k other (sym same)) ∙ told.noted k (unnoted_before k (is_noted old k) refl clear)
      where
        unnoted_before : (k : ℕ) (b : Bool) → is_noted old k ≡ b → is_noted new k ≡ false → is_noted old k ≡ false
        unnoted_before k true is clear' = absurd (both_ways (is_noted new k) (put.notes k is) clear')
        unnoted_before k false is clear' = is

-- a pair of an index above the bound tells of none
pub told_past : (pairs : List (ℕ × ℕ)) (i ops bound : ℕ) (now : Noted) → bound ≤ i → IsTold pairs bound now
    → IsTold (pairs ++ (i, ops) ∷ []) bound now
told_past pairs i ops bound now past told = record {
  below = λ k below. told.below k below
      ∙ sym (told_at-more pairs (i, ops) k
      ∙ ap (λ (b : Bool). if b then bit_or (told_at pairs k) ops else told_at pairs k)
      (ne_eqb i k (λ same. omega (arith, past, below, same))));
  above = told.above;
  noted = told.noted;
}

-- ---- marking

-- Keys were marked up to this index, in the words up to j: nothing is told any more of the indexes before it, and the
-- rest stands as it was.
pub record IsMarkedTo (upto j : ℕ) (old new : Noted) : Type 0 where
  pub room : IsAsLong old new
  pub before : (i : ℕ) → i < upto → told_of new i ≡ 0
  pub after : (i : ℕ) → upto ≤ i → told_of new i ≡ told_of old i
  pub words_before : (k : ℕ) → k < j → get_or new.words.items k 0 ≡ 0
  pub words_after : (k : ℕ) → j ≤ k → get_or new.words.items k 0 ≡ get_or old.words.items k 0

pub marked_first : (noted : Noted) → IsMarkedTo 0 0 noted noted
marked_first noted = record {
  room = record { told = refl; words = refl };
  before = λ i low. absurd (omega (arith, low));
  after = λ i high. refl;
  words_before = λ k low. absurd (omega (arith, low));
  words_after = λ k high. refl;
}

-- up to a later index, where of those between nothing was told
pub marked_past : (upto later j : ℕ) (old new : Noted) → upto ≤ later
    → ((i : ℕ) → upto ≤ i → i < later → told_of old i ≡ 0) → IsMarkedTo upto j old new → IsMarkedTo later j old new
marked_past upto later j old new on none marked = record {
  room = marked.room;
  before = λ i low. by_place i (nat_lt i upto) refl low;
  after = λ i high. marked.after i (omega (arith, on, high));
  words_before = marked.words_before;
  words_after = marked.words_after;
}
  where
    by_place : (i : ℕ) (b : Bool) → nat_lt i upto ≡ b → i < later → told_of new i ≡ 0
    by_place i true is low = marked.before i (ltb-true i upto is)
    by_place i false is low =
        let high : upto ≤ i = ltb-false i upto is in marked.after i high ∙ none i high low

-- the index is taken
pub marked_taken : (i j : ℕ) (old middle new : Noted) → IsMarkedTo i j old middle → IsTakenFrom i middle new
    → IsMarkedTo (i + 1) j old new
marked_taken i j old middle new marked taken = record {
  room = record { told = taken.room.told ∙ marked.room.told; words = taken.room.words ∙ marked.room.words };
  before = λ k low. by_place k (nat_lt k i) refl low;
  after = λ k high. taken.others k (λ same. omega (arith, high, same)) ∙ marked.after k (omega (arith, high));
  words_before = λ k low. ap (λ (xs : List ℕ). get_or xs k 0) taken.words ∙ marked.words_before k low;
  words_after = λ k high. ap (λ (xs : List ℕ). get_or xs k 0) taken.words ∙ marked.words_after k high;
}
  where
    by_place : (k : ℕ) (b : Bool) → nat_lt k i ≡ b → k < i + 1 → told_of new k ≡ 0
    by_place k true is low =
        let less = ltb-true k i is in taken.others k (λ same. omega (arith, less, same)) ∙ marked.before k less
    by_place k false is low =
        let same : i ≡ k = omega (arith, low, ltb-false k i is) in
        subst (λ (m : ℕ). told_of new m ≡ 0) same taken.none

-- ---- the words

past_end : (xs : List ℕ) (i : ℕ) → length xs ≤ i → get_or xs i zero ≡ zero
past_end [] i past = refl
past_end (x ∷ xs) zero past = absurd (omega (arith, past))
past_end (x ∷ xs) (suc i) past = past_end xs i (omega (arith, past))

-- a word that was read, and stands as it was
pub from_word : (now old : List ℕ) (j word : ℕ) → word ≡ get_or now j word → get_or now j 0 ≡ get_or old j 0
    → j < length now → word ≡ get_or old j 0
from_word now old j word is same within = is ∙ (get_or_default now j word 0 within ∙ same)

-- nothing was told of indexes whose bits are clear
pub none_noted : (noted : Noted) (j passed to : ℕ) → IsNoted noted → to ≤ 64
    → ((b : ℕ) → passed ≤ b → b < to → has_bit (get_or noted.words.items j 0) b ≡ false)
    → (k : ℕ) → 64 * j + passed ≤ k → k < 64 * j + to → told_of noted k ≡ 0
none_noted noted j passed to all low clear k above below =
    let word : j ≡ k / 64 = omega (arith, above, below, low) in
    let bit : k - 64 * j ≡ k % 64 = omega (arith, above, below, low) in
    all k (subst (λ (n : ℕ). has_bit (get_or noted.words.items n 0) (k % 64) ≡ false) word
    (subst (λ (n : ℕ). has_bit (get_or noted.words.items j 0) n ≡ false) bit
    (clear (k - 64 * j) (omega (arith, above)) (omega (arith, above, below)))))

-- the word is cleared
pub marked_word : (upto j : ℕ) (old middle new : Noted) → j < length middle.words.items
    → new.told.items ≡ middle.told.items → new.words.items ≡ set middle.words.items j 0 → IsMarkedTo upto j old middle
    → IsMarkedTo upto (j + 1) old new
marked_word upto j old middle new within told words marked = record {
  room = record {
    told = ap length told ∙ marked.room.told;
    words = ap length words ∙ (length-set middle.words.items j 0 ∙ marked.room.words);
  };
  before = λ i low. ap (λ (xs : List ℕ). get_or xs i 0) told ∙ marked.before i low;
  after = λ i high. ap (λ (xs : List ℕ). get_or xs i 0) told ∙ marked.after i high;
  words_before = λ k low. by_place k (k == j) refl low;
  words_after = λ k high. ap (λ (xs : List ℕ). get_or xs k 0) words
      ∙ (get_or-set_other middle.words.items j k 0 0 (λ same. omega (arith, high, same)) ∙ marked.words_after k (omega (arith, high)));
}
  where
    by_place : (k : ℕ) (b : Bool) → (k == j) ≡ b → k < j + 1 → get_or new.words.items k 0 ≡ 0
    by_place k true here low =
        ap (λ (xs : List ℕ). get_or xs k 0) words
        ∙ (ap (λ (n : ℕ). get_or (set middle.words.items j 0) n 0) (eqb-true k j here)
        ∙ get_or-set_same middle.words.items j 0 0 within)
    by_place k false other low =
        ap (λ (xs : List ℕ). get_or xs k 0) words
        ∙ (get_or-set_other middle.words.items j k 0 0 (eqb-false k j other)
        ∙ marked.words_before k (strictly k j (omega (arith, low)) (λ same. eqb-false k j other (sym same))))

-- all is cleared
pub marked_all : (n : ℕ) (old new : Noted) → IsNoted old → length old.words.items ≤ n → IsMarkedTo (64 * n) n old new
    → IsUntold new
marked_all n old new all few marked = record {
  told = λ i. by_place i (nat_lt i (64 * n)) refl;
  words = λ k. by_word k (nat_lt k n) refl;
}
  where
    by_place : (i : ℕ) (b : Bool) → nat_lt i (64 * n) ≡ b → told_of new i ≡ 0
    by_place i true is = marked.before i (ltb-true i (64 * n) is)
    by_place i false is =
        let high : 64 * n ≤ i = ltb-false i (64 * n) is in
        let past : get_or old.words.items (i / 64) 0 ≡ 0 = past_end old.words.items (i / 64) (omega (arith, few, high)) in
        marked.after i high
        ∙ all i (ap (λ (word : ℕ). has_bit word (i % 64)) past ∙ ne_eqb (bit_at 0 (i % 64)) 1 (λ one. omega (arith, one, bit_at-zero (i % 64))))

    by_word : (k : ℕ) (b : Bool) → nat_lt k n ≡ b → get_or new.words.items k 0 ≡ 0
    by_word k true is = marked.words_before k (ltb-true k n is)
    by_word k false is =
        let high : n ≤ k = ltb-false k n is in
        marked.words_after k high ∙ past_end old.words.items k (omega (arith, few, high))

-- ---- one index is told of

pub put_to : (i ops united word : ℕ) (old new : Noted) → i < length old.told.items → i / 64 < length old.words.items
    → new.told.items ≡ set old.told.items i united → united ≡ bit_or (told_of old i) ops
    → new.words.items ≡ set old.words.items (i / 64) word
    → word ≡ bit_or (get_or old.words.items (i / 64) 0) (1 * 2 ^ (i % 64) % 2 ^ 64) → IsPutTo i ops old new
put_to i ops united word old new inside within told_is united_is words_is word_is = record {
  room = record {
    told = ap length told_is ∙ length-set old.told.items i united;
    words = ap length words_is ∙ length-set old.words.items (i / 64) word;
  };
  here = ap (λ (xs : List ℕ). get_or xs i 0) told_is ∙ (get_or-set_same old.told.items i united 0 inside ∙ united_is);
  others = λ k other. ap (λ (xs : List ℕ). get_or xs k 0) told_is ∙ get_or-set_other old.told.items i k united 0 other;
  noted = ap (λ (n : ℕ). has_bit n (i % 64)) here ∙ eq-eqb (bit_at word (i % 64)) 1 set_bit;
  notes = λ k was. by_word k (k / 64 == i / 64) refl was;
}
  where
    here : get_or new.words.items (i / 64) 0 ≡ word
    here = ap (λ (xs : List ℕ). get_or xs (i / 64) 0) words_is ∙ get_or-set_same old.words.items (i / 64) word 0 within

    set_bit : bit_at word (i % 64) ≡ 1
    set_bit = ap (λ (n : ℕ). bit_at n (i % 64)) word_is
        ∙ bit_at_set_same w64 (get_or old.words.items (i / 64) 0) (i % 64) (omega arith)

    by_bit : (k : ℕ) (b : Bool) → (k % 64 == i % 64) ≡ b → has_bit (get_or old.words.items (i / 64) 0) (k % 64) ≡ true
        → has_bit word (k % 64) ≡ true
    by_bit k true same was =
        ap (has_bit word) (eqb-true (k % 64) (i % 64) same) ∙ eq-eqb (bit_at word (i % 64)) 1 set_bit
    by_bit k false other was =
        ap (λ (n : ℕ). n == 1) (ap (λ (n : ℕ). bit_at n (k % 64)) word_is
        ∙ bit_at_set_other w64 (get_or old.words.items (i / 64) 0) (i % 64) (omega arith) (k % 64)
        (eqb-false (k % 64) (i % 64) other)) ∙ was

    by_word : (k : ℕ) (b : Bool) → (k / 64 == i / 64) ≡ b → is_noted old k ≡ true → is_noted new k ≡ true
    by_word k true same was =
        let at : k / 64 ≡ i / 64 = eqb-true (k / 64) (i / 64) same in
        ap (λ (n : ℕ). has_bit (get_or new.words.items n 0) (k % 64)) at
        ∙ (ap (λ (n : ℕ). has_bit n (k % 64)) here
        ∙ by_bit k (k % 64 == i % 64) refl
        (subst (λ (n : ℕ). has_bit (get_or old.words.items n 0) (k % 64) ≡ true) at was))
    by_word k false other was =
        ap (λ (n : ℕ). has_bit n (k % 64))
        (ap (λ (xs : List ℕ). get_or xs (k / 64) 0) words_is
        ∙ get_or-set_other old.words.items (i / 64) (k / 64) word 0 (eqb-false (k / 64) (i / 64) other)) ∙ was
