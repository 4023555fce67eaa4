-- Going over the set bits of a word in rising order: the indexes that it shows.
use Rattle.std.proofs.Common.{◌≡◌, ℕ, zero, suc, ◌+◌, ◌-◌, ◌*◌, ◌/◌, ◌%◌, ◌^◌, ◌<◌, ◌≤◌, Bool, true, false}
use Rattle.std.proofs.Common.{if◌then◌else◌, List, [], ◌∷◌, ◌++◌, length, drop, refl, ap, sym, ◌∙◌, append_assoc}
use Rattle.std.proofs.Common.{arith, add-one, eq-eqb, ne_eqb, bit_and}
use Rattle.std.specs.Prelude.{nat_lt}
use Rattle.std.specs.Int.{bit_at, trailing_zeros, w64}
use Rattle.std.proofs.lemmas.Bool.{ltb-true, ltb-false}
use Rattle.std.proofs.Math.Seq.{drop-append_seam}
use Rattle.std.proofs.lemmas.List.{append-nil}
use Rattle.std.proofs.lemmas.Nat.{and_le_l}
use Rattle.std.proofs.lemmas.Nat.Bits.{bit_at-zero, bit_at-trailing_zeros}
use Rattle.std.proofs.lemmas.Nat.Bits.{bit_at_and, bit_at-suc, bit_at_lowest}
use Rattle.nio_steps.specs.KeyCalls.{has_bit}
use Rattle.nio_steps.specs.Looking.{shown}

-- ---- the list

-- a bit that isn't set adds nothing
clear_adds_none : (word j n : ℕ) → has_bit word n ≡ false → shown word j (suc n) ≡ shown word j n
unfolding shown
clear_adds_none word j n clear =
    ap (λ (b : Bool). if b then shown word j n ++ (64 * j + n) ∷ [] else shown word j n) clear

-- nor do some
all_clear_add_none : (word j from n : ℕ) → ((i : ℕ) → from ≤ i → i < from + n → has_bit word i ≡ false)
    → shown word j (from + n) ≡ shown word j from
all_clear_add_none word j from zero clear = ap (shown word j) (omega arith)
all_clear_add_none word j from (suc n) clear =
    let more : from + suc n ≡ suc (from + n) = omega arith in
    ap (shown word j) more
    ∙ (clear_adds_none word j (from + n) (clear (from + n) (omega arith) (omega arith))
    ∙ all_clear_add_none word j from n (λ i above below. clear i above (omega arith)))

-- a bit that is set adds its index
set_adds_one : (word j n : ℕ) → has_bit word n ≡ true
    → shown word j (n + 1) ≡ shown word j n ++ (64 * j + n) ∷ []
unfolding shown
set_adds_one word j n set =
    ap (shown word j) (add-one n)
    ∙ ap (λ (b : Bool). if b then shown word j n ++ (64 * j + n) ∷ [] else shown word j n) set

none_between : (word j from to : ℕ) → from ≤ to → ((i : ℕ) → from ≤ i → i < to → has_bit word i ≡ false)
    → shown word j to ≡ shown word j from
none_between word j from to rise clear =
    let there : from + (to - from) ≡ to = omega arith in
    sym (ap (shown word j) there)
    ∙ all_clear_add_none word j from (to - from) (λ i above below. clear i above (omega arith))

-- one index more adds what it adds to the end
one_more : (word j n : ℕ) → (last : List ℕ) × (shown word j (suc n) ≡ shown word j n ++ last)
unfolding shown
one_more word j n = by_test (has_bit word n)
  where
    by_test : (b : Bool) → (last : List ℕ)
        × ((if b then shown word j n ++ (64 * j + n) ∷ [] else shown word j n) ≡ shown word j n ++ last)
    by_test true = ((64 * j + n) ∷ [], refl)
    by_test false = ([], sym (append-nil (shown word j n)))

-- so do some
goes_on : (word j n m : ℕ) → (later : List ℕ) × (shown word j (n + m) ≡ shown word j n ++ later)
goes_on word j n zero = ([], ap (shown word j) (omega arith) ∙ sym (append-nil (shown word j n)))
goes_on word j n (suc m) =
    let rest = goes_on word j n m in
    let more : n + suc m ≡ suc (n + m) = omega arith in
    let last = one_more word j (n + m) in (
      rest.0 ++ last.0,
      ap (shown word j) more
          ∙ (last.1
          ∙ (ap (λ xs. xs ++ last.0) rest.1 ∙ append_assoc (shown word j n) rest.0 last.0)),
    )

-- ---- the word

-- `rest` has the bits of the word from `passed` on
pub record AreLeft (word passed rest : ℕ) : Type 0 where
  pub inside : passed ≤ 64
  pub gone : (i : ℕ) → i < passed → bit_at rest i ≡ 0
  pub left : (i : ℕ) → passed ≤ i → i < 64 → bit_at rest i ≡ bit_at word i

pub all_left : (word : ℕ) → AreLeft word 0 word
all_left word = record {
  inside = omega arith;
  gone = λ i below. absurd (omega (arith, below));
  left = λ i above below. refl;
}

-- a bit of the word isn't set where it isn't left
pub clear_at : (word passed rest i : ℕ) → AreLeft word passed rest → passed ≤ i → i < 64 → bit_at rest i ≡ 0
    → has_bit word i ≡ false
clear_at word passed rest i so_far above below none =
    let is : bit_at rest i ≡ bit_at word i = so_far.left i above below in
    ne_eqb (bit_at word i) 1 (λ set. omega (arith, none, is, set))

-- the next bit of the word from `passed` on
pub record IsNext (word passed next : ℕ) : Type 0 where
  pub after : passed ≤ next
  pub inside : next < 64
  pub set : has_bit word next ≡ true
  pub before : (i : ℕ) → passed ≤ i → i < next → has_bit word i ≡ false

not_passed : (word passed rest i : ℕ) → AreLeft word passed rest → bit_at rest i ≡ 1 → passed ≤ i
not_passed word passed rest i so_far here = by_test (nat_lt i passed) refl
  where
    by_test : (x : Bool) → nat_lt i passed ≡ x → passed ≤ i
    by_test true is =
        let gone : bit_at rest i ≡ 0 = so_far.gone i (ltb-true i passed is) in absurd (omega (arith, here, gone))
    by_test false is = ltb-false i passed is

lowest_left : (word passed rest t : ℕ) → AreLeft word passed rest → t < 64 → bit_at rest t ≡ 1
    → ((i : ℕ) → i < t → bit_at rest i ≡ 0) → IsNext word passed t
lowest_left word passed rest t so_far inside here before =
    let after : passed ≤ t = not_passed word passed rest t so_far here in
    let set : bit_at rest t ≡ bit_at word t = so_far.left t after inside in
    record {
      after = after;
      inside = inside;
      set = eq-eqb (bit_at word t) 1 (omega (arith, here, set));
      before = λ i above below. clear_at word passed rest i so_far above (omega arith) (before i below);
    }

-- n - 1 doesn't have the lowest bit that n has, and has the same bits above it
one_less : (t n : ℕ) → bit_at n t ≡ 1 → ((i : ℕ) → i < t → bit_at n i ≡ 0)
    → (bit_at (n - 1) t ≡ 0) × ((i : ℕ) → t < i → bit_at (n - 1) i ≡ bit_at n i)
one_less zero n here before =
    let odd : n % 2 ≡ 1 = sym (bit_at_lowest n) ∙ here in
    let even : (n - 1) % 2 ≡ 0 = omega arith in
    let half : (n - 1) / 2 ≡ n / 2 = omega arith in
    (bit_at_lowest (n - 1) ∙ even, above half)
  where
    above : (n - 1) / 2 ≡ n / 2 → (i : ℕ) → 0 < i → bit_at (n - 1) i ≡ bit_at n i
    above half zero below = absurd (omega (arith, below))
    above half (suc i) below = bit_at-suc (n - 1) i ∙ (ap (λ x. bit_at x i) half ∙ sym (bit_at-suc n i))
one_less (suc t) n here before =
    let even : n % 2 ≡ 0 = sym (bit_at_lowest n) ∙ before 0 (omega arith) in
    let half : (n - 1) / 2 ≡ n / 2 - 1 = omega arith in
    let rest = one_less t (n / 2) (sym (bit_at-suc n t) ∙ here)
    (λ i below. sym (bit_at-suc n i) ∙ before (suc i) (omega arith)) in
    (bit_at-suc (n - 1) t ∙ (ap (λ x. bit_at x t) half ∙ rest.0), above half rest.1)
  where
    above : (n - 1) / 2 ≡ n / 2 - 1 → ((i : ℕ) → t < i → bit_at (n / 2 - 1) i ≡ bit_at (n / 2) i) → (i : ℕ)
        → suc t < i → bit_at (n - 1) i ≡ bit_at n i
    above half rest zero below = absurd (omega (arith, below))
    above half rest (suc i) below =
        bit_at-suc (n - 1) i ∙ (ap (λ x. bit_at x i) half ∙ (rest i (omega arith) ∙ sym (bit_at-suc n i)))

-- `n & (n - 1)` has the bits of n without the lowest
pub record IsWithoutLowest (n t m : ℕ) : Type 0 where
  pub none : (i : ℕ) → i < t + 1 → bit_at m i ≡ 0
  pub others : (i : ℕ) → t + 1 ≤ i → bit_at m i ≡ bit_at n i
  pub fewer : m < n

without_lowest : (n t : ℕ) → bit_at n t ≡ 1 → ((i : ℕ) → i < t → bit_at n i ≡ 0)
    → IsWithoutLowest n t (bit_and n (n - 1))
without_lowest n t here before =
    let less = one_less t n here before in
    let at_t : bit_at (bit_and n (n - 1)) t ≡ 0 = omega (arith, bit_at_and n (n - 1) t, less.0) in
    record {
      none = λ i below. by_test i below (nat_lt i t) refl at_t;
      others = λ i above.
          let both = bit_at_and n (n - 1) i in
          let same = less.1 i (omega arith) in
          omega (arith, both, same);
      fewer =
          let most : bit_and n (n - 1) ≤ n = and_le_l n (n - 1) in
          let other : (bit_and n (n - 1) ≡ n → ⊥) = λ same. omega (arith, here, at_t, ap (λ x. bit_at x t) same) in
          omega (arith, most, other);
    }
  where
    by_test : (i : ℕ) → i < t + 1 → (x : Bool) → nat_lt i t ≡ x → bit_at (bit_and n (n - 1)) t ≡ 0
        → bit_at (bit_and n (n - 1)) i ≡ 0
    by_test i below true is at_t =
        let none : bit_at n i ≡ 0 = before i (ltb-true i t is) in
        let both = bit_at_and n (n - 1) i in
        omega (arith, both, none)
    by_test i below false is at_t =
        let above : t ≤ i = ltb-false i t is in
        let same : i ≡ t = omega arith in
        ap (bit_at (bit_and n (n - 1))) same ∙ at_t

-- what stands after a step to the lowest bit that is left
pub record NextFound (word passed rest : ℕ) : Type 0 where
  pub next : IsNext word passed (trailing_zeros w64 rest)
  pub left : AreLeft word (trailing_zeros w64 rest + 1) (bit_and rest (rest - 1))
  pub fewer : bit_and rest (rest - 1) < rest

pub found_next : (word passed rest : ℕ) → rest < 2 ^ 64 → (rest ≡ 0 → ⊥) → AreLeft word passed rest
    → NextFound word passed rest
found_next word passed rest fits some so_far =
    let t : ℕ = trailing_zeros w64 rest in
    let lowest = bit_at-trailing_zeros w64 rest (omega arith) fits in
    let next : IsNext word passed t = lowest_left word passed rest t so_far lowest.0 lowest.1 lowest.2 in
    let without : IsWithoutLowest rest t (bit_and rest (rest - 1)) = without_lowest rest t lowest.1 lowest.2 in
    record {
      next = next;
      left = record {
        inside = omega (arith, next.inside);
        gone = without.none;
        left = λ i above below. without.others i above ∙ so_far.left i (omega (arith, next.after)) below;
      };
      fewer = without.fewer;
    }

-- ---- what is left of the list

-- the indexes from `passed` on
abbrev pub left_from : ℕ → ℕ → ℕ → List ℕ
left_from word j passed = drop (length (shown word j passed)) (shown word j 64)

left_is : (word j passed : ℕ) (later : List ℕ) → shown word j 64 ≡ shown word j passed ++ later
    → left_from word j passed ≡ later
left_is word j passed later parts =
    ap (drop (length (shown word j passed))) parts ∙ drop-append_seam (shown word j passed) later

pub left_first : (word j : ℕ) → left_from word j 0 ≡ shown word j 64
unfolding shown
left_first word j = left_is word j 0 (shown word j 64) refl

pub left_next : (word j passed next : ℕ) → IsNext word passed next
    → left_from word j passed ≡ (64 * j + next) ∷ left_from word j (next + 1)
left_next word j passed next is =
    let more = goes_on word j (next + 1) (64 - (next + 1)) in
    let all : 64 ≡ next + 1 + (64 - (next + 1)) = omega (arith, is.inside) in
    let parts : shown word j 64 ≡ shown word j (next + 1) ++ more.0 = ap (shown word j) all ∙ more.1 in
    let one : shown word j (next + 1) ≡ shown word j passed ++ (64 * j + next) ∷ []
    = set_adds_one word j next is.set
    ∙ ap (λ xs. xs ++ (64 * j + next) ∷ []) (none_between word j passed next is.after is.before) in
    left_is word j passed ((64 * j + next) ∷ more.0)
    (parts
    ∙ (ap (λ xs. xs ++ more.0) one
    ∙ append_assoc (shown word j passed) ((64 * j + next) ∷ []) more.0))
    ∙ ap (λ xs. (64 * j + next) ∷ xs) (sym (left_is word j (next + 1) more.0 parts))

pub left_none : (word j passed rest : ℕ) → AreLeft word passed rest → rest ≡ 0 → left_from word j passed ≡ []
left_none word j passed rest so_far none =
    left_is word j passed []
    (none_between word j passed 64 so_far.inside
    (λ i above below. clear_at word passed rest i so_far above below (ap (λ n. bit_at n i) none ∙ bit_at-zero i))
    ∙ sym (append-nil (shown word j passed)))
