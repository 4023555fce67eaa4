-- The looks at which indexes are touched by a caller that has the list, which takes their bits, performed.
use Rattle.std.proofs.Common.{◌≡◌, ℕ, zero, suc, ◌+◌, ◌-◌, ◌*◌, ◌/◌, ◌<◌, ◌≤◌, ◌==◌, nat_lt, Bool, true, false, cond, ◌&&◌}
use Rattle.std.proofs.Common.{if◌then◌else◌, List, [], ◌∷◌, ◌++◌, refl, ap, sym, ◌∙◌, append_assoc, eqb-true, eq-eqb, arith}
use Rattle.std.proofs.lemmas.Bool.{and_right, cond-false, ne_eqb, ltb-true, ltb-false}
use Rattle.std.proofs.lemmas.List.{append-nil}
use Rattle.std.proofs.lemmas.Nat.Bits.{bit_at-zero}
use Rattle.nio_base.specs.declared.numbers.CallerNo.{CallerNo}
use Rattle.nio_base.specs.declared.numbers.SelNo.{SelNo}
use Rattle.nio_history.specs.Answers.{bits_below, touched_word}
use Rattle.nio_history.specs.State.{State, with_none_touched}
use Rattle.nio_steps.proofs.PerformLaws.{perform_sweep, perform_over}
use Rattle.nio_steps.specs.Looking.{shown, list_over, list_taken, list_word}
use Rattle.nio_steps.specs.Perform.{Performed, perform}
use Rattle.nio_steps.specs.Plan.{reply}
use Rattle.nio_steps.specs.Sweeps.{sweep_to, sweep_over}
use Rattle.nio_steps.specs.declared.looked.LookedKey.{LookedKey}
use Rattle.nio_steps.specs.KeyCalls.{has_bit}
use Rattle.nio_serial.proofs.FreeWords.{bit-shown, bits_below-same}
use Rattle.nio_serial.proofs.TouchedWords.{touched_in}

-- what is touched when the bits of word n are taken, and of the first n words
abbrev without_word : SelNo → ℕ → (ℕ → ℕ → Bool) → ℕ → ℕ → Bool
without_word s n touched = λ t i. if (t == s.0) && (i / 64 == n) then false else touched t i

abbrev pub taken : State → SelNo → ℕ → ℕ → ℕ → Bool
taken st s zero = st.touched
taken st s (suc n) = cond (touched_word st s.0 n == 0) (taken st s n) (without_word s n (taken st s n))

-- a later word is as it was
taken-later : (st : State) (s : SelNo) (n j b : ℕ) → n ≤ j → b < 64
    → taken st s n s.0 (64 * j + b) ≡ st.touched s.0 (64 * j + b)
taken-later st s zero j b low small = refl
taken-later st s (suc n) j b low small =
    by_word (touched_word st s.0 n == 0) (taken-later st s n j b (omega arith) small)
  where
    elsewhere : ((64 * j + b) / 64 == n) ≡ false
    elsewhere = ne_eqb ((64 * j + b) / 64) n (λ same. omega arith)

    by_word : (x : Bool) → taken st s n s.0 (64 * j + b) ≡ st.touched s.0 (64 * j + b)
        → cond x (taken st s n) (without_word s n (taken st s n)) s.0 (64 * j + b) ≡ st.touched s.0 (64 * j + b)
    by_word true rest = rest
    by_word false rest =
        cond-false ((s.0 == s.0) && ((64 * j + b) / 64 == n)) false (taken st s n s.0 (64 * j + b))
        (and_right (s.0 == s.0) ((64 * j + b) / 64 == n) elsewhere) ∙ rest

-- what is touched on another selector is as it was
pub taken-elsewhere : (st : State) (s : SelNo) (n t i : ℕ) → (t == s.0) ≡ false → taken st s n t i ≡ st.touched t i
taken-elsewhere st s zero t i other = refl
taken-elsewhere st s (suc n) t i other = by_word (touched_word st s.0 n == 0) (taken-elsewhere st s n t i other)
  where
    by_word : (x : Bool) → taken st s n t i ≡ st.touched t i
        → cond x (taken st s n) (without_word s n (taken st s n)) t i ≡ st.touched t i
    by_word true rest = rest
    by_word false rest = ap (λ b. cond (b && (i / 64 == n)) false (taken st s n t i)) other ∙ rest

-- nothing is touched in the words that were taken
pub taken-clear : (st : State) (s : SelNo) (n i : ℕ) → i < 64 * n → taken st s n s.0 i ≡ false
taken-clear st s zero i low = absurd (omega (arith, low))
taken-clear st s (suc n) i low = by_place (nat_lt i (64 * n)) refl (taken-clear st s n i)
  where
    either : (b x : Bool) → x ≡ false → cond b false x ≡ false
    either true x is = refl
    either false x is = is

    by_word : (x : Bool) → taken st s n s.0 i ≡ false
        → cond x (taken st s n) (without_word s n (taken st s n)) s.0 i ≡ false
    by_word true rest = rest
    by_word false rest = either ((s.0 == s.0) && (i / 64 == n)) (taken st s n s.0 i) rest

    -- in the last word
    in_word : 64 * n ≤ i → (x : Bool) → (touched_word st s.0 n == 0) ≡ x
        → cond x (taken st s n) (without_word s n (taken st s n)) s.0 i ≡ false
    in_word high true none =
        let b : ℕ = i - 64 * n in
        let is : i ≡ 64 * n + b = omega arith in
        let small : b < 64 = omega arith in
        ap (taken st s n s.0) is
        ∙ (taken-later st s n n b (omega arith) small
        ∙ (sym (bit-shown (λ k. st.touched s.0 (64 * n + k)) b small)
        ∙ (ap (λ (w : ℕ). has_bit w b) (eqb-true (touched_word st s.0 n) 0 none)
        ∙ ap (λ (k : ℕ). k == 1) (bit_at-zero b))))
    in_word high false some =
        let here : i / 64 ≡ n = omega arith in
        (λ j. cond (eq-eqb s.0 s.0 refl j && eq-eqb (i / 64) n here j) false (taken st s n s.0 i))

    by_place : (x : Bool) → nat_lt i (64 * n) ≡ x → (i < 64 * n → taken st s n s.0 i ≡ false)
        → taken st s (suc n) s.0 i ≡ false
    by_place true is rest = by_word (touched_word st s.0 n == 0) (rest (ltb-true i (64 * n) is))
    by_place false is rest = in_word (ltb-false i (64 * n) is) (touched_word st s.0 n == 0) refl

shown-zero : (j n : ℕ) → shown 0 j n ≡ []
unfolding shown
shown-zero j zero = refl
shown-zero j (suc n) =
    ap (λ b. cond b (shown 0 j n ++ (64 * j + n) ∷ []) (shown 0 j n)) (ap (λ k. k == 1) (bit_at-zero n))
    ∙ shown-zero j n

-- The steps of each index, with `stands` by what is touched and by the indexes that are done.
module _ (st : State) (me : CallerNo) (s : SelNo) (left : List ℕ → List LookedKey)
    (stands : (ℕ → ℕ → Bool) → List ℕ → State)
    (touched_is : (touched : ℕ → ℕ → Bool) (past : List ℕ) → (stands touched past).touched ≡ touched)
    (takes : (touched : ℕ → ℕ → Bool) (past : List ℕ) (n : ℕ)
    → with_none_touched (stands touched past) s.0 n ≡ stands (without_word s n touched) past)
    (turn : (touched : ℕ → ℕ → Bool) (past : List ℕ) (e : ℕ)
    → perform me (list_over s e (left past)) (stands touched past) ≡ record {
      answer = left (past ++ e ∷ []);
      state = stands touched (past ++ e ∷ []);
    }) where
  abbrev after : (ℕ → ℕ → Bool) → List ℕ → Performed (List LookedKey)
  after touched past = record { answer = left past; state = stands touched past }

  abbrev pub listed_after : ℕ → Performed (List LookedKey)
  listed_after n = after (taken st s n) (touched_in st s n)

  -- what a look at word j finds when the words before it are done
  word-is : (j : ℕ) → touched_word (stands (taken st s j) (touched_in st s j)) s.0 j ≡ touched_word st s.0 j
  word-is j =
      ap (λ (t : ℕ → ℕ → Bool). bits_below 64 (λ b. t s.0 (64 * j + b))) (touched_is (taken st s j) (touched_in st s j))
      ∙ bits_below-same 64 (λ b. taken st s j s.0 (64 * j + b)) (λ b. st.touched s.0 (64 * j + b))
      (λ b low. taken-later st s j j b (omega arith) low)

  word-performed : (j : ℕ)
      → perform me (list_word s j (left (touched_in st s j))) (stands (taken st s j) (touched_in st s j))
      ≡ listed_after (suc j)
  word-performed j =
      ap (λ (w : ℕ). perform me (if w == 0 then reply found else list_taken s j found) here) (word-is j)
      ∙ by_word (touched_word st s.0 j == 0) refl
    where
      done : List ℕ
      done = touched_in st s j

      now : ℕ → ℕ → Bool
      now = taken st s j

      here : State
      here = stands now done

      found : List LookedKey
      found = left done

      word : ℕ
      word = touched_word st s.0 j

      more : List ℕ
      more = shown word j 64

      by_word : (b : Bool) → (word == 0) ≡ b
          → perform me (if b then reply found else list_taken s j found) here
          ≡ after (cond b now (without_word s j now)) (done ++ more)
      by_word true is =
          let none : more ≡ [] = ap (λ (w : ℕ). shown w j 64) (eqb-true word 0 is) ∙ shown-zero j 64 in
          ap (after now) (sym (append-nil done) ∙ ap (λ xs. done ++ xs) (sym none))
      by_word false is =
          ap (λ (w : ℕ). perform me (sweep_over (shown w j 64) (list_over s) found) (with_none_touched here s.0 j))
          (word-is j)
          ∙ (ap (λ (x : State). perform me (sweep_over more (list_over s) found) x) (takes now done j)
          ∙ (ap (λ xs. perform me (sweep_over more (list_over s) (left xs)) (stands (without_word s j now) xs))
          (sym (append-nil done))
          ∙ perform_over me more (list_over s) (λ past. left (done ++ past))
          (λ past. stands (without_word s j now) (done ++ past))
          (λ past e later parts. turn (without_word s j now) (done ++ past) e
          ∙ ap (after (without_word s j now)) (append_assoc done past (e ∷ [])))))

  pub list-performed : (w : ℕ) → perform me (sweep_to w 0 (list_word s) (left [])) (stands st.touched [])
      ≡ listed_after w
  list-performed w =
      perform_sweep me w 0 (list_word s) (λ j. left (touched_in st s j))
      (λ j. stands (taken st s j) (touched_in st s j)) (omega arith)
      (λ j _ _. let next : suc j ≡ j + 1 = omega arith in
      word-performed j ∙ ap (λ (n : ℕ). listed_after n) next)
