-- The looks at which indexes are free, and the steps of those that aren't, performed.
use Rattle.std.proofs.Common.{◌≡◌, ℕ, zero, suc, ◌+◌, ◌-◌, ◌*◌, ◌/◌, ◌<◌, ◌≤◌, ◌==◌, nat_lt, Bool, true, false, cond}
use Rattle.std.proofs.Common.{not, ◌&&◌, ◌||◌, if◌then◌else◌, List, [], ◌∷◌, ◌++◌, filter, refl, ap, sym, ◌∙◌}
use Rattle.std.proofs.Common.{append_assoc, arith, ◌^◌, bit_or}
use Rattle.std.proofs.lemmas.Bool.{lt-ltb, le-ltb, ne_eqb}
use Rattle.std.proofs.lemmas.List.{append-nil}
use Rattle.std.proofs.lemmas.List.Elements.{filter-append}
use Rattle.std.proofs.lemmas.List.Folds.{list_any-append}
use Rattle.std.specs.List.{list_any}
use Rattle.nio_base.specs.declared.numbers.CallerNo.{CallerNo}
use Rattle.nio_base.specs.declared.numbers.SelNo.{SelNo}
use Rattle.nio_history.proofs.Bits.{bits_below-at}
use Rattle.nio_history.specs.Answers.{bits_below, free_word}
use Rattle.nio_history.specs.State.{State}
use Rattle.nio_plain.specs.Seq.Names.{below}
use Rattle.nio_steps.proofs.ListedLaws.{listed_in, perform_listed}
use Rattle.nio_steps.proofs.PerformLaws.{indexes, indexes-push}
use Rattle.nio_steps.specs.ChannelCalls.{words_below}
use Rattle.nio_steps.specs.KeyCalls.{has_bit}
use Rattle.nio_steps.specs.Perform.{perform}
use Rattle.nio_steps.specs.Plan.{Plan}
use Rattle.nio_steps.specs.Looking.{not_free, over_not_free}

-- a bit of a look is set where the index passes the test
pub bit-shown : (p : ℕ → Bool) (b : ℕ) → b < 64 → has_bit (bits_below 64 p) b ≡ p b
bit-shown p b low = ap (λ n. n == 1) (bits_below-at 64 p b low) ∙ by_test (p b)
  where
    by_test : (x : Bool) → ((if x then 1 else 0) == 1) ≡ x
    by_test true = refl
    by_test false = refl

-- where it is free
pub bit-free : (st : State) (s j b : ℕ) → b < 64 → has_bit (free_word st s j) b ≡ st.free s (64 * j + b)
bit-free st s j b low = bit-shown (λ k. st.free s (64 * j + k)) b low

pub below-indexes : (n m : ℕ) → below (n + m) ≡ below n ++ indexes n m
unfolding indexes
below-indexes n zero =
    let same : n + 0 ≡ n = omega arith in
    ap below same ∙ sym (append-nil (below n))
below-indexes n (suc m) =
    let same : n + suc m ≡ suc (n + m) = omega arith in
    ap below same
    ∙ (ap (λ xs. xs ++ (n + m) ∷ []) (below-indexes n m)
    ∙ (append_assoc (below n) (indexes n m) ((n + m) ∷ []) ∙ ap (λ xs. below n ++ xs) (sym (indexes-push n m))))

not_free-is : (word j bound : ℕ) (q : ℕ → Bool) (n : ℕ)
    → ((b : ℕ) → b < n → (nat_lt (64 * j + b) bound && not (has_bit word b)) ≡ q (64 * j + b))
    → not_free word j bound n ≡ filter q (indexes (64 * j) n)
unfolding not_free indexes
not_free-is word j bound q zero same = refl
not_free-is word j bound q (suc n) same =
    let i = 64 * j + n in
    ap (λ b. cond b (not_free word j bound n ++ i ∷ []) (not_free word j bound n)) (same n (omega arith))
    ∙ (ap (λ xs. cond (q i) (xs ++ i ∷ []) xs) (not_free-is word j bound q n (λ b low. same b (omega arith)))
    ∙ (by_test (filter q (indexes (64 * j) n)) (q i)
    ∙ (sym (filter-append q (indexes (64 * j) n) (i ∷ [])) ∙ ap (filter q) (sym (indexes-push (64 * j) n)))))
  where
    by_test : (xs : List ℕ) (b : Bool) → cond b (xs ++ (64 * j + n) ∷ []) xs ≡ xs ++ cond b ((64 * j + n) ∷ []) []
    by_test xs true = refl
    by_test xs false = sym (append-nil xs)

pub filter-none : (q : ℕ → Bool) (i n : ℕ) → ((k : ℕ) → i ≤ k → q k ≡ false) → filter q (indexes i n) ≡ []
unfolding indexes
filter-none q i zero none = refl
filter-none q i (suc n) none =
    ap (λ b. cond b (i ∷ filter q (indexes (i + 1) n)) (filter q (indexes (i + 1) n))) (none i (omega arith))
    ∙ filter-none q (i + 1) n (λ k low. none k (omega arith))

pub filter-same : (p q : ℕ → Bool) (n : ℕ) → ((i : ℕ) → i < n → p i ≡ q i) → filter p (below n) ≡ filter q (below n)
filter-same p q zero same = refl
filter-same p q (suc n) same =
    filter-append p (below n) (n ∷ [])
    ∙ ((λ j. filter-same p q n (λ i low. same i (omega arith)) j ++ cond (same n (omega arith) j) (n ∷ []) [])
    ∙ sym (filter-append q (below n) (n ∷ [])))

-- the list has the index
abbrev pub has_index : ℕ → List ℕ → Bool
has_index i xs = list_any (λ j. j == i) xs

-- no index from n on is among those below n
absent : (q : ℕ → Bool) (n i : ℕ) → n ≤ i → has_index i (filter q (below n)) ≡ false
absent q zero i past = refl
absent q (suc n) i past =
    ap (has_index i) (filter-append q (below n) (n ∷ []))
    ∙ (list_any-append (λ j. j == i) (filter q (below n)) (cond (q n) (n ∷ []) [])
    ∙ ((λ j. absent q n i (omega arith) j || has_index i (cond (q n) (n ∷ []) [])) ∙ by_test (q n)))
  where
    by_test : (b : Bool) → has_index i (cond b (n ∷ []) []) ≡ false
    by_test true = ap (λ b. b || false) (ne_eqb n i (λ e. omega arith))
    by_test false = refl

-- the indexes below the bound that aren't free, in rising order
abbrev pub listed : State → ℕ → ℕ → List ℕ
listed st s bound = filter (λ i. not (st.free s i)) (below bound)

-- looks at the same bits find the same
pub bits_below-same : (n : ℕ) (p q : ℕ → Bool) → ((i : ℕ) → i < n → p i ≡ q i) → bits_below n p ≡ bits_below n q
unfolding bits_below
bits_below-same zero p q same = refl
bits_below-same (suc n) p q same =
    λ j. bit_or (bits_below-same n p q (λ i low. same i (omega arith)) j)
    (if same n (omega arith) j then 2 ^ n else 0)

-- The steps of each of these indexes, with `left` and `stands` by the indexes that are done. They free no index but
-- those.
module _ {A : Type 0} (st : State) (me : CallerNo) (s : SelNo) (bound : ℕ) (f : ℕ → A → Plan A) (left : List ℕ → A)
    (stands : List ℕ → State)
    (turn : (past : List ℕ) (e : ℕ) → perform me (f e (left past)) (stands past) ≡ record {
      answer = left (past ++ e ∷ []);
      state = stands (past ++ e ∷ []);
    })
    (frees : (past : List ℕ) (i : ℕ) → has_index i past ≡ false → (stands past).free s.0 i ≡ st.free s.0 i) where
  abbrev q : ℕ → Bool
  q i = nat_lt i bound && not (st.free s.0 i)

  -- those that the first j looks show
  listed_in-is : (j : ℕ) → listed_in st s bound j ≡ filter q (below (64 * j))
  listed_in-is zero = refl
  listed_in-is (suc j) =
      let more : 64 * suc j ≡ 64 * j + 64 = omega arith in
      (λ k. listed_in-is j k ++ not_free-is (free_word st s.0 j) j bound q 64
      (λ b low. ap (λ x. nat_lt (64 * j + b) bound && not x) (bit-free st s.0 j b low)) k)
      ∙ (sym (filter-append q (below (64 * j)) (indexes (64 * j) 64))
      ∙ ap (filter q) (sym (below-indexes (64 * j) 64) ∙ ap below (sym more)))

  looks : (j : ℕ) → free_word (stands (listed_in st s bound j)) s.0 j ≡ free_word st s.0 j
  looks j =
      bits_below-same 64 _ _ (λ b _. frees (listed_in st s bound j) (64 * j + b)
      (ap (has_index (64 * j + b)) (listed_in-is j) ∙ absent q (64 * j) (64 * j + b) (omega arith)))

  pub over_not_free-performed : perform me (over_not_free s bound f (left [])) (stands []) ≡ record {
    answer = left (listed st s.0 bound);
    state = stands (listed st s.0 bound);
  }
  over_not_free-performed =
      perform_listed me s bound f st left stands (λ j _. looks j) (λ past e later _. turn past e)
      ∙ ap (λ (done : List ℕ). record { answer = left done; state = stands done })
      (listed_in-is w
      ∙ (ap (λ n. filter q (below n)) all ∙ (ap (filter q) (below-indexes bound (64 * w - bound))
      ∙ (filter-append q (below bound) (indexes bound (64 * w - bound))
      ∙ (ap (λ xs. filter q (below bound) ++ xs)
      (filter-none q bound (64 * w - bound) (λ k above. ap (λ b. b && not (st.free s.0 k)) (le-ltb k bound above)))
      ∙ (append-nil (filter q (below bound))
      ∙ filter-same q (λ i. not (st.free s.0 i)) bound
      (λ i low. ap (λ b. b && not (st.free s.0 i)) (lt-ltb i bound low))))))))
    where
      w : ℕ
      w = words_below bound

      all : 64 * w ≡ bound + (64 * w - bound)
      all = let covers : bound ≤ 64 * ((bound + 63) / 64) = omega arith in omega arith
