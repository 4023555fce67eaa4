-- Going over the indexes that a word shows, turn by turn; and the indexes that a word shows as not free, as those that
-- its complement shows.
use Rattle.std.proofs.Common.{ℕ, zero, suc, ◌+◌, ◌-◌, ◌*◌, ◌^◌, ◌<◌, ◌≤◌, ◌≡◌, Bool, true, false, not, ◌&&◌}
use Rattle.std.proofs.Common.{if◌then◌else◌, List, [], ◌∷◌, ◌++◌, refl, ap, sym, ◌∙◌, subst, eq-eqb, ne_eqb, arith}
use Rattle.std.specs.Int.{bit_at, bit_not, w64}
use Rattle.std.specs.Prelude.{nat_lt, filter}
use Rattle.std.proofs.Common.{eqb-true}
use Rattle.std.proofs.Math.Bool.{and-false}
use Rattle.std.proofs.lemmas.Bool.{eqb-false, le-ltb, lt-ltb}
use Rattle.std.proofs.lemmas.List.{append-nil}
use Rattle.std.proofs.lemmas.List.Elements.{filter-append}
use Rattle.std.proofs.lemmas.Nat.Bits.{bit_at-lt, bit_at_not}
use Rattle.nio_base.specs.declared.numbers.CallerNo.{CallerNo}
use Rattle.nio_base.specs.declared.numbers.SelNo.{SelNo}
use Rattle.nio_history.specs.PassViews.{PassView, ActsClause}
use Rattle.nio_history.specs.declared.act.Act.TheVariants.{LookFree}
use Rattle.nio_steps.proofs.CallLaws.{returned, left_reply, left_ask, left_after}
use Rattle.nio_steps.proofs.SweepLaws.{over_turn, over_done}
use Rattle.nio_steps.specs.Calls.{CallClause, PartClause}
use Rattle.nio_steps.specs.KeyCalls.{has_bit}
use Rattle.nio_steps.specs.Plan.{Plan, reply, ◌>>=◌}
use Rattle.nio_steps.specs.Runs.{Completes}
use Rattle.nio_steps.specs.Looking.{not_free, over_word, shown}
use Rattle.nio_steps.specs.Sweeps.{sweep_over}
use Rattle.nio_select.proofs.SetBits.{AreLeft, IsNext, left_from, left_first, left_next, left_none}

-- ---- turn by turn

module _ {A R : Type 0} {me : CallerNo} {whole : Plan R} {v0 v1 : PassView} (word j : ℕ) (f : ℕ → A → Plan A)
    (x : A) (rest : A → Plan R) where
  -- before the first
  pub word_first : PartClause me whole v0 v1 (sweep_over (shown word j 64) f x >>= rest)
      → PartClause me whole v0 v1 (sweep_over (left_from word j 0) f x >>= rest)
  word_first =
      subst (λ (xs : List ℕ). PartClause me whole v0 v1 (sweep_over xs f x >>= rest)) (sym (left_first word j))

  -- the next index was gone over
  pub word_turn : {v2 : PassView} (passed next : ℕ) (y : A) → IsNext word passed next
      → PartClause me whole v0 v1 (sweep_over (left_from word j passed) f x >>= rest)
      → CallClause me (Completes (f (64 * j + next) x)) v1 v2 y
      → PartClause me whole v0 v2 (sweep_over (left_from word j (next + 1)) f y >>= rest)
  word_turn passed next y is so_far call =
      over_turn (64 * j + next) (left_from word j (next + 1)) f x y rest
      (subst (λ (xs : List ℕ). PartClause me whole v0 v1 (sweep_over xs f x >>= rest))
      (left_next word j passed next is) so_far) call

-- there is none
pub word_done : {A : Type 0} {me : CallerNo} {whole : Plan A} {v0 v1 : PassView} (word j passed left : ℕ)
    (f : ℕ → A → Plan A) (x : A) → AreLeft word passed left → left ≡ 0
    → PartClause me whole v0 v1 (sweep_over (left_from word j passed) f x >>= reply)
    → CallClause me (Completes whole) v0 v1 x
word_done {me = me} {whole = whole} {v0 = v0} {v1 = v1} word j passed left f x so_far none here =
    returned (over_done f x reply
    (subst (λ (xs : List ℕ). PartClause me whole v0 v1 (sweep_over xs f x >>= reply))
    (left_none word j passed left so_far none) here))

-- ---- indexes that aren't free

-- the steps of an index that is below the bound
abbrev pub if_below : {A : Type 0} → ℕ → (ℕ → A → Plan A) → ℕ → A → Plan A
if_below bound f i x = if nat_lt i bound then f i x else reply x

-- the bits of the complement
complement : (word n : ℕ) → word < 2 ^ 64 → n < 64 → has_bit (bit_not w64 word) n ≡ not (has_bit word n)
complement word n fits low = by_test (has_bit word n) refl
  where
    is : bit_at (bit_not w64 word) n ≡ 1 - bit_at word n
    is = bit_at_not w64 word n fits low

    by_test : (b : Bool) → has_bit word n ≡ b → has_bit (bit_not w64 word) n ≡ not b
    by_test true set = ne_eqb (bit_at (bit_not w64 word) n) 1 (λ one. omega (arith, is, one, eqb-true (bit_at word n) 1 set))
    by_test false clear =
        eq-eqb (bit_at (bit_not w64 word) n) 1
        (omega (arith, is, bit_at-lt word n, eqb-false (bit_at word n) 1 clear))

not_free-shown : (word j bound n : ℕ) → word < 2 ^ 64 → n ≤ 64
    → not_free word j bound n ≡ filter (λ i. nat_lt i bound) (shown (bit_not w64 word) j n)
unfolding not_free shown
not_free-shown word j bound zero fits low = refl
not_free-shown word j bound (suc n) fits low =
    by_tests (has_bit word n) (nat_lt (64 * j + n) bound) refl (complement word n fits (omega arith))
    (not_free-shown word j bound n fits (omega arith))
  where
    before : List ℕ
    before = shown (bit_not w64 word) j n

    by_tests : (set below : Bool) → nat_lt (64 * j + n) bound ≡ below → has_bit (bit_not w64 word) n ≡ not set
        → not_free word j bound n ≡ filter (λ i. nat_lt i bound) before
        → (if below && not set then not_free word j bound n ++ (64 * j + n) ∷ [] else not_free word j bound n)
        ≡ filter (λ i. nat_lt i bound) (if has_bit (bit_not w64 word) n then before ++ (64 * j + n) ∷ [] else before)
    by_tests true below is not_set so_far =
        ap (λ (b : Bool). if b then not_free word j bound n ++ (64 * j + n) ∷ [] else not_free word j bound n)
        (and-false below)
        ∙ (so_far
        ∙ ap (λ (b : Bool). filter (λ i. nat_lt i bound) (if b then before ++ (64 * j + n) ∷ [] else before))
        (sym not_set))
    by_tests false true is is_set so_far =
        ap (λ xs. xs ++ (64 * j + n) ∷ []) so_far
        ∙ (ap (λ (b : Bool). filter (λ i. nat_lt i bound) before ++ (if b then (64 * j + n) ∷ [] else [])) (sym is)
        ∙ (sym (filter-append (λ i. nat_lt i bound) before ((64 * j + n) ∷ []))
        ∙ ap (λ (b : Bool). filter (λ i. nat_lt i bound) (if b then before ++ (64 * j + n) ∷ [] else before))
        (sym is_set)))
    by_tests false false is is_set so_far =
        so_far
        ∙ (sym (append-nil (filter (λ i. nat_lt i bound) before))
        ∙ (ap (λ (b : Bool). filter (λ i. nat_lt i bound) before ++ (if b then (64 * j + n) ∷ [] else [])) (sym is)
        ∙ (sym (filter-append (λ i. nat_lt i bound) before ((64 * j + n) ∷ []))
        ∙ ap (λ (b : Bool). filter (λ i. nat_lt i bound) (if b then before ++ (64 * j + n) ∷ [] else before))
        (sym is_set))))

-- the indexes of a list that are below the bound
over_below : {A : Type 0} (bound : ℕ) (indexes : List ℕ) (f : ℕ → A → Plan A) (x : A)
    → sweep_over (filter (λ i. nat_lt i bound) indexes) f x ≡ sweep_over indexes (if_below bound f) x
unfolding sweep_over
over_below bound [] f x = refl
over_below {A = A} bound (i ∷ later) f x = by_test (nat_lt i bound) (over_below bound later f)
  where
    by_test : (b : Bool)
        → ((y : A) → sweep_over (filter (λ k. nat_lt k bound) later) f y ≡ sweep_over later (if_below bound f) y)
        → sweep_over (if b then i ∷ filter (λ k. nat_lt k bound) later else filter (λ k. nat_lt k bound) later) f x
        ≡ ((if b then f i x else reply x) >>= (λ y. sweep_over later (if_below bound f) y))
    by_test true rest = ap (λ (on : A → Plan A). f i x >>= on) (λ n y. rest y n)
    by_test false rest = rest x

-- the word was found
pub free_found : {A : Type 0} {me : CallerNo} {s : SelNo} {word : ℕ} {v0 v1 : PassView} (j bound : ℕ)
    (f : ℕ → A → Plan A) (x : A) → word < 2 ^ 64 → ActsClause me (LookFree s j word ∷ []) v0 v1
    → PartClause me (over_word s bound f j x) v0 v1
    (sweep_over (left_from (bit_not w64 word) j 0) (if_below bound f) x >>= reply)
free_found {me = me} {s = s} {word = word} {v0 = v0} {v1 = v1} j bound f x fits looks =
    word_first (bit_not w64 word) j (if_below bound f) x reply
    (subst (λ (plan : Plan _). PartClause me (over_word s bound f j x) v0 v1 (plan >>= reply))
    (ap (λ xs. sweep_over xs f x) (not_free-shown word j bound 64 fits (omega arith))
    ∙ over_below bound (shown (bit_not w64 word) j 64) f x)
    (left_reply (left_ask _ looks (left_after looks))))

-- an index below the bound was gone over
pub below_called : {A : Type 0} {me : CallerNo} {v0 v1 : PassView} (bound i : ℕ) (f : ℕ → A → Plan A) (x y : A) → i < bound
    → CallClause me (Completes (f i x)) v0 v1 y → CallClause me (Completes (if_below bound f i x)) v0 v1 y
below_called {me = me} {v0 = v0} {v1 = v1} bound i f x y below call =
    subst (λ (b : Bool). CallClause me (Completes (if b then f i x else reply x)) v0 v1 y) (sym (lt-ltb i bound below))
    call

-- the next isn't below the bound
pub word_past : {A R : Type 0} {me : CallerNo} {whole : Plan R} {v0 v1 : PassView} (word j bound passed next : ℕ)
    (f : ℕ → A → Plan A) (x : A) (rest : A → Plan R) → IsNext word passed next → bound ≤ 64 * j + next
    → PartClause me whole v0 v1 (sweep_over (left_from word j passed) (if_below bound f) x >>= rest)
    → PartClause me whole v0 v1 (sweep_over (left_from word j (next + 1)) (if_below bound f) x >>= rest)
unfolding sweep_over
word_past {me = me} {whole = whole} {v0 = v0} {v1 = v1} word j bound passed next f x rest is above so_far =
    subst (λ (b : Bool). PartClause me whole v0 v1
    ((if b then f (64 * j + next) x else reply x)
    >>= (λ y. sweep_over (left_from word j (next + 1)) (if_below bound f) y) >>= rest))
    (le-ltb (64 * j + next) bound above)
    (subst (λ (xs : List ℕ). PartClause me whole v0 v1 (sweep_over xs (if_below bound f) x >>= rest))
    (left_next word j passed next is) so_far)
