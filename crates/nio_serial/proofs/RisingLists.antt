-- A rising list is the list of what it has at each index.
use Rattle.std.proofs.Common.{◌≡◌, ◌≢◌, ℕ, zero, suc, ◌+◌, ◌<◌, ◌≤◌, ◌==◌, Bool, true, false, cond, if◌then◌else◌, Option}
use Rattle.std.proofs.Common.{Some, None, List, [], ◌∷◌, map, filter, refl, ap, sym, ◌∙◌, eqb-true, eq-eqb, arith}
use Rattle.std.specs.List.{All, AllPairs}
use Rattle.std.specs.Prelude.{fold}
use Rattle.std.proofs.lemmas.Bool.{eqb-false, ne_eqb}
use Rattle.std.proofs.lemmas.List.Elements.{All-nil, All-cons, All-head, All-tail, All-weaker}
use Rattle.nio_history.specs.Lists.{ListEntry}
use Rattle.nio_steps.proofs.Lists.{pairs-head, pairs-tail}
use Rattle.nio_steps.proofs.PerformLaws.{indexes}
use Rattle.nio_steps.specs.Lists.{listed_at}
use Rattle.nio_steps.specs.declared.looked.LookedKey.{LookedKey}

-- an entry without its index
abbrev pub its_entry : LookedKey → ListEntry
its_entry e = record { serial = e.serial; channel = e.channel; interest = e.interest }

abbrev found_after : ℕ → Option ListEntry → LookedKey → Option ListEntry
found_after i found e = if e.index == i then Some (its_entry e) else found

-- none of these is at the index
none-after : (i : ℕ) (found : Option ListEntry) (known : List LookedKey) → All (λ e. e.index ≢ i) known
    → fold (found_after i) found known ≡ found
none-after i found [] others = refl
none-after i found (e ∷ known) others =
    ap (λ (b : Bool). fold (found_after i) (if b then Some (its_entry e) else found) known)
    (ne_eqb e.index i (All-head (λ (x : LookedKey). x.index ≢ i) e known others))
    ∙ none-after i found known (All-tail (λ (x : LookedKey). x.index ≢ i) e known others)

-- what the list has at an index is the first entry there, or what the rest has
at-first : (i : ℕ) (e : LookedKey) (known : List LookedKey) → e.index ≡ i → All (λ x. x.index ≢ i) known
    → listed_at (e ∷ known) i ≡ Some (its_entry e)
at-first i e known is others =
    ap (λ (b : Bool). fold (found_after i) (if b then Some (its_entry e) else None) known) (eq-eqb e.index i is)
    ∙ none-after i (Some (its_entry e)) known others

at-rest : (i : ℕ) (e : LookedKey) (known : List LookedKey) → e.index ≢ i → listed_at (e ∷ known) i ≡ listed_at known i
at-rest i e known other =
    ap (λ (b : Bool). fold (found_after i) (if b then Some (its_entry e) else None) known) (ne_eqb e.index i other)

module _ (v : ℕ → Bool) (f : ℕ → LookedKey) (index_is : (i : ℕ) → (f i).index ≡ i) where
  abbrev stands : ℕ → Option ListEntry
  stands i = if v i then Some (its_entry (f i)) else None

  abbrev Is : List LookedKey → ℕ → ℕ → Type 0
  Is known a n = known ≡ map f (filter v (indexes a n))

  none-valid : (i : ℕ) → stands i ≡ None → v i ≡ false
  none-valid i none = by_test (v i) none
    where
      by_test : (b : Bool) → (if b then Some (its_entry (f i)) else None) ≡ None → b ≡ false
      by_test true is = absurd (cc is)
      by_test false is = refl

  one-valid : (i : ℕ) (e : ListEntry) → stands i ≡ Some e → (v i ≡ true) × (its_entry (f i) ≡ e)
  one-valid i e one = by_test (v i) one
    where
      by_test : (b : Bool) → (if b then Some (its_entry (f i)) else None) ≡ Some e
          → (b ≡ true) × (its_entry (f i) ≡ e)
      by_test true is = (refl, cc is)
      by_test false is = absurd (cc is)

  same-key : (e : LookedKey) (i : ℕ) → e.index ≡ i → its_entry (f i) ≡ its_entry e → e ≡ f i
  same-key e i is same = λ j. record {
    index = (is ∙ sym (index_is i)) j;
    serial = ap (λ (x : ListEntry). x.serial) (sym same) j;
    channel = ap (λ (x : ListEntry). x.channel) (sym same) j;
    interest = ap (λ (x : ListEntry). x.interest) (sym same) j;
  }

  passes : (a n : ℕ) → v a ≡ false → map f (filter v (a ∷ indexes (a + 1) n)) ≡ map f (filter v (indexes (a + 1) n))
  passes a n is =
      ap (λ b. map f (cond b (a ∷ filter v (indexes (a + 1) n)) (filter v (indexes (a + 1) n)))) is

  takes : (a n : ℕ) → v a ≡ true
      → map f (filter v (a ∷ indexes (a + 1) n)) ≡ f a ∷ map f (filter v (indexes (a + 1) n))
  takes a n is =
      ap (λ b. map f (cond b (a ∷ filter v (indexes (a + 1) n)) (filter v (indexes (a + 1) n)))) is

  abbrev From : ℕ → List LookedKey → Type 0
  From a known = All (λ e. a ≤ e.index) known

  pub rising-from : (n a : ℕ) (known : List LookedKey) → AllPairs (λ x y. x.index < y.index) known → From a known
      → All (λ e. e.index < a + n) known
      → ((i : ℕ) → a ≤ i → i < a + n → listed_at known i ≡ stands i) → known ≡ map f (filter v (indexes a n))
  unfolding indexes
  rising-from zero a [] rise low high right = refl
  rising-from zero a (e ∷ known) rise low high right =
      let from = All-head (λ (x : LookedKey). a ≤ x.index) e known low in
      let to = All-head (λ (x : LookedKey). x.index < a + 0) e known high in
      absurd (omega (arith, from, to))
  rising-from (suc n) a [] rise low high right =
      rising-from n (a + 1) [] rise (All-nil (λ (x : LookedKey). a + 1 ≤ x.index))
      (All-nil (λ (x : LookedKey). x.index < (a + 1) + n)) (λ i from to. right i (omega arith) (omega arith))
      ∙ sym (passes a n (none-valid a (sym (right a (omega arith) (omega arith)))))
  rising-from (suc n) a (e ∷ known) rise low high right =
      by_index (e.index == a) refl (rising-from n (a + 1) known) (rising-from n (a + 1) (e ∷ known))
    where
      above : All (λ (x : LookedKey). e.index < x.index) known
      above = pairs-head (λ (x y : LookedKey). x.index < y.index) e known rise

      first : a ≤ e.index
      first = All-head (λ (x : LookedKey). a ≤ x.index) e known low

      within : (xs : List LookedKey) → All (λ (x : LookedKey). x.index < a + suc n) xs
          → All (λ (x : LookedKey). x.index < (a + 1) + n) xs
      within xs all =
          All-weaker (λ (x : LookedKey). x.index < a + suc n) (λ (x : LookedKey). x.index < (a + 1) + n)
          (λ x is. omega (arith, is)) xs all

      later : a ≤ e.index → All (λ (x : LookedKey). a + 1 ≤ x.index) known
      later from =
          All-weaker (λ (x : LookedKey). e.index < x.index) (λ (x : LookedKey). a + 1 ≤ x.index)
          (λ x is. omega (arith, is, from)) known above

      others : All (λ (x : LookedKey). x.index ≢ a) known
      others =
          All-weaker (λ (x : LookedKey). a + 1 ≤ x.index) (λ (x : LookedKey). x.index ≢ a)
          (λ x is same. omega (arith, is, same)) known (later first)

      Rest : List LookedKey → Type 0
      Rest xs = AllPairs (λ x y. x.index < y.index) xs → From (a + 1) xs → All (λ x. x.index < (a + 1) + n) xs
          → ((i : ℕ) → a + 1 ≤ i → i < (a + 1) + n → listed_at xs i ≡ stands i) → Is xs (a + 1) n

      by_index : (b : Bool) → (e.index == a) ≡ b → Rest known → Rest (e ∷ known)
          → e ∷ known ≡ map f (filter v (a ∷ indexes (a + 1) n))
      by_index true is rest more =
          let here : e.index ≡ a = eqb-true e.index a is in
          let one = one-valid a (its_entry e)
          (sym (right a (omega arith) (omega arith)) ∙ at-first a e known here others) in
          let tail = rest (pairs-tail (λ (x y : LookedKey). x.index < y.index) e known rise) (later first)
          (within known (All-tail (λ (x : LookedKey). x.index < a + suc n) e known high))
          (λ i from to. sym (at-rest i e known (λ same. omega (arith, same, here, from)))
          ∙ right i (omega arith) (omega arith)) in
          (λ j. same-key e a here one.1 j ∷ tail j) ∙ sym (takes a n one.0)
      by_index false is rest more =
          let apart : e.index ≢ a = eqb-false e.index a is in
          let none : listed_at (e ∷ known) a ≡ None = none-after a None (e ∷ known)
          (All-cons (λ (x : LookedKey). x.index ≢ a) e known apart others) in
          more rise (All-cons (λ (x : LookedKey). a + 1 ≤ x.index) e known (omega (arith, apart, first)) (later first))
          (within (e ∷ known) high) (λ i from to. right i (omega arith) (omega arith))
          ∙ sym (passes a n (none-valid a (sym (right a (omega arith) (omega arith)) ∙ none)))
