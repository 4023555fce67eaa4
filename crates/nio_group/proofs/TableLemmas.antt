-- A table of entries under look-ups, insertions and removals.
use Rattle.std.proofs.Common.{◌≡◌, ◌≢◌, ℕ, ◌+◌, ◌-◌, ◌*◌, ◌<◌, ◌≤◌, max, Bool, true, false, cond, eqb, List, Option}
use Rattle.std.proofs.Common.{Some, None, count_by, get_or, set, length, refl, sym, ◌∙◌, subst, arith, get_or-set_same}
use Rattle.std.proofs.Common.{get_or-set_other, Result, Ok, Err, OnErr}
use Rattle.std.proofs.lemmas.Bool.Decides.{nat_tests}
use Rattle.std.proofs.lemmas.List.{get_or_read, length-set}
use Rattle.std.proofs.lemmas.List.Sums.{sum_by-set}
use Rattle.nio_group.specs.declared.index.Entry.{Entry}
use Rattle.nio_group.specs.Index.{has_number, key_in, home_of, IsNear, IsTable, ChangesKey}
use Rattle.nio_group.proofs.IndexLemmas.{none_has_number, key_in_found, absent-key_in, key_in-absent, key_in-set_none}
use Rattle.nio_group.proofs.IndexLemmas.{key_in-set_other, key_in-set_same}
use Rattle.std.proofs.lemmas.Option.{same_Some}
use Rattle.std.proofs.lemmas.Bool.{eqb-true, eqb-false}

pub by_test : (b : Bool) {P : Type 0} → (b ≡ true → P) → (b ≡ false → P) → P
by_test true f g = f refl
by_test false f g = g refl

-- what holds anyway holds at an error
pub on_err : {T E P : Type 0} (r : Result T E) → P → OnErr r P
on_err (Ok x) holds = tt
on_err (Err e) holds = holds

-- a slot outside the window of a number doesn't have it
outside : (slots : List (Option Entry)) (limit reach n : ℕ) → IsNear slots limit reach
    → ((i : ℕ) → home_of n limit ≤ i → i ≤ home_of n limit + reach → has_number n (get_or slots i None) ≡ false)
    → (i : ℕ) (slot : Option Entry) → get_or slots i None ≡ slot → has_number n slot ≡ false
outside slots limit reach n near h i None at = refl
outside slots limit reach n near h i (Some e) at =
    by_test (eqb e.number n)
    (λ t. let same = eqb-true e.number n t in
    let place = near i e at in
    let there : has_number n (get_or slots i None) ≡ false =
    h i (subst (λ (m : ℕ). home_of m limit ≤ i) same place.0)
    (subst (λ (m : ℕ). i ≤ home_of m limit + reach) same place.1) in
    rw at at there)
    (λ f. f)

-- a number that isn't near its home has no key
pub key_in-not_near : {slots : List (Option Entry)} {limit reach : ℕ} (n : ℕ) → IsTable slots limit reach
    → ((i : ℕ) → home_of n limit ≤ i → i ≤ home_of n limit + reach → has_number n (get_or slots i None) ≡ false)
    → key_in n slots ≡ None
key_in-not_near {slots} {limit} {reach} n table h =
    none_has_number n slots (λ i. outside slots limit reach n table.near h i (get_or slots i None) refl)

-- the counts of a table after a write
pub count_by-set : {X : Type 0} (p : X → Bool) (xs : List X) (i : ℕ) (y d : X) → i < length xs
    → count_by p (set xs i y) + cond (p (get_or xs i d)) 1 0 ≡ count_by p xs + cond (p y) 1 0
count_by-set p xs i y d l = sum_by-set (λ x. cond (p x) 1 0) xs i y d l

-- the reach of a table is enough for a new entry
pub table-inserts : {slots : List (Option Entry)} {limit reach : ℕ} (e : Entry) (home i : ℕ)
    → home ≡ home_of e.number limit → IsTable slots limit reach → home < 2 * limit → get_or slots i None ≡ None
    → home ≤ i → i < home + limit → key_in e.number slots ≡ None
    → IsTable (set slots i (Some e)) limit (max reach (i - home))
table-inserts {slots} {limit} {reach} e home i is table placed vacant above below new =
    let size = table.size in
    let l : i < length slots = omega arith in
    record {
      some_limit = table.some_limit;
      few_limit = table.few_limit;
      size = length-set slots i (Some e) ∙ table.size;
      small_reach = let small = table.small_reach in omega arith;
      once = λ n.
          let had = table.once n in
          let counts = count_by-set (has_number n) slots i (Some e) None l in
          let empty : has_number n (get_or slots i None) ≡ false = rw vacant refl in
          let none = absent-key_in e.number slots new in
          once_more n had counts empty none;
      near = λ j o at. near_more j o at;
    }
  where
    once_more : (n : ℕ) → count_by (has_number n) slots ≤ 1
        → count_by (has_number n) (set slots i (Some e)) + cond (has_number n (get_or slots i None)) 1 0
        ≡ count_by (has_number n) slots + cond (eqb e.number n) 1 0
        → has_number n (get_or slots i None) ≡ false → count_by (has_number e.number) slots ≡ 0
        → count_by (has_number n) (set slots i (Some e)) ≤ 1
    once_more n had counts empty none =
        by_test (eqb e.number n)
        (λ t. let same = eqb-true e.number n t in
        let zero_there : count_by (has_number n) slots ≡ 0 = subst
        (λ (m : ℕ). count_by (has_number m) slots ≡ 0) same none in
        let c = rw (empty, t) at counts in omega (arith, c))
        (λ f. let c = rw (empty, f) at counts in omega (arith, c))

    near_more : (j : ℕ) (o : Entry) → get_or (set slots i (Some e)) j None ≡ Some o
        → (home_of o.number limit ≤ j) × (j ≤ home_of o.number limit + max reach (i - home))
    near_more j o at =
        by_test (eqb j i)
        (λ t. let same = eqb-true j i t in
        let here : Some e ≡ Some o = sym (get_or-set_same slots i (Some e) None (omega (arith, table.size))) ∙ subst
        (λ (k : ℕ). get_or (set slots i (Some e)) k None ≡ Some o) same at in
        rw (← same_Some e o here, ← is) (omega arith, omega arith))
        (λ f. let differ = eqb-false j i f in
        let near = table.near j o (sym (get_or-set_other slots i j (Some e) None differ) ∙ at) in
        (near.0, omega (arith, near.1)))

pub table-removed : {slots : List (Option Entry)} {limit reach : ℕ} (i : ℕ) → IsTable slots limit reach
    → i < length slots → IsTable (set slots i None) limit reach
table-removed {slots} {limit} {reach} i table l =
    record {
      some_limit = table.some_limit;
      few_limit = table.few_limit;
      size = length-set slots i None ∙ table.size;
      small_reach = table.small_reach;
      once = λ n.
          let had = table.once n in
          let counts = count_by-set (has_number n) slots i None None l in
          omega (arith, counts, had);
      near = λ j o at.
          by_test (eqb j i)
          (λ t. let same = eqb-true j i t in
          let here : None ≡ Some o = sym (get_or-set_same slots i None None l) ∙ subst
          (λ (k : ℕ). get_or (set slots i None) k None ≡ Some o) same at in
          cc)
          (λ f. let differ = eqb-false j i f in
          table.near j o (sym (get_or-set_other slots i j None None differ) ∙ at));
    }

-- a number whose entry is removed has no other
pub key-removed : {slots : List (Option Entry)} {limit reach : ℕ} (n i : ℕ) → IsTable slots limit reach
    → i < length slots → has_number n (get_or slots i None) ≡ true → key_in n (set slots i None) ≡ None
key-removed {slots} n i table l has =
    let had = table.once n in
    let counts = rw has at (count_by-set (has_number n) slots i None None l) in
    key_in-absent n (set slots i None) (omega (arith, counts, had))

-- what a read of a slot says of a number that was found there
pub key_in-read : {slots : List (Option Entry)} {limit reach : ℕ} (n i : ℕ) (x : Option Entry) (e : Entry)
    → IsTable slots limit reach → i < length slots → has_number n (get_or slots i None) ≡ true → x ≡ get_or slots i x
    → x ≡ Some e → Some e.key ≡ key_in n slots
key_in-read {slots} n i x e table l has read is =
    let at : get_or slots i None ≡ Some e = sym (get_or_read slots i x l read None) ∙ is in
    let number : e.number ≡ n = eqb-true e.number n (rw at at has) in
    sym (subst (λ (m : ℕ). key_in m slots ≡ Some e.key) number (key_in_found e slots i (table.once e.number) at))

pub changes-inserted : {slots : List (Option Entry)} {limit reach : ℕ} (e : Entry) (home i : ℕ)
    → IsTable slots limit reach → home < 2 * limit → get_or slots i None ≡ None → i < home + limit
    → key_in e.number slots ≡ None
    → ChangesKey (record { slots = slots; limit = limit })
    (record { slots = set slots i (Some e); limit = limit }) e.number (Some e.key)
changes-inserted {slots} {limit} e home i table below vacant before new =
    let size = table.size in
    record {
      changed = key_in-set_same e slots i (omega arith) new;
      others = λ m ne. key_in-set_other m e slots i vacant ne;
    }

pub changes-removed : {slots : List (Option Entry)} {limit reach : ℕ} (n i : ℕ) → IsTable slots limit reach
    → i < length slots → has_number n (get_or slots i None) ≡ true
    → ChangesKey (record { slots = slots; limit = limit }) (record { slots = set slots i None; limit = limit }) n
    None
changes-removed {slots} {limit} n i table l has =
    record {
      changed = key-removed n i table l has;
      others = λ m ne. key_in-set_none m slots i (not_this m (get_or slots i None) has ne);
    }
  where
    not_this : (m : ℕ) (slot : Option Entry) → has_number n slot ≡ true → m ≢ n → has_number m slot ≡ false
    not_this m None h ne = refl
    not_this m (Some e) h ne = let same = eqb-true e.number n h in grind (arith, nat_tests)
