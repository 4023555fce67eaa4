-- The operations that a group keeps, when one is accepted, replaced or ended.
use Rattle.std.proofs.Common.{◌≡◌, ◌≢◌, ℕ, ◌+◌, ◌^◌, ◌<◌, ◌≤◌, true, cond, eqb, List, [], ◌∷◌, ◌++◌, Option, Some, None}
use Rattle.std.proofs.Common.{inl, inr, is_some, IsSome, IsSomeAnd, count_by, get_or, set, length, map, refl, sym, ap}
use Rattle.std.proofs.Common.{◌∙◌, subst, arith, rules, get_or-set_same, get_or-set_other}
use Rattle.std.specs.List.{range_with_len}
use Rattle.std.specs.Option.{option_map}
use Rattle.std.proofs.lemmas.List.{get_or_past, length-set, same_lists}
use Rattle.std.proofs.lemmas.Bool.{cases_lt, eqb-true, eqb-false}
use Rattle.std.proofs.lemmas.List.Sums.{sum_by_push}
use Rattle.std.proofs.lemmas.List.FromFn.{length-map-range_with_len, get_or-map-range_with_len, map-range_with_len_more}
use Rattle.slab.specs.Slab.{Slab, get, slab_len, Updates, with_value}
use Rattle.nio_group.specs.declared.operation.Operation.{Operation}
use Rattle.nio_group.specs.declared.operations.Numbered.{Numbered}
use Rattle.nio_group.specs.Index.{Index, key_of, entries, ChangesKey}
use Rattle.nio_group.specs.Kept.{operation_in, operation_of, kept_operations, IsKept}
use Rattle.nio_group.proofs.TableLemmas.{by_test, count_by-set}
use Rattle.std.proofs.lemmas.Option.{none-some, same_Some}

-- the value that is there, and the fact of it
some_and : {T : Type 0} (o : Option T) (P : T → Type 0) → IsSomeAnd o P → (x : T) × (o ≡ Some x) × P x
some_and None P h = absurd h
some_and (Some x) P h = (x, refl, h)

by_lt : (n m : ℕ) {P : Type 0} → (n < m → P) → (m ≤ n → P) → P
by_lt n m below above = elim (cases_lt n m) [ inl l ↦ below l | inr g ↦ above g ]

pub not_some : (T : Type 0) → IsSome {T = T} None → ⊥
not_some T h = grind arith

some_within : (xs : List (Option Numbered)) (i : ℕ) → IsSome (get_or xs i None) → i < length xs
some_within xs i has =
    by_lt i (length xs) (λ l. l)
    (λ g. absurd (let gone = get_or_past xs i None g in
    not_some Numbered (subst (λ (o : Option Numbered). IsSome o) gone has)))

is_some-true : {T : Type 0} (o : Option T) → IsSome o → is_some o ≡ true
is_some-true None h = grind arith
is_some-true (Some x) h = refl

pub length-kept : (slab : Slab Numbered) (index : Index) (accepted : ℕ)
    → length (kept_operations slab index accepted) ≡ accepted
length-kept slab index accepted = length-map-range_with_len (operation_of slab index) 0 accepted

-- the operation with a number is the one that its key leads to
pub kept-at : {slab : Slab Numbered} {index : Index} {accepted limit : ℕ} (n : ℕ) → IsKept slab index accepted limit
    → get_or (kept_operations slab index accepted) n None ≡ operation_in slab (key_of index n)
kept-at {slab} {index} {accepted} n kept =
    by_lt n accepted
    (λ l. get_or-map-range_with_len (operation_of slab index) 0 accepted n n None l (omega arith))
    (λ g. get_or_past (kept_operations slab index accepted) n None (omega (arith, length-kept slab index accepted))
    ∙ sym (ap (operation_in slab) (kept.below n g)))

-- the kept operations after a change of one
kept-set : (slab slab' : Slab Numbered) (index index' : Index) (accepted n : ℕ) (slot : Option Operation)
    → operation_of slab' index' n ≡ slot → ((m : ℕ) → m ≢ n → operation_of slab' index' m ≡ operation_of slab index m)
    → kept_operations slab' index' accepted ≡ set (kept_operations slab index accepted) n slot
kept-set slab slab' index index' accepted n slot here others =
    let f = operation_of slab index in
    let f' = operation_of slab' index' in
    let had = kept_operations slab index accepted in
    let has = kept_operations slab' index' accepted in
    same_lists has (set had n slot)
    (length-kept slab' index' accepted ∙ sym (length-kept slab index accepted) ∙ sym (length-set had n slot))
    (λ k d l.
    let within : k < accepted = omega (arith, length-kept slab' index' accepted) in
    let new = get_or-map-range_with_len f' 0 accepted k k d within (omega arith) in
    let old = get_or-map-range_with_len f 0 accepted k k d within (omega arith) in
    by_test (eqb k n)
    (λ t. let same = eqb-true k n t in
    let put : get_or (set had n slot) k d ≡ slot =
    subst (λ (i : ℕ). get_or (set had n slot) i d ≡ slot) (sym same)
    (get_or-set_same had n slot d (omega (arith, length-kept slab index accepted))) in
    new ∙ subst (λ (i : ℕ). f' i ≡ slot) (sym same) here ∙ sym put)
    (λ e. let differ = eqb-false k n e in
    new ∙ others k differ ∙ sym old ∙ sym (get_or-set_other had n k slot d differ)))

-- another number's operation stays, where its key isn't the one that changes
other-stays : (slab slab' : Slab Numbered) (key : ℕ) (o : Option ℕ)
    → ((other : ℕ) → other ≢ key → get slab' other ≡ get slab other) → ((k : ℕ) → o ≡ Some k → k ≢ key)
    → operation_in slab' o ≡ operation_in slab o
other-stays slab slab' key None others apart = refl
other-stays slab slab' key (Some k) others apart =
    ap (option_map (λ (x : Numbered). x.operation)) (others k (apart k refl))

-- two numbers have two keys
apart : {slab : Slab Numbered} {index : Index} {accepted limit : ℕ} (n m key : ℕ) → IsKept slab index accepted limit
    → key_of index n ≡ Some key → m ≢ n → (k : ℕ) → key_of index m ≡ Some k → k ≢ key
apart {slab} {index} n m key kept at differ k at' same =
    let here = some_and (get slab key) (λ x. x.number ≡ n) (kept.leads n key at) in
    let there = some_and (get slab k) (λ x. x.number ≡ m) (kept.leads m k at') in
    let both : get slab key ≡ Some there.0 = subst (λ (j : ℕ). get slab j ≡ Some there.0) same there.1 in
    let same_one : here.0 ≡ there.0 = cc in
    differ (sym there.2 ∙ ap (λ (x : Numbered). x.number) (sym same_one) ∙ here.2)

map-same : (f f' : ℕ → Option Operation) (n : ℕ) → ((m : ℕ) → m < n → f' m ≡ f m)
    → map f' (range_with_len 0 n) ≡ map f (range_with_len 0 n)
map-same f f' n same =
    same_lists (map f' (range_with_len 0 n)) (map f (range_with_len 0 n))
    (length-map-range_with_len f' 0 n ∙ sym (length-map-range_with_len f 0 n))
    (λ k d l. let within : k < n = omega (arith, length-map-range_with_len f' 0 n) in
    get_or-map-range_with_len f' 0 n k k d within (omega arith) ∙ same k within ∙ sym
    (get_or-map-range_with_len f 0 n k k d within (omega arith)))

-- no number has a vacant key
not_vacant : {slab : Slab Numbered} {index : Index} {accepted limit : ℕ} → IsKept slab index accepted limit → (key : ℕ)
    → get slab key ≡ None → (m k : ℕ) → key_of index m ≡ Some k → k ≢ key
not_vacant {slab} kept key vacant m k at same =
    let there = some_and (get slab k) (λ x. x.number ≡ m) (kept.leads m k at) in
    let none : get slab k ≡ None = subst (λ (j : ℕ). get slab j ≡ None) (sym same) vacant in
    cc

-- a number with a key was accepted, and its operation is the one at that key
had_by : {slab : Slab Numbered} {index : Index} {accepted limit : ℕ} (n key : ℕ) (x : Numbered)
    → IsKept slab index accepted limit → key_of index n ≡ Some key → get slab key ≡ Some x
    → (n < accepted) × (get_or (kept_operations slab index accepted) n None ≡ Some x.operation)
had_by {slab} {index} {accepted} n key x kept at is = (
  by_lt n accepted (λ l. l) (λ g. absurd (none-some key (sym (kept.below n g) ∙ at))),
  kept-at n kept ∙ ap (operation_in slab) at ∙ ap (option_map (λ (y : Numbered). y.operation)) is,
)

-- the key of a number leads to an operation
pub kept-has : {slab : Slab Numbered} {index : Index} {accepted limit : ℕ} (n key : ℕ)
    → IsKept slab index accepted limit → key_of index n ≡ Some key → IsSome (get slab key)
kept-has {slab} n key kept at =
    let there = some_and (get slab key) (λ x. x.number ≡ n) (kept.leads n key at) in
    subst (λ (o : Option Numbered). IsSome o) (sym there.1) (search rules)

-- the index leads to operations with its numbers, where one number's key and one key's slot change
leads-on : {slab slab' : Slab Numbered} {index index' : Index} {accepted limit : ℕ} (n key : ℕ) (now : Option ℕ)
    (slot : Option Numbered)
    → IsKept slab index accepted limit → Updates slab slab' key slot → ChangesKey index index' n now
    → ((k : ℕ) → now ≡ Some k → IsSomeAnd (get slab' k) (λ x. x.number ≡ n))
    → ((m k : ℕ) → m ≢ n → key_of index m ≡ Some k → k ≢ key) → (m k : ℕ) → key_of index' m ≡ Some k
    → IsSomeAnd (get slab' k) (λ x. x.number ≡ m)
leads-on {slab} {slab'} {index} {index'} n key now slot kept updates change own elsewhere m k at =
    by_test (eqb m n)
    (λ t. let same = eqb-true m n t in
    rw same (own k (sym change.changed ∙ ap (key_of index') (sym same) ∙ at)))
    (λ e. let differ = eqb-false m n e in
    let was : key_of index m ≡ Some k = sym (change.others m differ) ∙ at in
    rw (updates.others k (elsewhere m k differ was)) (kept.leads m k was))

-- a slab's new slot is the operation with a number
own-slot : {slab slab' : Slab Numbered} {n key k : ℕ} {operation : Operation}
    → Updates slab slab' key (Some (record { number = n; operation = operation })) → Some key ≡ Some k
    → IsSomeAnd (get slab' k) (λ x. x.number ≡ n)
own-slot {slab} {slab'} {n} {key} {k} updates is = rw (← same_Some key k is, updates.changed) refl

-- as many operations are in flight after one was put in another's place, or ended
counted-set : {slab : Slab Numbered} {index : Index} {accepted limit : ℕ} (n key : ℕ) (slot : Option Operation)
    → IsKept slab index accepted limit → key_of index n ≡ Some key
    → count_by is_some (set (kept_operations slab index accepted) n slot) + 1
    ≡ slab_len slab + cond (is_some slot) 1 0
counted-set {slab} {index} {accepted} n key slot kept at =
    let there = some_and (get slab key) (λ x. x.number ≡ n) (kept.leads n key at) in
    let had = had_by n key there.0 kept at there.1 in
    let l = had.0 in
    let counts = rw had.1 at
    (count_by-set is_some (kept_operations slab index accepted) n slot None
    (omega (arith, length-kept slab index accepted))) in
    omega (arith, counts, kept.counted)

-- one more operation is accepted
module _ {slab slab' : Slab Numbered} {index index' : Index} {accepted limit : ℕ} where
  accepted-others : (key : ℕ) (slot : Option Numbered) → IsKept slab index accepted limit → get slab key ≡ None
      → Updates slab slab' key slot → ChangesKey index index' accepted (Some key) → (m : ℕ) → m ≢ accepted
      → operation_of slab' index' m ≡ operation_of slab index m
  accepted-others key slot kept vacant updates change m differ =
      rw (change.others m differ)
      (other-stays slab slab' key (key_of index m) updates.others (λ k at. not_vacant kept key vacant m k at))

  pub kept-accepts : (key : ℕ) (operation : Operation) → IsKept slab index accepted limit → get slab key ≡ None
      → Updates slab slab' key (Some (record { number = accepted; operation = operation }))
      → ChangesKey index index' accepted (Some key)
      → kept_operations slab' index' (accepted + 1) ≡ kept_operations slab index accepted ++ Some operation ∷ []
  kept-accepts key operation kept vacant updates change =
      let f = operation_of slab index in
      let f' = operation_of slab' index' in
      map-range_with_len_more f' 0 accepted accepted (omega arith)
      ∙ ap (λ (xs : List (Option Operation)). xs ++ f' accepted ∷ [])
      (map-same f f' accepted (λ m l. accepted-others key _ kept vacant updates change m (omega arith)))
      ∙ ap (λ (x : Option Operation). kept_operations slab index accepted ++ x ∷ [])
      (ap (operation_in slab') change.changed ∙ ap (option_map (λ (y : Numbered). y.operation)) updates.changed)

  pub is_kept-accepts : (key : ℕ) (operation : Operation) → IsKept slab index accepted limit → get slab key ≡ None
      → Updates slab slab' key (Some (record { number = accepted; operation = operation }))
      → ChangesKey index index' accepted (Some key) → slab_len slab' ≡ slab_len slab + 1
      → entries index' ≡ entries index + 1 → slab'.capacity ≡ slab.capacity → index'.limit ≡ index.limit
      → slab_len slab < limit → accepted < 2 ^ 62 → IsKept slab' index' (accepted + 1) limit
  is_kept-accepts key operation kept vacant updates change len indexed capacity same_limit room few =
      let was_counted = kept.counted in
      let was_indexed = kept.indexed in
      let had_room = kept.room in
      record {
        leads = leads-on accepted key (Some key) _ kept updates change (λ k is. own-slot updates is)
            (λ m k differ at. not_vacant kept key vacant m k at);
        below = λ n above. change.others n (omega arith) ∙ kept.below n (omega arith);
        counted =
            ap (count_by is_some) (kept-accepts key operation kept vacant updates change)
            ∙ sum_by_push (λ x. cond (is_some x) 1 0) (kept_operations slab index accepted) (Some operation)
            ∙ (omega (arith, was_counted, len));
        indexed = omega (arith, was_indexed, len, indexed);
        within = omega arith;
        room = omega (arith, had_room, capacity);
        index_limit = same_limit ∙ kept.index_limit;
        few_accepted = omega arith;
        few_limit = kept.few_limit;
      }

-- an operation in flight is put in another's place
module _ {slab slab' : Slab Numbered} {index : Index} {accepted limit : ℕ} where
  pub kept-replaces : (n key : ℕ) (operation : Operation) → IsKept slab index accepted limit → key_of index n ≡ Some key
      → Updates slab slab' key (Some (record { number = n; operation = operation }))
      → kept_operations slab' index accepted ≡ set (kept_operations slab index accepted) n (Some operation)
  kept-replaces n key operation kept at updates =
      kept-set slab slab' index index accepted n (Some operation)
      (rw at (rw updates.changed refl))
      (λ m differ. other-stays slab slab' key (key_of index m) updates.others
      (λ k at'. apart n m key kept at differ k at'))

  pub is_kept-replaces : (n key : ℕ) (operation : Operation) → IsKept slab index accepted limit
      → key_of index n ≡ Some key → Updates slab slab' key (Some (record { number = n; operation = operation }))
      → slab_len slab' ≡ slab_len slab → slab'.capacity ≡ slab.capacity → IsKept slab' index accepted limit
  is_kept-replaces n key operation kept at updates len capacity =
      let was_counted = kept.counted in
      let was_indexed = kept.indexed in
      let was_within = kept.within in
      let had_room = kept.room in
      record {
        leads = leads-on {index' = index} n key (Some key) _ kept updates
            (record { changed = at; others = λ m differ. refl })
            (λ k is. own-slot updates is) (λ m k differ at'. apart n m key kept at differ k at');
        below = kept.below;
        counted = ap (count_by is_some) (kept-replaces n key operation kept at updates)
            ∙ omega (arith, counted-set n key (Some operation) kept at, len);
        indexed = omega arith;
        within = omega arith;
        room = omega arith;
        index_limit = kept.index_limit;
        few_accepted = kept.few_accepted;
        few_limit = kept.few_limit;
      }

-- an operation in flight ends
module _ {slab slab' : Slab Numbered} {index index' : Index} {accepted limit : ℕ} where
  pub kept-ends : (n key : ℕ) → IsKept slab index accepted limit → key_of index n ≡ Some key
      → Updates slab slab' key None → ChangesKey index index' n None
      → kept_operations slab' index' accepted ≡ set (kept_operations slab index accepted) n None
  kept-ends n key kept at updates change =
      kept-set slab slab' index index' accepted n None
      (rw change.changed refl)
      (λ m differ. rw (change.others m differ)
      (other-stays slab slab' key (key_of index m) updates.others (λ k at'. apart n m key kept at differ k at')))

  pub is_kept-ends : (n key : ℕ) → IsKept slab index accepted limit → key_of index n ≡ Some key
      → Updates slab slab' key None → ChangesKey index index' n None → slab_len slab' + 1 ≡ slab_len slab
      → entries index' + 1 ≡ entries index → slab'.capacity ≡ slab.capacity → index'.limit ≡ index.limit
      → IsKept slab' index' accepted limit
  is_kept-ends n key kept at updates change len indexed capacity same_limit =
      let was_counted = kept.counted in
      let was_indexed = kept.indexed in
      let was_within = kept.within in
      let had_room = kept.room in
      record {
        leads = leads-on n key None None kept updates change (λ k is. absurd (none-some k is))
            (λ m k differ at'. apart n m key kept at differ k at');
        below = λ m above.
            by_test (eqb m n)
            (λ t. let same = eqb-true m n t in ap (key_of index') same ∙ change.changed)
            (λ e. change.others m (eqb-false m n e) ∙ kept.below m above);
        counted = ap (count_by is_some) (kept-ends n key kept at updates change)
            ∙ omega (arith, counted-set n key None kept at, len);
        indexed = omega arith;
        within = omega arith;
        room = omega arith;
        index_limit = same_limit ∙ kept.index_limit;
        few_accepted = kept.few_accepted;
        few_limit = kept.few_limit;
      }

-- a write to a value of a slab
pub updates-with_value : (slab : Slab Numbered) (key : ℕ) (x : Numbered) → IsSome (get slab key)
    → Updates slab (with_value slab key x) key (Some x)
updates-with_value slab key x has =
    record {
      changed = get_or-set_same slab.slots key (Some x) None (some_within slab.slots key has);
      others = λ other differ. get_or-set_other slab.slots key other (Some x) None differ;
    }

pub slab_len-with_value : (slab : Slab Numbered) (key : ℕ) (x : Numbered) → IsSome (get slab key)
    → slab_len (with_value slab key x) ≡ slab_len slab
slab_len-with_value slab key x has =
    let counts = rw (is_some-true (get slab key) has) at
    (count_by-set is_some slab.slots key (Some x) None (some_within slab.slots key has)) in
    omega (arith, counts)
