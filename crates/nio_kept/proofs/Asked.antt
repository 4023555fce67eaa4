-- Which key a list has of an index.
use Rattle.std.proofs.Common.{◌≡◌, ℕ, zero, suc, ◌+◌, ◌<◌, ◌≤◌, ◌==◌, nat_lt, Bool, true, false, cond, ◌⊎◌, inl, inr, if◌then◌else◌}
use Rattle.std.proofs.Common.{Option, Some, None, List, [], ◌∷◌, ◌++◌, length, refl, ap, sym, ◌∙◌, subst, eqb-true, eq-eqb, ne_eqb, arith}
use Rattle.std.specs.Prelude.{IsFalse, get_or, option_map, option_to_list}
use Rattle.std.specs.List.{All, AllPairs, Contains, filter}
use Rattle.std.proofs.lemmas.Bool.{cases_lt, lt-ltb, ltb-true}
use Rattle.std.proofs.lemmas.List.{get_or_default}
use Rattle.std.proofs.lemmas.List.Elements.{All-weaker, All-contains, filter_passes, Contains-append_cases, Contains-push_cases}
use Rattle.std.proofs.lemmas.List.Sums.{fold-append}
use Rattle.nio_history.specs.Lists.{ListEntry}
use Rattle.nio_steps.proofs.Lists.{contains-none, parted, pairs-after}
use Rattle.nio_steps.proofs.Relisted.{as_listed, listed_from, next, none_listed, Rise}
use Rattle.nio_steps.specs.Lists.{listed_at}
use Rattle.nio_steps.specs.declared.looked.LookedKey.{LookedKey}
use Rattle.nio_select.specs.Asked.{Changes, has_changed, key_at, key_with, keys_to, IsRising}
use Rattle.nio_kept.specs.News.{AreApart}

-- ---- elements

pub contains_filter : {X : Type 0} (p : X → Bool) (xs : List X) (x : X) → Contains xs x → p x ≡ true
    → Contains (filter p xs) x
contains_filter {X = X} p xs x there passes = by_place xs there.0 there.1 there.2
  where
    by_place : (ys : List X) (k : ℕ) → k < length ys → get_or ys k x ≡ x → Contains (filter p ys) x
    by_place [] k within is = absurd (omega arith)
    by_place (y ∷ ys) zero within is =
        subst (λ (b : Bool). Contains (cond b (y ∷ filter p ys) (filter p ys)) x) (sym (ap p is ∙ passes))
        (0, omega arith, is)
    by_place (y ∷ ys) (suc k) within is = further (p y) (by_place ys k (omega arith) is)
      where
        further : (b : Bool) → Contains (filter p ys) x → Contains (cond b (y ∷ filter p ys) (filter p ys)) x
        further true later = (suc later.0, omega (arith, later.1), later.2)
        further false later = later

-- ---- the key of an index

-- where the list up to the next index has at most this key more, the index has no other
pub only_one : (keys : List LookedKey) (i : ℕ) (found : Option LookedKey) (key : LookedKey)
    → keys_to (i + 1) keys ≡ keys_to i keys ++ option_to_list found → Contains keys key → key.index ≡ i
    → found ≡ Some key
only_one keys i found key alone there at = by_part (Contains-append_cases (keys_to i keys) (option_to_list found) key among)
  where
    among : Contains (keys_to i keys ++ option_to_list found) key
    among =
        subst (λ (xs : List LookedKey). Contains xs key) alone
        (contains_filter (λ (e : LookedKey). nat_lt e.index (i + 1)) keys key there
        (lt-ltb key.index (i + 1) (omega (arith, at))))

    by_found : (o : Option LookedKey) → Contains (option_to_list o) key → o ≡ Some key
    by_found None here = absurd (contains-none key here)
    by_found (Some e) here = by_last (Contains-push_cases [] e key here)
      where
        by_last : Contains [] key ⊎ (e ≡ key) → Some e ≡ Some key
        by_last (inl none) = absurd (contains-none key none)
        by_last (inr same) = ap (λ (x : LookedKey). Some x) same

    by_part : Contains (keys_to i keys) key ⊎ Contains (option_to_list found) key → found ≡ Some key
    by_part (inl before) =
        let low = ltb-true key.index i (All-contains (λ (e : LookedKey). nat_lt e.index i ≡ true) (keys_to i keys) key
        (filter_passes (λ (e : LookedKey). nat_lt e.index i) keys) before) in
        absurd (omega (arith, low, at))
    by_part (inr here) = by_found found here

-- a list that rises has a key at its index
pub listed_there : (keys : List LookedKey) (key : LookedKey) → IsRising keys → Contains keys key
    → listed_at keys key.index ≡ Some (as_listed key)
listed_there keys key rise there =
    let at = parted keys key there in
    let later : All (Rise key) at.later = pairs-after Rise at.past key at.later
    (subst (λ (xs : List LookedKey). AllPairs Rise xs) at.parts rise) in
    ap (λ (xs : List LookedKey). listed_at xs key.index) at.parts
    ∙ (fold-append (next key.index) None at.past (key ∷ at.later)
    ∙ (ap (λ (b : Bool). listed_from key.index
    (if b then Some (as_listed key) else listed_from key.index None at.past) at.later)
    (eq-eqb key.index key.index refl)
    ∙ none_listed key.index (Some (as_listed key)) at.later
    (All-weaker (Rise key) (λ e. (e.index == key.index) ≡ false)
    (λ e above. ne_eqb e.index key.index (λ same. omega (arith, above, same))) at.later later)))

pub key_there : (keys : List LookedKey) (key : LookedKey) → IsRising keys → Contains keys key
    → key_at key.index keys ≡ Some key
key_there keys key rise there = ap (option_map (key_with key.index)) (listed_there keys key rise there)

-- what a list has of an index stands there
listed_in : (i : ℕ) (e : ListEntry) (found : Option ListEntry) (keys : List LookedKey)
    → listed_from i found keys ≡ Some e → (found ≡ Some e) ⊎ Contains keys (key_with i e)
listed_in i e found [] is = inl is
listed_in i e found (k ∷ later) is = by_test (k.index == i) refl (listed_in i e (next i found k) later is)
  where
    further : Contains later (key_with i e) → Contains (k ∷ later) (key_with i e)
    further there = (suc there.0, omega (arith, there.1), there.2)

    here : k.index ≡ i → Some (as_listed k) ≡ Some e → Contains (k ∷ later) (key_with i e)
    here at same =
        let entry : as_listed k ≡ e = cc same in
        (0, omega arith, subst (λ (n : ℕ). k ≡ key_with n e) at (ap (key_with k.index) entry))

    by_test : (b : Bool) → (k.index == i) ≡ b → (next i found k ≡ Some e) ⊎ Contains later (key_with i e)
        → (found ≡ Some e) ⊎ Contains (k ∷ later) (key_with i e)
    by_test b at (inr there) = inr (further there)
    by_test true at (inl same) =
        inr (here (eqb-true k.index i at)
        (sym (ap (λ (b : Bool). if b then Some (as_listed k) else found) at) ∙ same))
    by_test false at (inl same) =
        inl (sym (ap (λ (b : Bool). if b then Some (as_listed k) else found) at) ∙ same)

pub entry_in : (i : ℕ) (e : ListEntry) (keys : List LookedKey) → listed_at keys i ≡ Some e
    → Contains keys (key_with i e)
entry_in i e keys is = by_part (listed_in i e None keys is)
  where
    by_part : (None ≡ Some e) ⊎ Contains keys (key_with i e) → Contains keys (key_with i e)
    by_part (inl none) = absurd (cc none)
    by_part (inr there) = there

pub key_in : (i : ℕ) (key : LookedKey) (keys : List LookedKey) → key_at i keys ≡ Some key → Contains keys key × (key.index ≡ i)
key_in i key keys is = by_entry (listed_at keys i) refl is
  where
    by_entry : (o : Option ListEntry) → listed_at keys i ≡ o → option_map (key_with i) o ≡ Some key
        → Contains keys key × (key.index ≡ i)
    by_entry None found same = absurd (cc same)
    by_entry (Some e) found same =
        let this : key_with i e ≡ key = cc same in (
          subst (λ (k : LookedKey). Contains keys k) this (entry_in i e keys found),
          sym (ap (λ (k : LookedKey). k.index) this),
        )

-- a key whose index isn't among those that changed was there before
pub unchanged : (before now : List LookedKey) (changed : List ℕ) (key : LookedKey) → IsRising now
    → Changes before now changed → IsFalse (has_changed changed key.index) → Contains now key → Contains before key
unchanged before now changed key rise changes other there =
    entry_in key.index (as_listed key) before
    (sym (changes.others key.index other) ∙ listed_there now key rise there)

-- two keys of a list without a channel twice are one where their channel is one
pub one_channel : (keys : List LookedKey) (x y : LookedKey) → AreApart keys → Contains keys x → Contains keys y
    → x.channel ≡ y.channel → x ≡ y
one_channel keys x y apart at_x at_y same = by_order (cases_lt at_x.0 at_y.0) (cases_lt at_y.0 at_x.0)
  where
    y_for_x : get_or keys at_y.0 x ≡ y
    y_for_x = get_or_default keys at_y.0 x y at_y.1 ∙ at_y.2

    x_for_y : get_or keys at_x.0 y ≡ x
    x_for_y = get_or_default keys at_x.0 y x at_x.1 ∙ at_x.2

    by_order : (at_x.0 < at_y.0) ⊎ (at_y.0 ≤ at_x.0) → (at_y.0 < at_x.0) ⊎ (at_x.0 ≤ at_y.0) → x ≡ y
    by_order (inl less) rest =
        absurd (apart at_x.0 at_y.0 x less at_y.1
        (ap (λ (k : LookedKey). k.channel) at_x.2 ∙ (same ∙ sym (ap (λ (k : LookedKey). k.channel) y_for_x))))
    by_order rest (inl less) =
        absurd (apart at_y.0 at_x.0 y less at_x.1
        (ap (λ (k : LookedKey). k.channel) at_y.2 ∙ (sym same ∙ sym (ap (λ (k : LookedKey). k.channel) x_for_y))))
    by_order (inr above) (inr below) =
        let at : at_x.0 ≡ at_y.0 = omega (arith, above, below) in
        sym at_x.2 ∙ (ap (λ (n : ℕ). get_or keys n x) at ∙ y_for_x)
