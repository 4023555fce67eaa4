-- What a list has of each index after it was taken on at one index.
use Rattle.std.proofs.Common.{◌≡◌, ℕ, ◌<◌, ◌≤◌, ◌==◌, nat_lt, Bool, true, false, cond, not, if◌then◌else◌, Option, Some, None}
use Rattle.std.proofs.Common.{List, [], ◌∷◌, refl, ap, sym, ◌∙◌, subst, eqb-true, eq-eqb, arith}
use Rattle.std.specs.Prelude.{fold, option_map}
use Rattle.std.specs.List.{All, AllPairs}
use Rattle.std.specs.Option.{ForSome}
use Rattle.std.proofs.lemmas.Bool.{eqb-false, ltb-true, ltb-false}
use Rattle.std.proofs.lemmas.List.Elements.{All-cons, All-head, All-tail, All-weaker, All-filter, filter_passes}
use Rattle.std.proofs.lemmas.List.Kept.{AllPairs-cons, AllPairs-filter}
use Rattle.nio_history.specs.Lists.{ListEntry}
use Rattle.nio_steps.proofs.Lists.{pairs-head, pairs-tail, pairs-one, all-one}
use Rattle.nio_steps.specs.Lists.{listed_at}
use Rattle.nio_steps.specs.Looking.{without_index, enlisted}
use Rattle.nio_steps.specs.declared.looked.LookedKey.{LookedKey}

abbrev pub as_listed : LookedKey → ListEntry
as_listed e = record { serial = e.serial; channel = e.channel; interest = e.interest }

-- what a list has of index k, with one entry more
abbrev pub next : ℕ → Option ListEntry → LookedKey → Option ListEntry
next k found e = if e.index == k then Some (as_listed e) else found

abbrev pub listed_from : ℕ → Option ListEntry → List LookedKey → Option ListEntry
listed_from k found known = fold (λ o e. next k o e) found known

-- no entry has index k
abbrev pub HaveNot : ℕ → List LookedKey → Type 0
HaveNot k known = All (λ e. (e.index == k) ≡ false) known

pub none_listed : (k : ℕ) (found : Option ListEntry) (known : List LookedKey) → HaveNot k known
    → listed_from k found known ≡ found
none_listed k found [] none = refl
none_listed k found (e ∷ known) none =
    ap (λ (b : Bool). listed_from k (if b then Some (as_listed e) else found) known)
    (All-head (λ x. (x.index == k) ≡ false) e known none)
    ∙ none_listed k found known (All-tail (λ x. (x.index == k) ≡ false) e known none)

-- ---- an index comes off the list

pub without_has_not : (i : ℕ) (known : List LookedKey) → HaveNot i (without_index i known)
without_has_not i known =
    All-weaker (λ e. not (e.index == i) ≡ true) (λ e. (e.index == i) ≡ false) (λ e is. turned (e.index == i) is)
    (without_index i known) (filter_passes (λ e. not (e.index == i)) known)
  where
    turned : (b : Bool) → not b ≡ true → b ≡ false
    turned true is = absurd (cc is)
    turned false is = refl

without_elsewhere : (i k : ℕ) (found : Option ListEntry) (known : List LookedKey) → (i == k) ≡ false
    → listed_from k found (without_index i known) ≡ listed_from k found known
without_elsewhere i k found [] other = refl
without_elsewhere i k found (e ∷ known) other =
    by_test (e.index == i) refl (λ o. without_elsewhere i k o known other)
  where
    by_test : (b : Bool) → (e.index == i) ≡ b
        → ((o : Option ListEntry) → listed_from k o (without_index i known) ≡ listed_from k o known)
        → listed_from k found (cond (not b) (e ∷ without_index i known) (without_index i known))
        ≡ listed_from k (next k found e) known
    by_test true same later =
        let not_there : (e.index == k) ≡ false
        = subst (λ (n : ℕ). (n == k) ≡ false) (sym (eqb-true e.index i same)) other in
        later found
        ∙ ap (λ (b : Bool). listed_from k (if b then Some (as_listed e) else found) known) (sym not_there)
    by_test false not_same later = later (next k found e)

-- ---- a key comes on the list

enlisted_elsewhere : (e : LookedKey) (k : ℕ) (found : Option ListEntry) (known : List LookedKey)
    → (e.index == k) ≡ false → listed_from k found (enlisted e known) ≡ listed_from k found known
unfolding enlisted
enlisted_elsewhere e k found [] other = ap (λ (b : Bool). if b then Some (as_listed e) else found) other
enlisted_elsewhere e k found (x ∷ known) other =
    by_test (nat_lt x.index e.index) (λ o. enlisted_elsewhere e k o known other)
  where
    by_test : (b : Bool)
        → ((o : Option ListEntry) → listed_from k o (enlisted e known) ≡ listed_from k o known)
        → listed_from k found (if b then x ∷ enlisted e known else e ∷ x ∷ known)
        ≡ listed_from k (next k found x) known
    by_test true later = later (next k found x)
    by_test false later =
        ap (λ (b : Bool). listed_from k (if b then Some (as_listed e) else found) (x ∷ known)) other

enlisted_there : (e : LookedKey) (found : Option ListEntry) (known : List LookedKey) → HaveNot e.index known
    → listed_from e.index found (enlisted e known) ≡ Some (as_listed e)
unfolding enlisted
enlisted_there e found [] none =
    ap (λ (b : Bool). if b then Some (as_listed e) else found) (eq-eqb e.index e.index refl)
enlisted_there e found (x ∷ known) none =
    by_test (nat_lt x.index e.index)
    (λ o. enlisted_there e o known (All-tail (λ y. (y.index == e.index) ≡ false) x known none))
  where
    by_test : (b : Bool)
        → ((o : Option ListEntry) → listed_from e.index o (enlisted e known) ≡ Some (as_listed e))
        → listed_from e.index found (if b then x ∷ enlisted e known else e ∷ x ∷ known) ≡ Some (as_listed e)
    by_test true later = later (next e.index found x)
    by_test false later =
        ap (λ (b : Bool). listed_from e.index (if b then Some (as_listed e) else found) (x ∷ known))
        (eq-eqb e.index e.index refl)
        ∙ none_listed e.index (Some (as_listed e)) (x ∷ known) none

pub enlisted_all : (P : LookedKey → Type 0) (e : LookedKey) (known : List LookedKey) → P e → All P known
    → All P (enlisted e known)
unfolding enlisted
enlisted_all P e [] fits each = all-one P e fits
enlisted_all P e (x ∷ known) fits each =
    by_test (nat_lt x.index e.index) (enlisted_all P e known fits (All-tail P x known each))
  where
    by_test : (b : Bool) → All P (enlisted e known) → All P (if b then x ∷ enlisted e known else e ∷ x ∷ known)
    by_test true later = All-cons P x (enlisted e known) (All-head P x known each) later
    by_test false later = All-cons P e (x ∷ known) fits each

-- the indexes of a list rise
abbrev pub Rise : LookedKey → LookedKey → Type 0
Rise x y = x.index < y.index

pub strictly : (m n : ℕ) → m ≤ n → (n ≡ m → ⊥) → m < n
strictly m n within apart = by_test (nat_lt m n) refl
  where
    by_test : (b : Bool) → nat_lt m n ≡ b → m < n
    by_test true is = ltb-true m n is
    by_test false is =
        let same : n ≡ m = omega (arith, within, ltb-false m n is) in
        absurd (apart same)

enlisted_rises : (e : LookedKey) (known : List LookedKey) → AllPairs Rise known → HaveNot e.index known
    → AllPairs Rise (enlisted e known)
unfolding enlisted
enlisted_rises e [] rise none = pairs-one Rise e
enlisted_rises e (x ∷ known) rise none =
    by_test (nat_lt x.index e.index) refl
    (enlisted_rises e known (pairs-tail Rise x known rise)
    (All-tail (λ y. (y.index == e.index) ≡ false) x known none))
  where
    by_test : (b : Bool) → nat_lt x.index e.index ≡ b → AllPairs Rise (enlisted e known)
        → AllPairs Rise (if b then x ∷ enlisted e known else e ∷ x ∷ known)
    by_test true is later =
        AllPairs-cons Rise x (enlisted e known)
        (enlisted_all (Rise x) e known (ltb-true x.index e.index is) (pairs-head Rise x known rise)) later
    by_test false is later =
        let high = ltb-false x.index e.index is in
        let apart : x.index ≡ e.index → ⊥
        = eqb-false x.index e.index (All-head (λ y. (y.index == e.index) ≡ false) x known none) in
        let below = strictly e.index x.index high apart in
        AllPairs-cons Rise e (x ∷ known)
        (All-cons (Rise e) x known below
        (All-weaker (Rise x) (Rise e) (λ y further. omega (arith, below, further)) known (pairs-head Rise x known rise)))
        rise

-- ---- a list that is taken on at an index

-- what a selection with the list leaves of it after it looked at index i, and found this key valid, or none
abbrev pub relisted : ℕ → Option LookedKey → List LookedKey → List LookedKey
relisted i None known = without_index i known
relisted i (Some e) known = enlisted e (without_index i known)

pub relisted_there : (i : ℕ) (now : Option LookedKey) (known : List LookedKey) → ForSome now (λ e. e.index ≡ i)
    → listed_at (relisted i now known) i ≡ option_map as_listed now
relisted_there i None known at = none_listed i None (without_index i known) (without_has_not i known)
relisted_there i (Some e) known at =
    let same : e.index ≡ i = at e refl in
    ap (λ (k : ℕ). listed_at (enlisted e (without_index i known)) k) (sym same)
    ∙ enlisted_there e None (without_index i known)
    (subst (λ (k : ℕ). HaveNot k (without_index i known)) (sym same) (without_has_not i known))

pub relisted_elsewhere : (i k : ℕ) (now : Option LookedKey) (known : List LookedKey)
    → ForSome now (λ e. e.index ≡ i) → (i == k) ≡ false → listed_at (relisted i now known) k ≡ listed_at known k
relisted_elsewhere i k None known at other = without_elsewhere i k None known other
relisted_elsewhere i k (Some e) known at other =
    enlisted_elsewhere e k None (without_index i known)
    (subst (λ (n : ℕ). (n == k) ≡ false) (sym (at e refl)) other)
    ∙ without_elsewhere i k None known other

pub relisted_rises : (i : ℕ) (now : Option LookedKey) (known : List LookedKey) → ForSome now (λ e. e.index ≡ i)
    → AllPairs Rise known → AllPairs Rise (relisted i now known)
relisted_rises i None known at rise = AllPairs-filter Rise (λ e. not (e.index == i)) known rise
relisted_rises i (Some e) known at rise =
    enlisted_rises e (without_index i known) (AllPairs-filter Rise (λ x. not (x.index == i)) known rise)
    (subst (λ (k : ℕ). HaveNot k (without_index i known)) (sym (at e refl)) (without_has_not i known))

pub relisted_all : (P : LookedKey → Type 0) (i : ℕ) (now : Option LookedKey) (known : List LookedKey)
    → ForSome now P → All P known → All P (relisted i now known)
relisted_all P i None known fits each = All-filter (λ e. not (e.index == i)) P known each
relisted_all P i (Some e) known fits each =
    enlisted_all P e (without_index i known) (fits e refl) (All-filter (λ x. not (x.index == i)) P known each)
