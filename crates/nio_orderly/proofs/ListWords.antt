-- Lists of acts, in parts: where an act stands in them, and what each word over them says of both parts.
use Rattle.std.proofs.Common.{◌≡◌, ℕ, Bool, true, false, cond, not, ◌&&◌, ◌||◌, if◌then◌else◌, Option, Some, None, List}
use Rattle.std.proofs.Common.{[], ◌∷◌, ◌++◌, refl, ap, sym, ◌∙◌, append_assoc, arith, ◌⊎◌, inl, inr}
use Rattle.std.specs.Prelude.{fold}
use Rattle.std.specs.Option.{option_or}
use Rattle.std.proofs.lemmas.Bool.{or_cases, or_from, or_left, or_parts, or_right}
use Rattle.std.proofs.lemmas.List.{append-nil}
use Rattle.std.proofs.lemmas.List.Sums.{fold-append, sum_by-cons}
use Rattle.nio_history.proofs.OneMore.{has_none-append}
use Rattle.nio_history.specs.OwnEvents.{has, count, last, since_from, since_first, releases, OwnClaim, own_claim}
use Rattle.nio_history.specs.OwnEvents.{claim_changed, or_none}
use Rattle.nio_history.specs.declared.act.Act.{Act}
use Rattle.nio_orderly.proofs.ActLists.{has-append}
use Rattle.nio_orderly.specs.Careful.{until_released, finds_open, claims, leaves_below, is_prepared}
use Rattle.nio_orderly.specs.Owed.{Duty, owes}
use Rattle.nio_steps.proofs.SelectionLaws.{none_of-append}

-- ---- where an element stands in two lists

pub record InFirst {X : Type 0} (first second before : List X) (e : X) (later : List X) : Type 0 where
  pub rest : List X
  pub parts : first ≡ before ++ e ∷ rest
  pub later_is : later ≡ rest ++ second

pub record InSecond {X : Type 0} (first second before : List X) (e : X) (later : List X) : Type 0 where
  pub start : List X
  pub parts : second ≡ start ++ e ∷ later
  pub before_is : before ≡ first ++ start

pub split_at : {X : Type 0} (first second before : List X) (e : X) (later : List X)
    → first ++ second ≡ before ++ e ∷ later
    → InFirst first second before e later ⊎ InSecond first second before e later
split_at [] second before e later same = inr (record { start = before; parts = same; before_is = refl })
split_at (x ∷ first) second [] e later same =
    inl (record { rest = first; parts = ap (λ y. y ∷ first) (cc same); later_is = sym (cc same) })
split_at {X = X} (x ∷ first) second (y ∷ before) e later same = by_case (split_at first second before e later (cc same))
  where
    head : x ≡ y
    head = cc same

    by_case : InFirst first second before e later ⊎ InSecond first second before e later
        → InFirst (x ∷ first) second (y ∷ before) e later ⊎ InSecond (x ∷ first) second (y ∷ before) e later
    by_case (inl there) =
        inl (record {
          rest = there.rest;
          parts = ap (λ (z : X). z ∷ first) head ∙ ap (λ zs. y ∷ zs) there.parts;
          later_is =
              there.later_is;
        })
    by_case (inr there) =
        inr (record {
          start = there.start;
          parts = there.parts;
          before_is =
              ap (λ (z : X). z ∷ before) (sym head) ∙ ap (λ zs. x ∷ zs) there.before_is;
        })

-- ---- whether there is such an act

pub has-first : (p : Act → Bool) (xs ys : List Act) → has p xs ≡ true → has p (xs ++ ys) ≡ true
has-first p xs ys there = has-append p xs ys ∙ or_left (has p xs) (has p ys) there

pub has-second : (p : Act → Bool) (xs ys : List Act) → has p ys ≡ true → has p (xs ++ ys) ≡ true
has-second p xs ys there = has-append p xs ys ∙ or_right (has p xs) (has p ys) there

pub has-neither : (p : Act → Bool) (xs ys : List Act) → has p xs ≡ false → has p ys ≡ false → has p (xs ++ ys) ≡ false
has-neither p xs ys first second = none_of-append p xs ys first second

pub has-not_first : (p : Act → Bool) (xs ys : List Act) → has p (xs ++ ys) ≡ false → has p xs ≡ false
has-not_first p xs ys none = (has_none-append p xs ys none).0

-- an act that stands there is such a one, or is none where there is none
pub has-at : (p : Act → Bool) (xs : List Act) (act : Act) (ys : List Act) → p act ≡ true → has p (xs ++ act ∷ ys) ≡ true
has-at p xs act ys such = has-second p xs (act ∷ ys) (or_left (p act) (has p ys) such)

pub no_such_act : (p : Act → Bool) (xs : List Act) (act : Act) (ys : List Act) → has p (xs ++ act ∷ ys) ≡ false
    → p act ≡ true → ⊥
no_such_act p xs act ys none such = let clash : true ≡ false = sym (has-at p xs act ys such) ∙ none in cc

-- the first act is this one, or the other is further
pub first_or_later : {X : Type 0} (x : X) (xs before : List X) (e : X) (later : List X) → x ∷ xs ≡ before ++ e ∷ later
    → ((x ≡ e) × (xs ≡ later)) ⊎ ((further : List X) × (before ≡ x ∷ further) × (xs ≡ further ++ e ∷ later))
first_or_later x xs [] e later same = inl (cc same, cc same)
first_or_later {X = X} x xs (y ∷ before) e later same = let head : x ≡ y =
    cc same in inr (before, ap (λ (z : X). z ∷ before) (sym head), cc same)

-- there is one such act
pub one_such : (p : Act → Bool) (before later xs ys : List Act) (x e : Act) → has p before ≡ false → has p later ≡ false
    → p e ≡ true → before ++ x ∷ later ≡ xs ++ e ∷ ys
    → (before ≡ xs) × (x ≡ e) × (later ≡ ys)
one_such p before later xs ys x e none none' such same = by_part (split_at before (x ∷ later) xs e ys same)
  where
    by_place : (start : List Act) → xs ≡ before ++ start
        → ((x ≡ e) × (later ≡ ys)) ⊎ ((further : List Act) × (start ≡ x ∷ further) × (later ≡ further ++ e ∷ ys))
        → start ++ e ∷ ys ≡ x ∷ later
        → (before ≡ xs) × (x ≡ e) × (later ≡ ys)
    by_place [] is (inl here) parts = (sym (append-nil before) ∙ sym is, here.0, here.1)
    by_place (y ∷ start) is (inl here) parts =
        let rest : start ++ e ∷ ys ≡ later = cc parts in
        absurd (no_such_act p start e ys (ap (has p) rest ∙ none') such)
    by_place start is (inr there) parts =
        absurd (no_such_act p there.0 e ys (ap (has p) (sym there.2) ∙ none') such)

    by_part : InFirst before (x ∷ later) xs e ys ⊎ InSecond before (x ∷ later) xs e ys
        → (before ≡ xs) × (x ≡ e) × (later ≡ ys)
    by_part (inl there) = absurd (no_such_act p xs e there.rest (ap (has p) (sym there.parts) ∙ none) such)
    by_part (inr there) =
        by_place there.start there.before_is (first_or_later x later there.start e ys there.parts) (sym there.parts)

either_part : (p : Act → Bool) (xs ys : List Act) → has p (xs ++ ys) ≡ true → (has p xs ≡ true) ⊎ (has p ys ≡ true)
either_part p xs ys there = or_cases (has p xs) (has p ys) (sym (has-append p xs ys) ∙ there)

-- ---- how many such acts there are

pub count-one : (p : Act → Bool) (act : Act) → p act ≡ true → count p (act ∷ []) ≡ 1
count-one p act such =
    let here : cond {A = ℕ} (p act) 1 0 ≡ 1 = ap (λ b. cond b 1 0) such in
    omega (arith, sum_by-cons (λ y. cond {A = ℕ} (p y) 1 0) act [], here)

-- ---- spans

-- a span that goes on over these acts
abbrev span : (Act → Bool) → List Act → List Act → List Act
span opens so_far acts = fold (λ since act. if opens act then [] else since ++ act ∷ []) so_far acts

-- where one of the acts opens it, what was before doesn't matter; else it goes on
span-opened : (opens : Act → Bool) (before so_far acts : List Act) → has opens acts ≡ true
    → span opens before acts ≡ span opens so_far acts
span-opened opens before so_far [] there = absurd cc
span-opened opens before so_far (x ∷ acts) there =
    by_test (opens x) refl (λ before' so_far' further. span-opened opens before' so_far' acts further)
  where
    by_test : (b : Bool) → opens x ≡ b
        → ((before' so_far' : List Act) → has opens acts ≡ true → span opens before' acts ≡ span opens so_far' acts)
        → span opens (if opens x then [] else before ++ x ∷ []) acts
        ≡ span opens (if opens x then [] else so_far ++ x ∷ []) acts
    by_test true is later =
        ap (λ b. span opens (if b then [] else before ++ x ∷ []) acts) is
        ∙ sym (ap (λ b. span opens (if b then [] else so_far ++ x ∷ []) acts) is)
    by_test false is later =
        later (if opens x then [] else before ++ x ∷ []) (if opens x then [] else so_far ++ x ∷ [])
        (sym (ap (λ b. b || has opens acts) is) ∙ there)

pub since_from-opened : (opens : Act → Bool) (before acts : List Act) → has opens acts ≡ true
    → since_from opens (before ++ acts) ≡ since_from opens acts
since_from-opened opens before acts there =
    fold-append (λ since act. if opens act then [] else since ++ act ∷ []) [] before acts
    ∙ span-opened opens (since_from opens before) [] acts there

-- what is in the span is in it too where there are acts before
span-grows : (p opens : Act → Bool) (so_far wider acts : List Act) → (has p so_far ≡ true → has p wider ≡ true)
    → has p (span opens so_far acts) ≡ true → has p (span opens wider acts) ≡ true
span-grows p opens so_far wider [] grows there = grows there
span-grows p opens so_far wider (x ∷ acts) grows there =
    by_test (opens x) refl (λ so_far' wider' grows' there'. span-grows p opens so_far' wider' acts grows' there')
  where
    by_part : (has p so_far ≡ true) ⊎ (has p (x ∷ []) ≡ true) → has p (wider ++ x ∷ []) ≡ true
    by_part (inl before) = has-first p wider (x ∷ []) (grows before)
    by_part (inr here) = has-second p wider (x ∷ []) here

    by_test : (b : Bool) → opens x ≡ b
        → ((so_far' wider' : List Act) → (has p so_far' ≡ true → has p wider' ≡ true)
        → has p (span opens so_far' acts) ≡ true → has p (span opens wider' acts) ≡ true)
        → has p (span opens (if opens x then [] else wider ++ x ∷ []) acts) ≡ true
    by_test true is later =
        ap (λ b. has p (span opens (if b then [] else wider ++ x ∷ []) acts)) is
        ∙ (sym (ap (λ b. has p (span opens (if b then [] else so_far ++ x ∷ []) acts)) is) ∙ there)
    by_test false is later =
        ap (λ b. has p (span opens (if b then [] else wider ++ x ∷ []) acts)) is
        ∙ later (so_far ++ x ∷ []) (wider ++ x ∷ []) (λ in_span. by_part (either_part p so_far (x ∷ []) in_span))
        (sym (ap (λ b. has p (span opens (if b then [] else so_far ++ x ∷ []) acts)) is) ∙ there)

pub since_from-grows : (p opens : Act → Bool) (before acts : List Act) → has p (since_from opens acts) ≡ true
    → has p (since_from opens (before ++ acts)) ≡ true
since_from-grows p opens before acts there =
    ap (has p) (fold-append (λ since act. if opens act then [] else since ++ act ∷ []) [] before acts)
    ∙ span-grows p opens [] (since_from opens before) acts (λ none. absurd cc) there

-- what is done in the span was done
span-done : (p opens : Act → Bool) (so_far acts : List Act) → has p so_far ≡ false → has p acts ≡ false
    → has p (span opens so_far acts) ≡ false
span-done p opens so_far [] before none = before
span-done p opens so_far (x ∷ acts) before none =
    by_test (opens x) refl
    (λ so_far' before'. span-done p opens so_far' acts before' (or_parts (p x) (has p acts) none).1)
  where
    by_test : (b : Bool) → opens x ≡ b
        → ((so_far' : List Act) → has p so_far' ≡ false → has p (span opens so_far' acts) ≡ false)
        → has p (span opens (if opens x then [] else so_far ++ x ∷ []) acts) ≡ false
    by_test true is later = ap (λ b. has p (span opens (if b then [] else so_far ++ x ∷ []) acts)) is ∙ later [] refl
    by_test false is later =
        ap (λ b. has p (span opens (if b then [] else so_far ++ x ∷ []) acts)) is
        ∙ later (so_far ++ x ∷ [])
        (none_of-append p so_far (x ∷ []) before (ap (λ b. b || false) (or_parts (p x) (has p acts) none).0))

pub since_from-none : (p opens : Act → Bool) (acts : List Act) → has p acts ≡ false
    → has p (since_from opens acts) ≡ false
since_from-none p opens acts none = span-done p opens [] acts refl none

-- the acts since the first that opens a span are the last of all
pub record Ends {X : Type 0} (all end : List X) : Type 0 where
  pub before : List X
  pub parts : all ≡ before ++ end

pub since_first-parts : (opens : Act → Bool) (xs ys : List Act)
    → since_first opens (xs ++ ys) ≡ (if has opens xs then since_first opens xs ++ ys else since_first opens ys)
since_first-parts opens [] ys = refl
since_first-parts opens (x ∷ xs) ys = by_test (opens x) (since_first-parts opens xs ys)
  where
    by_test : (b : Bool)
        → since_first opens (xs ++ ys) ≡ (if has opens xs then since_first opens xs ++ ys else since_first opens ys)
        → (if b then xs ++ ys else since_first opens (xs ++ ys))
        ≡ (if b || has opens xs then (if b then xs else since_first opens xs) ++ ys else since_first opens ys)
    by_test true rest = refl
    by_test false rest = rest

pub since_first-ends : (opens : Act → Bool) (acts : List Act) → Ends acts (since_first opens acts)
since_first-ends opens [] = record { before = []; parts = refl }
since_first-ends opens (x ∷ acts) = by_test (opens x) (since_first-ends opens acts)
  where
    by_test : (b : Bool) → Ends acts (since_first opens acts)
        → Ends (x ∷ acts) (if b then acts else since_first opens acts)
    by_test true rest = record { before = x ∷ []; parts = refl }
    by_test false rest = record { before = x ∷ rest.before; parts = ap (λ ys. x ∷ ys) rest.parts }

-- ---- the words of careful histories

pub until_released-append : (c : ℕ) (xs ys : List Act)
    → until_released c (xs ++ ys) ≡ (if has (releases c) xs then until_released c xs else xs ++ until_released c ys)
until_released-append c [] ys = refl
until_released-append c (x ∷ xs) ys = by_test (releases c x) (until_released-append c xs ys)
  where
    by_more : (b : Bool)
        → x ∷ (if b then until_released c xs else xs ++ until_released c ys)
        ≡ (if b then x ∷ until_released c xs else x ∷ (xs ++ until_released c ys))
    by_more true = refl
    by_more false = refl

    by_test : (b : Bool)
        → until_released c (xs ++ ys) ≡ (if has (releases c) xs then until_released c xs else xs ++ until_released c ys)
        → (if b then [] else x ∷ until_released c (xs ++ ys))
        ≡ (if b || has (releases c) xs then (if b then [] else x ∷ until_released c xs)
        else x ∷ (xs ++ until_released c ys))
    by_test true rest = refl
    by_test false rest = ap (λ zs. x ∷ zs) rest ∙ by_more (has (releases c) xs)

pub until_released-done : (p : Act → Bool) (c : ℕ) (acts : List Act) → has p acts ≡ false
    → has p (until_released c acts) ≡ false
until_released-done p c [] none = refl
until_released-done p c (x ∷ acts) none =
    by_test (releases c x) (until_released-done p c acts (or_parts (p x) (has p acts) none).1)
  where
    by_test : (b : Bool) → has p (until_released c acts) ≡ false
        → has p (if b then [] else x ∷ until_released c acts) ≡ false
    by_test true rest = refl
    by_test false rest = or_from (p x) (has p (until_released c acts)) (or_parts (p x) (has p acts) none).0 rest

pub is_prepared-grows : (s i : ℕ) (before acts : List Act) → is_prepared s i acts ≡ true
    → is_prepared s i (before ++ acts) ≡ true
is_prepared-grows s i before acts there =
    ap (λ xs. has (finds_open s) (since_from (claims s i) xs)) (since_first-parts (leaves_below s i) before acts)
    ∙ by_test (has (leaves_below s i) before)
  where
    late : List Act
    late = since_first (leaves_below s i) acts

    ends : Ends acts late
    ends = since_first-ends (leaves_below s i) acts

    early : List Act
    early = since_first (leaves_below s i) before

    by_test : (b : Bool) → has (finds_open s) (since_from (claims s i) (if b then early ++ acts else late)) ≡ true
    by_test true =
        ap (λ xs. has (finds_open s) (since_from (claims s i) (early ++ xs))) ends.parts
        ∙ (ap (λ xs. has (finds_open s) (since_from (claims s i) xs)) (sym (append_assoc early ends.before late))
        ∙ since_from-grows (finds_open s) (claims s i) (early ++ ends.before) late there)
    by_test false = there

-- ---- what the last such act tells

from_first : {A : Type 0} (tells : Act → Option A) (acts : List Act) (before : Option A)
    → fold (λ told act. option_or (tells act) told) before acts ≡ option_or (last tells acts) before
from_first tells [] before = refl
from_first {A = A} tells (act ∷ acts) before =
    from_first tells acts (option_or (tells act) before)
    ∙ (sym (or_assoc (last tells acts) (tells act) before)
    ∙ ap (λ told. option_or told before)
    (ap (option_or (last tells acts)) (or_none' (tells act))
    ∙ sym (from_first tells acts (option_or (tells act) None))))
  where
    or_none' : (a : Option A) → a ≡ option_or a None
    or_none' (Some x) = refl
    or_none' None = refl

    or_assoc : (a b c : Option A) → option_or (option_or a b) c ≡ option_or a (option_or b c)
    or_assoc (Some x) b c = refl
    or_assoc None b c = refl

pub last-append : {A : Type 0} (tells : Act → Option A) (acts later : List Act)
    → last tells (acts ++ later) ≡ option_or (last tells later) (last tells acts)
last-append tells acts later =
    fold-append (λ told act. option_or (tells act) told) None acts later ∙ from_first tells later (last tells acts)

-- a claim is the same where there are acts before
pub own_claim-later : (s i : ℕ) (before acts : List Act) (claim : OwnClaim) → own_claim s i acts ≡ Some claim
    → own_claim s i (before ++ acts) ≡ Some claim
own_claim-later s i before acts claim has_it =
    ap or_none (last-append (claim_changed s i) before acts) ∙ by_last (last (claim_changed s i) acts) has_it
  where
    by_last : (x : Option (Option OwnClaim)) → or_none x ≡ Some claim
        → or_none (option_or x (last (claim_changed s i) before)) ≡ Some claim
    by_last None is = absurd (cc is)
    by_last (Some its) is = is

-- ---- debts

-- acts without a look before change nothing
pub owes-later : (duty : Duty) (xs ys : List Act) → has duty.looks xs ≡ false → owes duty (xs ++ ys) ≡ owes duty ys
owes-later duty [] ys none = refl
owes-later duty (x ∷ xs) ys none =
    ap (λ b. if b then duty.finds x && not (has duty.settles (xs ++ ys)) else owes duty (xs ++ ys))
    (or_parts (duty.looks x) (has duty.looks xs) none).0
    ∙ owes-later duty xs ys (or_parts (duty.looks x) (has duty.looks xs) none).1
