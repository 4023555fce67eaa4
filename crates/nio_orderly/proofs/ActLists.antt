-- Lists of acts: what one act more does to the words of careful histories and of debts.
use Rattle.std.proofs.Common.{◌≡◌, ℕ, ◌+◌, ◌≤◌, Bool, true, false, cond, ◌&&◌, ◌||◌, not, ◌⊎◌, inl, inr, if◌then◌else◌}
use Rattle.std.proofs.Common.{List, [], ◌∷◌, ◌++◌, refl, ap, sym, ◌∙◌, arith}
use Rattle.std.proofs.Math.Bool.{or-false}
use Rattle.std.proofs.lemmas.Bool.{or_cases}
use Rattle.std.proofs.lemmas.List.Folds.{list_any-append}
use Rattle.std.proofs.lemmas.List.Sums.{sum_by_push}
use Rattle.nio_history.proofs.Legal.{not_empty}
use Rattle.nio_history.proofs.OneMore.{has-more, since_from-more, since_first-none, since_first-more}
use Rattle.nio_history.specs.OwnEvents.{has, count, since_from, since_first, releases}
use Rattle.nio_history.specs.declared.act.Act.{Act}
use Rattle.nio_orderly.specs.Careful.{claims, leaves_below, finds_open, until_released, is_prepared}
use Rattle.nio_orderly.specs.Owed.{Duty, owes}
use Rattle.nio_steps.proofs.SelectionLaws.{count-cons}

-- ---- has, count

pub has-append : (p : Act → Bool) (xs ys : List Act) → has p (xs ++ ys) ≡ (has p xs || has p ys)
has-append p xs ys = list_any-append p xs ys

pub count-more : (p : Act → Bool) (own : List Act) (act : Act)
    → count p (own ++ act ∷ []) ≡ count p own + cond (p act) 1 0
count-more p own act = sum_by_push (λ x. cond (p x) 1 0) own act

-- where an act of a narrower sort was done, one at least was
pub has_counts : (p q : Act → Bool) → ((act : Act) → q act ≡ true → p act ≡ true) → (own : List Act) → has q own ≡ true
    → 1 ≤ count p own
has_counts p q wider [] had = absurd cc
has_counts p q wider (act ∷ own) had = by_first (q act) refl (has_counts p q wider own)
  where
    by_first : (b : Bool) → q act ≡ b → (has q own ≡ true → 1 ≤ count p own) → 1 ≤ count p (act ∷ own)
    by_first true first others =
        let one : ◌≡◌ {A = ℕ} (cond (p act) 1 0) 1 = ap (λ b. cond b 1 0) (wider act first) in
        omega (arith, count-cons p act own, one)
    by_first false first others =
        let rest = others (sym (ap (λ b. b || has q own) first) ∙ had) in
        omega (arith, count-cons p act own, rest)

-- ---- spans

pub until_released-append : (c : ℕ) (xs ys : List Act)
    → (zs : List Act) × (until_released c (xs ++ ys) ≡ until_released c xs ++ zs)
until_released-append c [] ys = (until_released c ys, refl)
until_released-append c (x ∷ xs) ys = by_test (releases c x) (until_released-append c xs ys)
  where
    open_list : Bool → List Act → List Act
    open_list b rest = if b then [] else x ∷ rest

    by_test : (b : Bool) → (zs : List Act) × (until_released c (xs ++ ys) ≡ until_released c xs ++ zs)
        → (zs : List Act)
        × ((if b then [] else x ∷ until_released c (xs ++ ys)) ≡ (if b then [] else x ∷ until_released c xs) ++ zs)
    by_test true rest = ([], refl)
    by_test false rest = (rest.0, ap (λ acts. x ∷ acts) rest.1)

-- ---- debts

-- a debt goes on where a look finds that it stands, and where nothing settles it
pub owes-more : (duty : Duty) (since : List Act) (act : Act) → (duty.looks act ≡ true → duty.finds act ≡ true)
    → duty.settles act ≡ false
    → owes duty since ≡ true → owes duty (since ++ act ∷ []) ≡ true
owes-more duty [] act finds unsettled owing = by_look (duty.looks act) refl
  where
    by_look : (b : Bool) → duty.looks act ≡ b → (if b then duty.finds act && not (has duty.settles []) else true) ≡ true
    by_look true looks = ap (λ b. b && true) (finds looks)
    by_look false looks = refl
owes-more duty (x ∷ since) act finds unsettled owing =
    by_look (duty.looks x) owing (owes-more duty since act finds unsettled)
  where
    still : (has duty.settles (since ++ act ∷ [])) ≡ has duty.settles since
    still = has-append duty.settles since (act ∷ [])
        ∙ (ap (λ b. has duty.settles since || (b || false)) unsettled ∙ or-false (has duty.settles since))

    by_look : (b : Bool) → (if b then duty.finds x && not (has duty.settles since) else owes duty since) ≡ true
        → (owes duty since ≡ true → owes duty (since ++ act ∷ []) ≡ true)
        → (if b then duty.finds x && not (has duty.settles (since ++ act ∷ [])) else owes duty (since ++ act ∷ []))
        ≡ true
    by_look true stands later = ap (λ b. duty.finds x && not b) still ∙ stands
    by_look false stands later = later stands

-- what is settled stays settled
pub owes-settled : (duty : Duty) (since later : List Act) → owes duty since ≡ false → owes duty (since ++ later) ≡ false
owes-settled duty [] later settled = absurd cc
owes-settled duty (x ∷ since) later settled = by_look (duty.looks x) settled (owes-settled duty since later)
  where
    by_parts : (f a b : Bool) → (f && not a) ≡ false → (f && not (a || b)) ≡ false
    by_parts true true b e = refl
    by_parts true false b e = absurd cc
    by_parts false a b e = refl

    by_look : (b : Bool) → (if b then duty.finds x && not (has duty.settles since) else owes duty since) ≡ false
        → (owes duty since ≡ false → owes duty (since ++ later) ≡ false)
        → (if b then duty.finds x && not (has duty.settles (since ++ later)) else owes duty (since ++ later)) ≡ false
    by_look true done rest =
        ap (λ b. duty.finds x && not b) (has-append duty.settles since later)
        ∙ by_parts (duty.finds x) (has duty.settles since) (has duty.settles later) done
    by_look false done rest = rest done

-- ---- preparing

prepared_in : (s i : ℕ) (own since : List Act) → since_first (leaves_below s i) own ≡ since → is_prepared s i own ≡ true
    → has (finds_open s) (since_from (claims s i) since) ≡ true
prepared_in s i own since is prepared =
    sym (ap (λ acts. has (finds_open s) (since_from (claims s i) acts)) is) ∙ prepared

-- who prepared a key found the keys' high-water mark above it, or raised it above
pub prepared_left : (s i : ℕ) (own : List Act) → is_prepared s i own ≡ true → has (leaves_below s i) own ≡ true
prepared_left s i own prepared = by_left (has (leaves_below s i) own) refl
  where
    by_left : (b : Bool) → has (leaves_below s i) own ≡ b → b ≡ true
    by_left true had = refl
    by_left false none_such =
        absurd (cc (prepared_in s i own [] (since_first-none (leaves_below s i) own none_such) prepared))

-- an act after which a key is prepared doesn't claim its index, and the key was prepared before or the act finds the
-- gate not shut
pub prepared-more : (s i : ℕ) (own : List Act) (act : Act) → is_prepared s i (own ++ act ∷ []) ≡ true
    → (claims s i act ≡ false) × ((is_prepared s i own ≡ true) ⊎ (finds_open s act ≡ true))
prepared-more s i own act prepared = by_left (has (leaves_below s i) own) refl
  where
    since : List Act
    since = since_first (leaves_below s i) own

    by_claim : (b : Bool) → claims s i act ≡ b
        → has (finds_open s) (if b then [] else since_from (claims s i) since ++ act ∷ []) ≡ true
        → (claims s i act ≡ false) × ((is_prepared s i own ≡ true) ⊎ (finds_open s act ≡ true))
    by_claim true claimed found = absurd cc
    by_claim false claimed found = (
      claimed,
      or_cases (is_prepared s i own) (finds_open s act)
          (sym (has-more (finds_open s) (since_from (claims s i) since) act) ∙ found),
    )

    by_left : (b : Bool) → has (leaves_below s i) own ≡ b
        → (claims s i act ≡ false) × ((is_prepared s i own ≡ true) ⊎ (finds_open s act ≡ true))
    by_left true had =
        by_claim (claims s i act) refl
        (sym (ap (has (finds_open s)) (since_from-more (claims s i) since act))
        ∙ prepared_in s i (own ++ act ∷ []) (since ++ act ∷ [])
        (since_first-more (leaves_below s i) own act ∙ ap (λ b. cond {A = List Act} b (since ++ act ∷ []) []) had)
        prepared)
    by_left false none_such =
        absurd (cc
        (prepared_in s i (own ++ act ∷ []) []
        (since_first-more (leaves_below s i) own act
        ∙ ap (λ b. cond {A = List Act} b (since ++ act ∷ []) []) none_such) prepared))

-- ---- where an act stands

-- what stands in a list with one act more at its end is that act, or stands in the list
pub record AtEnd (xs : List Act) (x : Act) (ys : List Act) (y : Act) (zs : List Act) : Type 0 where
  pub before : xs ≡ ys
  pub act : x ≡ y
  pub later : zs ≡ []

pub record Within (xs : List Act) (x : Act) (ys : List Act) (y : Act) (zs : List Act) : Type 0 where
  pub rest : List Act
  pub before : xs ≡ ys ++ y ∷ rest
  pub later : zs ≡ rest ++ x ∷ []

pub split_last : (xs : List Act) (x : Act) (ys : List Act) (y : Act) (zs : List Act) → xs ++ x ∷ [] ≡ ys ++ y ∷ zs
    → AtEnd xs x ys y zs ⊎ Within xs x ys y zs
split_last [] x [] y zs eq = inl (record { before = refl; act = cc eq; later = cc eq })
split_last [] x (w ∷ ys) y zs eq = absurd (not_empty ys y zs (cc eq))
split_last (v ∷ xs) x [] y zs eq = inr (record { rest = xs; before = cc eq; later = cc eq })
split_last (v ∷ xs) x (w ∷ ys) y zs eq =
    let heads : v ≡ w = cc in
    elim (split_last xs x ys y zs (cc eq)) [
      | inl it ↦ inl (record { before = cc (heads, it.before); act = it.act; later = it.later })
      | inr it ↦ inr (record { rest = it.rest; before = cc (heads, it.before); later = it.later })
    ]
