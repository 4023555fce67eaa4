-- What one event more does to a history's state, to a caller's own events, and to each general word
-- over them.
use Rattle.std.proofs.Common.{◌≡◌, Bool, true, false, cond, ◌||◌, if◌then◌else◌, Option, None, List, [], ◌∷◌, ◌++◌, map}
use Rattle.std.proofs.Common.{ap, ◌∙◌, sym, refl}
use Rattle.std.specs.List.{filter}
use Rattle.std.specs.Option.{option_or}
use Rattle.std.proofs.Math.Bool.{or-false}
use Rattle.std.proofs.lemmas.Bool.{or_right, or_parts, cond_both}
use Rattle.std.proofs.lemmas.List.{map-append, append-nil}
use Rattle.std.proofs.lemmas.List.Elements.{filter-append}
use Rattle.std.proofs.lemmas.List.Folds.{list_any-append}
use Rattle.std.proofs.lemmas.List.Sums.{fold-append}
use Rattle.nio_base.specs.declared.numbers.CallerNo.{CallerNo}
use Rattle.nio_history.specs.Acts.{effect}
use Rattle.nio_history.specs.Histories.{state_after, is_by, mine}
use Rattle.nio_history.specs.OwnEvents.{first, has, last, since_from, since_first}
use Rattle.nio_history.specs.State.{opening}
use Rattle.nio_history.specs.declared.act.Act.{Act}
use Rattle.nio_history.specs.declared.event.Event.{Event}

pub state_after-more : (past : List Event) (e : Event)
    → state_after (past ++ e ∷ []) ≡ effect (state_after past) e.caller e.act
state_after-more past e = fold-append (λ st e'. effect st e'.caller e'.act) opening past (e ∷ [])

pub mine-append : (n : CallerNo) (xs ys : List Event) → mine n (xs ++ ys) ≡ mine n xs ++ mine n ys
mine-append n xs ys =
    ap (map (λ x. x.act)) (filter-append (is_by n) xs ys)
    ∙ map-append (λ x. x.act) (filter (is_by n) xs) (filter (is_by n) ys)

pub mine-own : (n : CallerNo) (past : List Event) (e : Event) → is_by n e ≡ true
    → mine n (past ++ e ∷ []) ≡ mine n past ++ e.act ∷ []
mine-own n past e by =
    mine-append n past (e ∷ []) ∙ ap (λ b. mine n past ++ map (λ x. x.act) (cond b (e ∷ []) [])) by

pub mine-other : (n : CallerNo) (past : List Event) (e : Event) → is_by n e ≡ false
    → mine n (past ++ e ∷ []) ≡ mine n past
mine-other n past e by =
    mine-append n past (e ∷ [])
    ∙ (ap (λ b. mine n past ++ map (λ x. x.act) (cond b (e ∷ []) [])) by ∙ append-nil (mine n past))

pub has-more : (p : Act → Bool) (own : List Act) (act : Act) → has p (own ++ act ∷ []) ≡ (has p own || p act)
has-more p own act = list_any-append p own (act ∷ []) ∙ ap (λ b. has p own || b) (or-false (p act))

-- what has no such act has none in either of its parts
pub has_none-append : (p : Act → Bool) (xs ys : List Act) → has p (xs ++ ys) ≡ false
    → (has p xs ≡ false) × (has p ys ≡ false)
has_none-append p xs ys none = or_parts (has p xs) (has p ys) (sym (list_any-append p xs ys) ∙ none)

pub last-more : {A : Type 0} (tells : Act → Option A) (own : List Act) (act : Act)
    → last tells (own ++ act ∷ []) ≡ option_or (tells act) (last tells own)
last-more tells own act = fold-append (λ told act'. option_or (tells act') told) None own (act ∷ [])

pub first-more : {A : Type 0} (tells : Act → Option A) (own : List Act) (act : Act)
    → first tells (own ++ act ∷ []) ≡ option_or (first tells own) (tells act)
first-more tells own act = fold-append (λ told act'. option_or told (tells act')) None own (act ∷ [])

pub since_from-more : (opens : Act → Bool) (own : List Act) (act : Act)
    → since_from opens (own ++ act ∷ []) ≡ (if opens act then [] else since_from opens own ++ act ∷ [])
since_from-more opens own act =
    fold-append (λ since act'. if opens act' then [] else since ++ act' ∷ []) [] own (act ∷ [])

-- whether a span has such an act, with one act more
pub has_since-more : (opens p : Act → Bool) (own : List Act) (act : Act)
    → has p (since_from opens (own ++ act ∷ []))
    ≡ (if opens act then false else has p (since_from opens own) || p act)
has_since-more opens p own act = ap (has p) (since_from-more opens own act) ∙ by_test (opens act)
  where
    by_test : (b : Bool)
        → has p (if b then [] else since_from opens own ++ act ∷ [])
        ≡ (if b then false else has p (since_from opens own) || p act)
    by_test true = refl
    by_test false = has-more p (since_from opens own) act

-- nothing is in a span that wasn't opened
pub since_first-none : (opens : Act → Bool) (own : List Act) → has opens own ≡ false → since_first opens own ≡ []
since_first-none opens [] none = refl
since_first-none opens (x ∷ own) none =
    let both = or_parts (opens x) (has opens own) none in
    ap (λ b. if b then own else since_first opens own) both.0 ∙ since_first-none opens own both.1

-- acts after the first that opens a span stay in it
pub since_first-append : (opens : Act → Bool) (own later : List Act) → has opens own ≡ true
    → since_first opens (own ++ later) ≡ since_first opens own ++ later
since_first-append opens [] later here = absurd cc
since_first-append opens (x ∷ own) later here = by_test (opens x) here (since_first-append opens own later)
  where
    by_test : (b : Bool) → (b || has opens own) ≡ true
        → (has opens own ≡ true → since_first opens (own ++ later) ≡ since_first opens own ++ later)
        → (if b then own ++ later else since_first opens (own ++ later)) ≡ (if b then own else since_first opens own)
        ++ later
    by_test true here' shorter = refl
    by_test false here' shorter = shorter here'

pub since_first-more : (opens : Act → Bool) (own : List Act) (act : Act)
    → since_first opens (own ++ act ∷ []) ≡ (if has opens own then since_first opens own ++ act ∷ [] else [])
since_first-more opens [] act = cond_both (opens act) [] [] (λ acts. acts ≡ []) (λ _. refl) (λ _. refl)
since_first-more opens (x ∷ own) act = by_test (opens x) (since_first-more opens own act)
  where
    by_test : (b : Bool)
        → since_first opens (own ++ act ∷ []) ≡ (if has opens own then since_first opens own ++ act ∷ [] else [])
        → (if b then own ++ act ∷ [] else since_first opens (own ++ act ∷ []))
        ≡ (if b || has opens own then (if b then own else since_first opens own) ++ act ∷ [] else [])
    by_test true more = refl
    by_test false more = more

-- an act of a span is one of all acts
pub has-since_first : (p opens : Act → Bool) (own : List Act) → has p (since_first opens own) ≡ true → has p own ≡ true
has-since_first p opens [] h = h
has-since_first p opens (x ∷ own) h = or_right (p x) (has p own) (by_test (opens x) h (has-since_first p opens own))
  where
    by_test : (b : Bool) → has p (if b then own else since_first opens own) ≡ true
        → (has p (since_first opens own) ≡ true → has p own ≡ true) → has p own ≡ true
    by_test true there shorter = there
    by_test false there shorter = shorter there
