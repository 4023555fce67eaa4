-- The place of a caller's latest act that passes a test, and what a caller did in a span, by such places.
use Rattle.std.proofs.Common.{◌≡◌, ℕ, ◌+◌, ◌≤◌, max, nat_lt, Bool, true, false, ◌||◌, ◌&&◌, if◌then◌else◌, Option, Some}
use Rattle.std.proofs.Common.{None, is_some, List, [], ◌∷◌, ◌++◌, length, refl, ap, sym, ◌∙◌, subst, arith}
use Rattle.std.proofs.Common.{append_assoc}
use Rattle.std.specs.Option.{option_or}
use Rattle.std.proofs.lemmas.Bool.{lt-ltb, le-ltb, cond_both}
use Rattle.std.proofs.lemmas.List.{append-nil, length-append}
use Rattle.std.proofs.lemmas.List.Sums.{fold-append}
use Rattle.std.proofs.Math.Bool.{or-true, or-false}
use Rattle.nio_audit.specs.Latest.{counted, latest}
use Rattle.nio_base.specs.declared.numbers.CallerNo.{CallerNo}
use Rattle.nio_history.proofs.OneMore.{mine-own, mine-other, has-more, last-more, since_from-more}
use Rattle.nio_history.specs.Histories.{is_by, mine}
use Rattle.nio_history.specs.OwnEvents.{has, last, since_from}
use Rattle.nio_history.specs.declared.act.Act.{Act}
use Rattle.nio_history.specs.declared.event.Event.{Event}

-- what holds of the empty list, and of each list with one more at its end, holds of every list
pub induction : {A : Type 0} (P : List A → Type 0) → P [] → ((xs : List A) (x : A) → P xs → P (xs ++ x ∷ []))
    → (xs : List A) → P xs
induction {A} P none each xs = from [] xs none
  where
    from : (before later : List A) → P before → P (before ++ later)
    from before [] here = subst P (sym (append-nil before)) here
    from before (x ∷ later) here =
        subst P (append_assoc before (x ∷ []) later) (from (before ++ x ∷ []) later (each before x here))

counted-more : (n : CallerNo) (p : Act → Bool) (past : List Event) (e : Event)
    → counted n p (past ++ e ∷ [])
    ≡ ((counted n p past).0 + 1, if is_by n e && p e.act then (counted n p past).0 + 1 else (counted n p past).1)
counted-more n p past e =
    fold-append (λ (t : ℕ × ℕ) (e' : Event). (t.0 + 1, if is_by n e' && p e'.act then t.0 + 1 else t.1)) (0, 0) past
    (e ∷ [])

length_more : (past : List Event) (e : Event) → length (past ++ e ∷ []) ≡ length past + 1
length_more past e = omega (arith, length-append past (e ∷ []))

counted-length : (n : CallerNo) (p : Act → Bool) (past : List Event) → (counted n p past).0 ≡ length past
counted-length n p past = induction (λ events. (counted n p events).0 ≡ length events) refl
    (λ events e here. ap (λ t. t.0) (counted-more n p events e) ∙ (ap (λ k. k + 1) here ∙ sym (length_more events e)))
    past

pub latest-none : (n : CallerNo) (p : Act → Bool) → latest n p [] ≡ 0
unfolding latest
latest-none n p = refl

pub latest-more : (n : CallerNo) (p : Act → Bool) (past : List Event) (e : Event)
    → latest n p (past ++ e ∷ []) ≡ (if is_by n e && p e.act then length past + 1 else latest n p past)
unfolding latest
latest-more n p past e =
    ap (λ t. t.1) (counted-more n p past e)
    ∙ ap (λ k. if is_by n e && p e.act then k + 1 else (counted n p past).1) (counted-length n p past)

pub latest-own : (n : CallerNo) (p : Act → Bool) (past : List Event) (e : Event) → is_by n e ≡ true
    → latest n p (past ++ e ∷ []) ≡ (if p e.act then length past + 1 else latest n p past)
latest-own n p past e by =
    latest-more n p past e ∙ ap (λ b. if b && p e.act then length past + 1 else latest n p past) by

pub latest-other : (n : CallerNo) (p : Act → Bool) (past : List Event) (e : Event) → is_by n e ≡ false
    → latest n p (past ++ e ∷ []) ≡ latest n p past
latest-other n p past e by =
    latest-more n p past e ∙ ap (λ b. if b && p e.act then length past + 1 else latest n p past) by

pub latest-le : (n : CallerNo) (p : Act → Bool) (past : List Event) → latest n p past ≤ length past
latest-le n p past = induction (λ events. latest n p events ≤ length events) (omega (arith, latest-none n p)) each past
  where
    each : (events : List Event) (e : Event) → latest n p events ≤ length events
        → latest n p (events ++ e ∷ []) ≤ length (events ++ e ∷ [])
    each events e here =
        let bound : (if is_by n e && p e.act then length events + 1 else latest n p events) ≤ length events + 1 =
        cond_both (is_by n e && p e.act) (length events + 1) (latest n p events) (λ k. k ≤ length events + 1)
        (λ _. omega arith) (λ _. omega arith) in
        omega (arith, bound, latest-more n p events e, length_more events e)

-- what holds before a caller's first act, and each act of its own keeps, holds of what it did and of the places
own_induction : (n : CallerNo) (P : List Act → ((Act → Bool) → ℕ) → Type 0)
    → P [] (λ _. 0)
    → ((own : List Act) (act : Act) (now : ℕ) (at : (Act → Bool) → ℕ) → ((p : Act → Bool) → at p ≤ now) → P own at
    → P (own ++ act ∷ []) (λ p. if p act then now + 1 else at p))
    → (past : List Event) → P (mine n past) (λ p. latest n p past)
own_induction n P none each past = induction (λ events. P (mine n events) (λ p. latest n p events)) first more past
  where
    first : P (mine n []) (λ p. latest n p [])
    first =
        let places : (λ p. latest n p []) ≡ (λ _. 0) = λ i p. latest-none n p i in
        subst (P []) (sym places) none

    more : (events : List Event) (e : Event) → P (mine n events) (λ p. latest n p events)
        → P (mine n (events ++ e ∷ [])) (λ p. latest n p (events ++ e ∷ []))
    more events e here = by_caller (is_by n e) refl
      where
        at : (Act → Bool) → ℕ
        at p = latest n p events

        next : (Act → Bool) → ℕ
        next p = latest n p (events ++ e ∷ [])

        by_caller : (b : Bool) → is_by n e ≡ b → P (mine n (events ++ e ∷ [])) next
        by_caller false by =
            let places : next ≡ at = λ i p. latest-other n p events e by i in
            subst (λ own. P own next) (sym (mine-other n events e by)) (subst (P (mine n events)) (sym places) here)
        by_caller true by =
            let places : next ≡ (λ p. if p e.act then length events + 1 else at p) =
            λ i p. latest-own n p events e by i in
            subst (λ own. P own next) (sym (mine-own n events e by))
            (subst (P (mine n events ++ e.act ∷ [])) (sym places)
            (each (mine n events) e.act (length events) at (λ p. latest-le n p events) here))

-- ---- what a caller did since an act that opens a span

-- it did such an act
pub has-since : (n : CallerNo) (p q : Act → Bool) (past : List Event)
    → has q (since_from p (mine n past)) ≡ nat_lt (latest n p past) (latest n q past)
has-since n p q past = own_induction n (λ own at. has q (since_from p own) ≡ nat_lt (at p) (at q)) refl each past
  where
    each : (own : List Act) (act : Act) (now : ℕ) (at : (Act → Bool) → ℕ) → ((t : Act → Bool) → at t ≤ now)
        → has q (since_from p own) ≡ nat_lt (at p) (at q)
        → has q (since_from p (own ++ act ∷ []))
        ≡ nat_lt (if p act then now + 1 else at p) (if q act then now + 1 else at q)
    each own act now at bound here = ap (has q) (since_from-more p own act) ∙ by_tests (p act) (q act) refl
      where
        by_tests : (b d : Bool) → q act ≡ d → has q (if b then [] else since_from p own ++ act ∷ [])
            ≡ nat_lt (if b then now + 1 else at p) (if d then now + 1 else at q)
        by_tests true true eq = sym (le-ltb (now + 1) (now + 1) (omega arith))
        by_tests true false eq = sym (le-ltb (now + 1) (at q) (omega (arith, bound q)))
        by_tests false true eq =
            (has-more q (since_from p own) act
            ∙ (ap (λ b. has q (since_from p own) || b) eq ∙ or-true (has q (since_from p own))))
            ∙ sym (lt-ltb (at p) (now + 1) (omega (arith, bound p)))
        by_tests false false eq =
            (has-more q (since_from p own) act
            ∙ (ap (λ b. has q (since_from p own) || b) eq ∙ or-false (has q (since_from p own)))) ∙ here

-- what the last act in the span tells that tells anything
pub last-since : {A : Type 0} (n : CallerNo) (p : Act → Bool) (tells : Act → Option A) (past : List Event)
    → last tells (since_from p (mine n past))
    ≡ (if nat_lt (latest n p past) (latest n (λ act. is_some (tells act)) past) then last tells (mine n past)
    else None)
last-since {A = A} n p tells past =
    own_induction n
    (λ own at. last tells (since_from p own) ≡ (if nat_lt (at p) (at some) then last tells own else None)) refl each past
  where
    some : Act → Bool
    some = λ act. is_some (tells act)

    each : (own : List Act) (act : Act) (now : ℕ) (at : (Act → Bool) → ℕ) → ((t : Act → Bool) → at t ≤ now)
        → last tells (since_from p own) ≡ (if nat_lt (at p) (at some) then last tells own else None)
        → last tells (since_from p (own ++ act ∷ []))
        ≡ (if nat_lt (if p act then now + 1 else at p) (if some act then now + 1 else at some)
        then last tells (own ++ act ∷ []) else None)
    each own act now at bound here =
        ap (last tells) (since_from-more p own act)
        ∙ (by_tests (p act) (tells act) refl
        ∙ sym (ap (λ t. if nat_lt (if p act then now + 1 else at p) (if some act then now + 1 else at some) then t
        else None) (last-more tells own act)))
      where
        by_tests : (b : Bool) (t : Option A) → tells act ≡ t
            → last tells (if b then [] else since_from p own ++ act ∷ [])
            ≡ (if nat_lt (if b then now + 1 else at p) (if is_some t then now + 1 else at some)
            then option_or t (last tells own) else None)
        by_tests true t eq = sym (ap (λ b. if b then option_or t (last tells own) else None)
            (le-ltb (now + 1) (if is_some t then now + 1 else at some)
            (cond_both (is_some t) (now + 1) (at some) (λ k. k ≤ now + 1) (λ _. omega arith)
            (λ _. omega (arith, bound some)))))
        by_tests false (Some x) eq =
            (last-more tells (since_from p own) act ∙ ap (λ t. option_or t (last tells (since_from p own))) eq)
            ∙ sym (ap (λ b. if b then Some x else None) (lt-ltb (at p) (now + 1) (omega (arith, bound p))))
        by_tests false None eq =
            (last-more tells (since_from p own) act ∙ ap (λ t. option_or t (last tells (since_from p own))) eq) ∙ here

-- a span in a span is the span of either
pub since_from-twice : (p q : Act → Bool) (own : List Act)
    → since_from q (since_from p own) ≡ since_from (λ act. p act || q act) own
since_from-twice p q own =
    induction (λ acts. since_from q (since_from p acts) ≡ since_from (λ act. p act || q act) acts) refl each own
  where
    each : (acts : List Act) (act : Act) → since_from q (since_from p acts) ≡ since_from (λ a. p a || q a) acts
        → since_from q (since_from p (acts ++ act ∷ [])) ≡ since_from (λ a. p a || q a) (acts ++ act ∷ [])
    each acts act here =
        ap (since_from q) (since_from-more p acts act)
        ∙ (by_test (p act) ∙ sym (since_from-more (λ a. p a || q a) acts act))
      where
        by_test : (b : Bool)
            → since_from q (if b then [] else since_from p acts ++ act ∷ [])
            ≡ (if b || q act then [] else since_from (λ a. p a || q a) acts ++ act ∷ [])
        by_test true = refl
        by_test false =
            since_from-more q (since_from p acts) act ∙ ap (λ own'. if q act then [] else own' ++ act ∷ []) here

-- the latest act that passes one of two tests
pub latest-either : (n : CallerNo) (p q : Act → Bool) (past : List Event)
    → latest n (λ act. p act || q act) past ≡ max (latest n p past) (latest n q past)
latest-either n p q past = own_induction n (λ own at. at (λ act. p act || q act) ≡ max (at p) (at q)) refl each past
  where
    each : (own : List Act) (act : Act) (now : ℕ) (at : (Act → Bool) → ℕ) → ((t : Act → Bool) → at t ≤ now)
        → at (λ a. p a || q a) ≡ max (at p) (at q)
        → (if p act || q act then now + 1 else at (λ a. p a || q a))
        ≡ max (if p act then now + 1 else at p) (if q act then now + 1 else at q)
    each own act now at bound here = by_tests (p act) (q act)
      where
        by_tests : (b d : Bool) → (if b || d then now + 1 else at (λ a. p a || q a))
            ≡ max (if b then now + 1 else at p) (if d then now + 1 else at q)
        by_tests true true = omega arith
        by_tests true false = omega (arith, bound q)
        by_tests false true = omega (arith, bound p)
        by_tests false false = here
