-- The first event that isn't a step: there is at most one, and none in a legal history.
use Rattle.std.proofs.Common.{◌≡◌, ℕ, suc, ◌+◌, ◌<◌, List, [], ◌∷◌, ◌++◌, length, take, drop, get_or, drop-cons, ap}
use Rattle.std.proofs.Common.{sym, ◌∙◌, subst, arith, inl, inr}
use Rattle.std.proofs.lemmas.Bool.{cases_order}
use Rattle.std.proofs.lemmas.List.{take-append-drop, length-take-le, take_more}
use Rattle.nio_audit.specs.Following.{Follows, HasJudged}
use Rattle.nio_audit.specs.declared.judge.Judge.{Judge}
use Rattle.nio_audit.specs.Audit.{IsFirstNoStep}
use Rattle.nio_base.specs.declared.limits.Limits.{Limits}
use Rattle.nio_history.proofs.Legal.{legal_empty, legal_more}
use Rattle.nio_history.specs.Histories.{IsStep, IsLegal}
use Rattle.nio_history.specs.declared.event.Event.{Event}

pub judged-none : {j : Judge} {l : Limits} → j.limits ≡ l → Follows j [] → HasJudged j l []
judged-none {l = l} limits follows = record { limits = limits; legal = legal_empty l; follows = follows }

pub judged-more : {j j' : Judge} {l : Limits} {past : List Event} (e : Event) → HasJudged j l past
    → j'.limits ≡ j.limits → IsStep j.limits past e
    → Follows j' (past ++ e ∷ []) → HasJudged j' l (past ++ e ∷ [])
judged-more {l = l} {past = past} e judged limits step follows = record {
  limits = limits ∙ judged.limits;
  legal = legal_more l past e judged.legal (subst (λ (l' : Limits). IsStep l' past e) judged.limits step);
  follows = follows;
}

pub first-illegal : (l : Limits) (events : List Event) (place : ℕ) → IsLegal l events → IsFirstNoStep l events place → ⊥
first-illegal l events place legal first = first.no_step (legal.steps first.before first.event first.later first.split)

-- of two beginnings of a list, the longer has the item after the shorter
longer : {A : Type 0} (xs : List A) (x : A) (zs : List A) (ys ws : List A) → xs ++ x ∷ zs ≡ ys ++ ws
    → length xs < length ys
    → (rest : List A) × (ys ≡ xs ++ x ∷ rest)
longer [] x zs [] ws e h = absurd (omega arith)
longer [] x zs (y ∷ ys) ws e h = let same : x ≡ y = cc in (ys, ap (λ v. v ∷ ys) (sym same))
longer (v ∷ xs) x zs [] ws e h = absurd (omega arith)
longer (v ∷ xs) x zs (y ∷ ys) ws e h =
    let same : v ≡ y = cc in
    let shorter : xs ++ x ∷ zs ≡ ys ++ ws = cc in
    let more = longer xs x zs ys ws shorter (omega arith) in
    (more.0, ap (λ u. u ∷ ys) (sym same) ∙ ap (λ us. v ∷ us) more.1)

not_before : (l : Limits) (events : List Event) (a b : ℕ) → IsFirstNoStep l events a → IsFirstNoStep l events b → a < b
    → ⊥
not_before l events a b first second h =
    let shorter : length first.before < length second.before = omega (arith, first.place_is, second.place_is) in
    let more = longer first.before first.event first.later second.before (second.event ∷ second.later)
    (sym first.split ∙ second.split) shorter in
    first.no_step (second.legal.steps first.before first.event more.0 more.1)

pub first-one : (l : Limits) (events : List Event) (a b : ℕ) → IsFirstNoStep l events a → IsFirstNoStep l events b
    → a ≡ b
first-one l events a b first second =
    elim (cases_order a b) [
      | inl same ↦ same
      | inr other ↦ elim other [
        | inl below ↦ absurd (not_before l events a b first second below)
        | inr above ↦ absurd (not_before l events b a second first above)
      ]
    ]

-- an event at a place that isn't a step after those before it, which are steps
pub first-here : {l : Limits} {events : List Event} {place : ℕ} (e : Event) → place < length events
    → e ≡ get_or events place e → IsLegal l (take place events)
    → ¬ IsStep l (take place events) e → IsFirstNoStep l events place
first-here {events = events} {place = place} e below is legal no_step = record {
  before = take place events;
  event = e;
  later = drop (suc place) events;
  split = sym (take-append-drop place events)
      ∙ ap (λ rest. take place events ++ rest)
      (drop-cons events place e below ∙ ap (λ x. x ∷ drop (suc place) events) (sym is));
  place_is = length-take-le place events (omega arith);
  legal = legal;
  no_step = no_step;
}

-- the event at the next place
pub take-next : (events : List Event) (place : ℕ) (e : Event) → place < length events → e ≡ get_or events place e
    → take (place + 1) events ≡ take place events ++ e ∷ []
take-next events place e below is = take_more events place e below ∙ ap (λ x. take place events ++ x ∷ []) (sym is)
