-- Legal histories: their beginnings, one event more, and induction over them.
use Rattle.std.proofs.Common.{◌≡◌, List, [], ◌∷◌, ◌++◌, ◌⊎◌, inl, inr, refl, ap, sym, ◌∙◌, subst, append_assoc, Bool}
use Rattle.std.proofs.Common.{false}
use Rattle.std.proofs.lemmas.List.{append-nil}
use Rattle.std.specs.List.{list_any}
use Rattle.std.proofs.lemmas.Bool.{or_parts}
use Rattle.nio_base.specs.declared.limits.Limits.{Limits}
use Rattle.nio_history.specs.Histories.{IsStep, IsLegal}
use Rattle.nio_history.specs.declared.event.Event.{Event}

pub not_empty : {A : Type 0} (xs : List A) (y : A) (ys : List A) → [] ≡ xs ++ y ∷ ys → ⊥
not_empty [] y ys eq = cc
not_empty (x ∷ xs) y ys eq = cc

pub legal_empty : (l : Limits) → IsLegal l []
legal_empty l = record { steps = λ past e later eq. absurd (not_empty past e later eq) }

-- each beginning of a legal history is legal
pub legal_beginning : (l : Limits) (past later : List Event) → IsLegal l (past ++ later) → IsLegal l past
legal_beginning l past later legal = record {
  steps = λ before e after eq. legal.steps before e (after ++ later)
      (ap (λ events. events ++ later) eq ∙ append_assoc before (e ∷ after) later);
}

pub legal_next : (l : Limits) (past : List Event) (e : Event) (later : List Event) → IsLegal l (past ++ e ∷ later)
    → IsStep l past e
legal_next l past e later legal = legal.steps past e later refl

-- an event of a list with one more at its end is that one, or one of the list
split_more : {A : Type 0} (xs : List A) (x : A) (ys : List A) (y : A) (zs : List A) → xs ++ x ∷ [] ≡ ys ++ y ∷ zs
    → ((xs ≡ ys) × (x ≡ y)) ⊎ ((rest : List A) × (xs ≡ ys ++ y ∷ rest))
split_more [] x [] y zs eq = inl (refl, cc)
split_more [] x (w ∷ ys) y zs eq = absurd (not_empty ys y zs (cc eq))
split_more (v ∷ xs) x [] y zs eq = inr (xs, cc)
split_more (v ∷ xs) x (w ∷ ys) y zs eq =
    let heads : v ≡ w = cc in
    elim (split_more xs x ys y zs (cc eq)) [
      | inl both ↦ inl (cc (heads, both.0), both.1)
      | inr more ↦ inr (more.0, cc (heads, more.1))
    ]

-- a step after a legal history makes it longer
pub legal_more : (l : Limits) (past : List Event) (e : Event) → IsLegal l past → IsStep l past e
    → IsLegal l (past ++ e ∷ [])
legal_more l past e legal step = record {
  steps = λ before e' after eq.
      elim (split_more past e before e' after eq) [
        | inl both ↦ subst (λ b. IsStep l b e') both.0 (subst (λ x. IsStep l past x) both.1 step)
        | inr more ↦ legal.steps before e' more.0 more.1
      ];
}

-- what each step keeps, but for some events, holds of every legal longer history without such an event
pub without_from : (l : Limits) (such : Event → Bool) (P : List Event → Type 0)
    → ((past : List Event) (e : Event) → IsLegal l past → IsStep l past e → such e ≡ false → P past
    → P (past ++ e ∷ []))
    → (past later : List Event) → IsLegal l (past ++ later) → list_any such later ≡ false → P past → P (past ++ later)
without_from l such P each past [] legal none_such here = subst P (sym (append-nil past)) here
without_from l such P each past (e ∷ later) legal none_such here =
    let joined : (past ++ e ∷ []) ++ later ≡ past ++ e ∷ later = append_assoc past (e ∷ []) later in
    let parts = or_parts (such e) (list_any such later) none_such in
    let next = each past e (legal_beginning l past (e ∷ later) legal) (legal_next l past e later legal) parts.0 here in
    subst P joined
    (without_from l such P each (past ++ e ∷ []) later (subst (IsLegal l) (sym joined) legal) parts.1 next)

pub none_such : {A : Type 0} (xs : List A) → list_any (λ _. false) xs ≡ false
none_such [] = refl
none_such (x ∷ xs) = none_such xs

-- what each step keeps holds of every legal longer history
pub legal_from : (l : Limits) (P : List Event → Type 0)
    → ((past : List Event) (e : Event) → IsLegal l past → IsStep l past e → P past → P (past ++ e ∷ []))
    → (past later : List Event) → IsLegal l (past ++ later) → P past → P (past ++ later)
legal_from l P each past later legal =
    without_from l (λ _. false) P (λ before e legal' step _. each before e legal' step) past later legal (none_such later)

-- what holds of the empty history, and each step keeps, holds of every legal history
pub legal_induction : (l : Limits) (P : List Event → Type 0) → P []
    → ((past : List Event) (e : Event) → IsLegal l past → IsStep l past e → P past → P (past ++ e ∷ []))
    → (events : List Event) → IsLegal l events → P events
legal_induction l P begins each events legal = legal_from l P each [] events legal begins
