-- That a caller is prepared to publish says what the acts before and after say.
use Rattle.std.proofs.Common.{◌≡◌, ℕ, Bool, true, false, ◌||◌, if◌then◌else◌, List, [], ◌∷◌, ◌++◌, append_assoc, refl, ap}
use Rattle.std.proofs.Common.{sym, ◌∙◌, subst}
use Rattle.std.proofs.lemmas.Bool.{or_right}
use Rattle.nio_history.proofs.Legal.{not_empty}
use Rattle.nio_history.proofs.OneMore.{since_first-append}
use Rattle.nio_history.proofs.Spans.{has_act, has_there, has_after, span_of, since_from-on}
use Rattle.nio_history.specs.OwnEvents.{has, since_from, since_first}
use Rattle.nio_history.specs.Spans.{HasAct, IsSpan, opened, unopened}
use Rattle.nio_history.specs.declared.act.Act.{Act}
use Rattle.nio_history.specs.declared.act.Act.TheVariants.{LookGate}
use Rattle.nio_orderly.specs.Careful.{finds_open, leaves_below, claims, is_prepared, IsPrepared, PreparedIsSaid}

-- an act since the first such act has such an act before it
record Follows (p : Act → Bool) (own : List Act) (act : Act) (after : List Act) : Type 0 where
  before : List Act
  parts : own ≡ before ++ act ∷ after
  such : has p before ≡ true

-- whatever the list begins with
follows_more : (p : Act → Bool) (x : Act) (own before : List Act) (act : Act) (after : List Act) (b : Bool) → p x ≡ b
    → (if b then own else since_first p own) ≡ before ++ act ∷ after
    → (since_first p own ≡ before ++ act ∷ after → Follows p own act after) → Follows p (x ∷ own) act after
follows_more p x own before act after true here parts shorter =
    record { before = x ∷ before; parts = ap (λ xs. x ∷ xs) parts; such = ap (λ b. b || has p before) here }
follows_more p x own before act after false here parts shorter =
    let rest = shorter parts in
    record {
      before = x ∷ rest.before;
      parts = ap (λ xs. x ∷ xs) rest.parts;
      such = or_right (p x) (has p rest.before) rest.such;
    }

follows_first : (p : Act → Bool) (own before : List Act) (act : Act) (after : List Act)
    → since_first p own ≡ before ++ act ∷ after → Follows p own act after
follows_first p [] before act after parts = absurd (not_empty before act after parts)
follows_first p (x ∷ own) before act after parts =
    follows_more p x own before act after (p x) refl parts (follows_first p own before act after)

-- a look at a gate claims nothing
open_claims_none : (s i : ℕ) (act : Act) → finds_open s act ≡ true → claims s i act ≡ false
open_claims_none s i (LookGate s' found) finds = refl
open_claims_none s i act finds = absurd (cc finds)

prepared : (s i : ℕ) (own : List Act) → is_prepared s i own ≡ true → IsPrepared s i own
prepared s i own here =
    by_span (span_of (claims s i) later) (has_act (finds_open s) (since_from (claims s i) later) here)
  where
    later : List Act
    later = since_first (leaves_below s i) own

    from : (before : List Act) (act : Act) (after : List Act) → later ≡ before ++ act ∷ after
        → finds_open s act ≡ true → has (claims s i) after ≡ false → IsPrepared s i own
    from before act after parts opens none =
        let it = follows_first (leaves_below s i) own before act after parts in
        record {
          before = it.before;
          act = act;
          after = after;
          parts = it.parts;
          open_gate = opens;
          below = it.such;
          unclaimed = none;
        }

    by_span : IsSpan (claims s i) later (since_from (claims s i) later)
        → HasAct (finds_open s) (since_from (claims s i) later) → IsPrepared s i own
    by_span (opened before act parts opens none) it =
        from (before ++ act ∷ it.before) it.act it.after
        (parts ∙ (ap (λ acts. before ++ act ∷ acts) it.parts
        ∙ sym (append_assoc before (act ∷ it.before) (it.act ∷ it.after))))
        it.such
        (has_after (claims s i) it.before it.act it.after (subst (λ acts. has (claims s i) acts ≡ false) it.parts none))
    by_span (unopened same none) it =
        from it.before it.act it.after (same ∙ it.parts) it.such
        (has_after (claims s i) it.before it.act it.after (subst (λ acts. has (claims s i) acts ≡ false) it.parts none))

said : (s i : ℕ) (own : List Act) → IsPrepared s i own → is_prepared s i own ≡ true
said s i own it =
    let none : has (claims s i) (it.act ∷ it.after) ≡ false =
    ap (λ b. b || has (claims s i) it.after) (open_claims_none s i it.act it.open_gate) ∙ it.unclaimed in
    let first : since_first (leaves_below s i) own ≡ since_first (leaves_below s i) it.before ++ it.act ∷ it.after =
    ap (since_first (leaves_below s i)) it.parts
    ∙ since_first-append (leaves_below s i) it.before (it.act ∷ it.after) it.below in
    subst (λ acts. has (finds_open s) acts ≡ true)
    (sym (ap (since_from (claims s i)) first
    ∙ since_from-on (claims s i) (since_first (leaves_below s i) it.before) (it.act ∷ it.after) none))
    (has_there (finds_open s) (since_from (claims s i) (since_first (leaves_below s i) it.before)) it.act it.after
    it.open_gate)

pub prepared_is_said : PreparedIsSaid
prepared_is_said s i own = (prepared s i own, said s i own)
