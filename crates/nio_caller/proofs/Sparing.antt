-- A caller that has a selection in progress has it still after a call that neither tells nor leaves it.
use Rattle.std.proofs.Common.{◌≡◌, ℕ, ◌==◌, Bool, true, false, ◌⊎◌, inl, inr, None, List, [], ◌∷◌, ◌++◌}
use Rattle.std.proofs.Common.{refl, ap, sym, ◌∙◌, subst, append_assoc, eqb-true}
use Rattle.std.proofs.lemmas.Bool.{and_parts}
use Rattle.std.proofs.lemmas.List.Elements.{Contains-append_left}
use Rattle.nio_base.specs.declared.limits.Limits.{Limits}
use Rattle.nio_base.specs.declared.numbers.CallerNo.{CallerNo}
use Rattle.nio_base.specs.declared.numbers.SelNo.{SelNo}
use Rattle.nio_history.proofs.Legal.{legal_beginning}
use Rattle.nio_history.proofs.OneMore.{mine-append}
use Rattle.nio_history.proofs.TurnLaws.{not_free}
use Rattle.nio_history.specs.Conditions.{IsSelector, has_turn, is_held_by}
use Rattle.nio_history.specs.Histories.{event_of, mine, state_after}
use Rattle.nio_history.specs.OwnEvents.{gives_turn}
use Rattle.nio_history.specs.PassViews.{PassView, ActsClause}
use Rattle.nio_history.specs.Questions.{Question}
use Rattle.nio_history.specs.Turns.{removes_on}
use Rattle.nio_history.specs.declared.act.Act.{Act}
use Rattle.nio_history.specs.declared.act.Act.TheVariants.{Enter, ShutBit, TakeTurn}
use Rattle.nio_history.specs.declared.event.Event.{Event}
use Rattle.nio_select.proofs.Progress.{below_after, lister_after}
use Rattle.nio_select.specs.InProgress.{HasShut, Selects}
use Rattle.nio_steps.proofs.SelectionLaws.{none_of-append}
use Rattle.nio_steps.proofs.StandLaws.{selections_stand}
use Rattle.nio_steps.proofs.WorksLaws.{leaves-append, none-leaves}
use Rattle.nio_steps.specs.Laws.{LeavesSelector}
use Rattle.nio_steps.specs.SelectCalls.{Selection}
use Rattle.nio_steps.specs.Selections.{IsBegun, IsClosing, marks_on}
use Rattle.nio_caller.proofs.Found.{answered, at, legal, past}

-- it found that nobody had the turn of selector t
abbrev pub finds_free : ℕ → Act → Bool
finds_free t (TakeTurn s None) = s.0 == t
finds_free t (Enter s None) = s.0 == t
finds_free t _ = false

-- the acts leave a selection on selector t in progress up to one that found nobody there
pub record FindsFree (t : ℕ) (acts : List Act) : Type 0 where
  pub before : List Act
  pub found : Act
  pub rest : List Act
  pub parts : acts ≡ before ++ found ∷ rest
  pub leaves : LeavesSelector t before
  pub free : finds_free t found ≡ true

-- the acts leave a selection on selector t in progress, or there was none
abbrev pub Spares : ℕ → List Act → Type 0
Spares t acts = LeavesSelector t acts ⊎ FindsFree t acts

pub free-more : (t : ℕ) (xs ys : List Act) → FindsFree t xs → FindsFree t (xs ++ ys)
free-more t xs ys finds = record {
  before = finds.before;
  found = finds.found;
  rest = finds.rest ++ ys;
  parts = ap (λ zs. zs ++ ys) finds.parts ∙ append_assoc finds.before (finds.found ∷ finds.rest) ys;
  leaves = finds.leaves;
  free = finds.free;
}

-- after acts that left it, or found nobody
pub free-later : (t : ℕ) (xs ys : List Act) → Spares t xs → FindsFree t ys → FindsFree t (xs ++ ys)
free-later t xs ys (inl leaves) finds = record {
  before = xs ++ finds.before;
  found = finds.found;
  rest = finds.rest;
  parts = ap (λ zs. xs ++ zs) finds.parts ∙ sym (append_assoc xs finds.before (finds.found ∷ finds.rest));
  leaves = leaves-append t xs finds.before leaves finds.leaves;
  free = finds.free;
}
free-later t xs ys (inr free) finds = free-more t xs ys free

pub spares-none : (t : ℕ) → Spares t []
spares-none t = inl (none-leaves t)

pub spares-append : (t : ℕ) (xs ys : List Act) → Spares t xs → Spares t ys → Spares t (xs ++ ys)
spares-append t xs ys (inl first) (inl second) = inl (leaves-append t xs ys first second)
spares-append t xs ys (inl first) (inr second) = inr (free-later t xs ys (inl first) second)
spares-append t xs ys (inr first) second = inr (free-more t xs ys first)

-- ---- what was begun goes on

longer : (own : List Act) (x : Selection) (acts : List Act) → IsBegun own x → LeavesSelector x.selector.0 acts
    → IsBegun (own ++ acts) x
longer own x acts begun leaves = record {
  earlier = begun.earlier;
  beginning = begun.beginning;
  since = begun.since ++ acts;
  parts = ap (λ xs. xs ++ acts) begun.parts
      ∙ (append_assoc begun.earlier (begun.beginning ++ begun.since) acts
      ∙ ap (λ xs. begun.earlier ++ xs) (append_assoc begun.beginning begun.since acts));
  known = begun.known;
  begins = begun.begins;
  goes_on = none_of-append (gives_turn x.selector.0) begun.since acts begun.goes_on leaves.gives;
  unmarked = none_of-append (marks_on x.selector.0) begun.since acts begun.unmarked leaves.marks;
  unremoved = none_of-append (removes_on x.selector.0) begun.since acts begun.unremoved leaves.removes;
}

-- who has a selection in progress finds nobody without its turn
module _ (me : CallerNo) (old new : PassView) (x : Selection) (begun : IsBegun (mine me old.seen) x)
    (before : List Act) (found : Act) (more : List Act) (clause : ActsClause me (before ++ found ∷ more) old new)
    (leaves : LeavesSelector x.selector.0 before) where
  abbrev until : List Event
  until = past me old new before found more clause

  begun_until : IsBegun (mine me until) x
  begun_until =
      subst (λ own. IsBegun own x)
      (sym (mine-append me old.seen (at me old new before found more clause).past
      ∙ ap (λ own. mine me old.seen ++ own) (at me old new before found more clause).mine_past))
      (longer (mine me old.seen) x before begun leaves)

  its_turn : is_held_by me ((state_after until).turn x.selector.0) ≡ true
  its_turn =
      (and_parts (has_turn (state_after until) me x.selector) ((state_after until).begun x.selector.0)
      (selections_stand old.limits me until x
      (legal_beginning old.limits until
      (event_of me found ∷ (at me old new before found more clause).later)
      (legal me old new before found more clause)) begun_until)).0

  not_free_here : (s : SelNo) → (s.0 == x.selector.0) ≡ true → None ≡ (state_after until).turn s.0 → ⊥
  not_free_here s here free =
      not_free me ((state_after until).turn x.selector.0) its_turn
      (free ∙ ap (state_after until).turn (eqb-true s.0 x.selector.0 here))

pub no_free : (me : CallerNo) (old new : PassView) (x : Selection) (begun : IsBegun (mine me old.seen) x)
    (before : List Act) (found : Act) (more : List Act) → ActsClause me (before ++ found ∷ more) old new
    → LeavesSelector x.selector.0 before → finds_free x.selector.0 found ≡ true → ⊥
no_free me old new x begun before (TakeTurn s None) more clause leaves free =
    let answers = answered me old new before (TakeTurn s None) more clause (Question.take_turn s) refl in
    not_free_here me old new x begun before (TakeTurn s None) more clause leaves s free (cc answers)
no_free me old new x begun before (Enter s None) more clause leaves free =
    let answers = answered me old new before (Enter s None) more clause (Question.enter s) refl in
    not_free_here me old new x begun before (Enter s None) more clause leaves s free (cc answers)
no_free me old new x begun before _ more clause leaves free = absurd (cc free)

module _ {me : CallerNo} {acts : List Act} {old new : PassView} (clause : ActsClause me acts old new) where
  pub still_selects : (x : Selection) → Spares x.selector.0 acts → Selects old me x → Selects new me x
  still_selects x (inl leaves) selects = record {
    inside = subst (λ (l : Limits). IsSelector l x.selector) (sym clause.limits) selects.inside;
    begun = subst (λ own. IsBegun own x) (sym clause.history.own) (longer (mine me old.seen) x acts selects.begun leaves);
    below = below_after x.looked clause selects.below;
    lister = λ listed. lister_after clause (selects.lister listed);
  }
  still_selects x (inr finds) selects =
      absurd (no_free me old new x selects.begun finds.before finds.found finds.rest
      (subst (λ (done : List Act). ActsClause me done old new) finds.parts clause) finds.leaves finds.free)

  pub still_shut : (s : SelNo) → HasShut old me s → HasShut new me s
  still_shut s shut = record {
    inside = subst (λ (l : Limits). IsSelector l s) (sym clause.limits) shut.inside;
    closing = subst (λ own. IsClosing own s) (sym clause.history.own)
        (Contains-append_left (mine me old.seen) acts (ShutBit s false) shut.closing);
  }
