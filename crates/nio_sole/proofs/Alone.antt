-- While a pass acts for each caller, nothing but its own acts happens.
use Rattle.std.proofs.Common.{◌≡◌, ◌≢◌, ℕ, ◌<◌, ◌==◌, Bool, true, false, List, [], ◌∷◌, ◌++◌, map, cond, refl, ap, sym}
use Rattle.std.proofs.Common.{◌∙◌, eqb-true, eq-eqb, append_assoc}
use Rattle.std.proofs.lemmas.List.{append_cancel_left, append-nil}
use Rattle.std.specs.Int.{bit_at}
use Rattle.std.specs.Prelude.{filter}
use Rattle.nio_base.specs.declared.limits.Limits.{Limits}
use Rattle.nio_base.specs.declared.numbers.CallerNo.{CallerNo}
use Rattle.nio_history.proofs.OneMore.{mine-append}
use Rattle.nio_history.specs.Conditions.{IsCaller}
use Rattle.nio_history.specs.Histories.{mine, is_by, event_of, HistoryClause}
use Rattle.nio_history.specs.PassViews.{PassView, done_between}
use Rattle.nio_history.specs.declared.act.Act.{Act}
use Rattle.nio_history.specs.declared.event.Event.{Event}
use Rattle.nio_steps.specs.Calls.{CallClause}
use Rattle.nio_words.specs.Passes.{IsReady, limits_of, numbers_of, seen}
use Rattle.nio_words.specs.Views.{view}
use Rattle.nio_words.specs.declared.words.Pass.{Pass}
use Rattle.nio_words.specs.declared.words.Words.{Words}

-- an event is of `me`, or of another caller that then has an act
by_me : (me : CallerNo) (e : Event) → ((e.caller ≢ me) → ⊥) → (e.caller.0 == me.0) ≡ true
by_me me e not_other = by_test (e.caller.0 == me.0) refl
  where
    by_test : (b : Bool) → (e.caller.0 == me.0) ≡ b → b ≡ true
    by_test true is = refl
    by_test false is =
        absurd (not_other (λ same. let clash : false ≡ true =
        sym is ∙ eq-eqb e.caller.0 me.0 (ap (λ (n : CallerNo). n.0) same) in absurd cc))

mine-first : (n : CallerNo) (e : Event) (rest : List Event) → (e.caller.0 == n.0) ≡ true
    → mine n (e ∷ rest) ≡ e.act ∷ mine n rest
mine-first n e rest by =
    ap (λ b. map (λ (x : Event). x.act) (cond b (e ∷ filter (is_by n) rest) (filter (is_by n) rest))) by

some_act : (n : CallerNo) (before : List Event) (e : Event) (rest : List Event) → e.caller ≡ n
    → mine n (before ++ e ∷ rest) ≡ [] → ⊥
some_act n before e rest by none =
    let parts = sym
    (mine-append n before (e ∷ rest)
    ∙ ap (λ (xs : List Act). mine n before ++ xs)
    (mine-first n e rest (eq-eqb e.caller.0 n.0 (ap (λ (m : CallerNo). m.0) by)))) ∙ none in
    not_nothing (mine n before) parts
  where
    not_nothing : (xs : List Act) → xs ++ e.act ∷ mine n rest ≡ [] → ⊥
    not_nothing [] is = absurd cc
    not_nothing (x ∷ xs) is = absurd cc

-- events all of which are of `me` are its acts
all_mine : (me : CallerNo) (later : List Event)
    → ((before : List Event) (e : Event) (rest : List Event) → later ≡ before ++ e ∷ rest → (e.caller.0 == me.0) ≡ true)
    → later ≡ map (event_of me) (mine me later)
all_mine me [] each = refl
all_mine me (e ∷ later) each =
    let by = each [] e later refl in
    let same : e.caller ≡ me = ap {B = CallerNo} (λ (n : ℕ). record { 0 = n }) (eqb-true e.caller.0 me.0 by) in
    let first : e ≡ event_of me e.act = λ i. record { caller = same i; act = e.act } in
    ap (λ (x : Event). x ∷ later) first
    ∙ (ap (λ (es : List Event). event_of me e.act ∷ es)
    (all_mine me later (λ before x rest parts. each (e ∷ before) x rest (ap (λ (es : List Event). e ∷ es) parts)))
    ∙ sym (ap (map (event_of me)) (mine-first me e later by)))

-- what was seen grew by the acts of `me` alone
grown : (l : Limits) (held : CallerNo → Type 0) (me : CallerNo) (acts : List Act) (before after : List Event)
    → ((n : CallerNo) → IsCaller l n → held n)
    → HistoryClause l held me acts before after → after ≡ before ++ map (event_of me) acts
grown l held me acts before after all clause =
    let later = clause.goes_on.0 in
    let joined : before ++ later ≡ after = clause.goes_on.1 in
    let own : mine me later ≡ acts = append_cancel_left (mine me before) (mine me later) acts
    (sym (mine-append me before later) ∙ (ap (mine me) joined ∙ clause.own)) in
    sym joined
    ∙ (ap (λ (es : List Event). before ++ es)
    (all_mine me later (λ past e rest parts. by_me me e (λ other.
    let step = clause.legal.steps (before ++ past) e rest
    (sym joined ∙ (ap (λ (es : List Event). before ++ es) parts ∙ sym (append_assoc before past (e ∷ rest)))) in
    let none : mine e.caller later ≡ [] = append_cancel_left (mine e.caller before) (mine e.caller later) []
    (sym (mine-append e.caller before later)
    ∙ (ap (mine e.caller) joined
    ∙ (clause.others e.caller (all e.caller step.by_caller) other
    ∙ sym (append-nil (mine e.caller before))))) in
    some_act e.caller past e rest refl (sym (ap (mine e.caller) parts) ∙ none))))
    ∙ ap (λ (xs : List Act). before ++ map (event_of me) xs) own)

-- ---- a pass that acts for each caller sees all that happens

-- such a pass, as if it were the table's only one
abbrev pub sole_view : Words → Pass → PassView
sole_view w p = record (view w p) { only = true }

pub alone : {R : Type 0} {Shape : List Act → R → Type 0} {answer : R} (w : Words) (p q : Pass) (me : CallerNo)
    → ((n : CallerNo) → n.0 < (limits_of w).callers → IsReady w p n)
    → CallClause me Shape (view w p) (view w q) answer → CallClause me Shape (sole_view w p) (sole_view w q) answer
alone w p q me all call = record {
  acts = record {
    history = call.acts.history;
    limits = call.acts.limits;
    held = call.acts.held;
    only = λ _. (
      refl,
      grown (limits_of w) _ me (done_between me (view w p) (view w q)) (seen p) (seen q)
          (λ n below. eq-eqb (bit_at (numbers_of p) n.0) 1 (all n below).number) call.acts.history,
    );
  };
  shape = call.shape;
}
