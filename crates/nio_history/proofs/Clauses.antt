-- History clauses put together: what one call and then another did, and the call that did nothing.
use Rattle.std.proofs.Common.{◌≡◌, List, [], ◌∷◌, ◌++◌, append_assoc, Some, None, refl, ap, sym, ◌∙◌, subst}
use Rattle.std.specs.Prelude.{option_map}
use Rattle.std.proofs.lemmas.List.{append-nil}
use Rattle.std.proofs.lemmas.List.Sums.{fold-append}
use mathlib.Core.List.{IsPrefix}
use Rattle.nio_base.specs.declared.limits.Limits.{Limits}
use Rattle.nio_base.specs.declared.numbers.CallerNo.{CallerNo}
use Rattle.nio_history.specs.Histories.{mine, event_of, last_of, EndsWith, HistoryClause, IsLegal}
use Rattle.nio_history.specs.declared.act.Act.{Act}
use Rattle.nio_history.specs.declared.event.Event.{Event}

pub prefix_trans : {A : Type 0} (xs ys zs : List A) → IsPrefix xs ys → IsPrefix ys zs → IsPrefix xs zs
prefix_trans xs ys zs p q = (p.0 ++ q.0, sym (append_assoc xs p.0 q.0) ∙ (ap (λ w. w ++ q.0) p.1 ∙ q.1))

-- a call without a step
pub clause_nothing : (l : Limits) (Holds : CallerNo → Type 0) (me : CallerNo) (events : List Event) → IsLegal l events
    → HistoryClause l Holds me [] events events
clause_nothing l Holds me events legal = record {
  legal = legal;
  goes_on = ([], append-nil events);
  own = sym (append-nil (mine me events));
  others = λ n held other. refl;
  ends = refl;
}

pub last_of-later : {A : Type 0} (xs : List A) (y : A) (ys : List A) → last_of (xs ++ y ∷ ys) ≡ last_of (y ∷ ys)
last_of-later xs y ys = fold-append (λ _ x. Some x) None xs (y ∷ ys)

ends_then : (me : CallerNo) (before middle after : List Event) (first second : List Act)
    → EndsWith me before first middle → EndsWith me middle second after → EndsWith me before (first ++ second) after
ends_then me before middle after [] [] p q = q ∙ p
ends_then me before middle after [] (b ∷ second) p q = q
ends_then me before middle after (a ∷ first) [] p q =
    subst (λ acts. last_of after ≡ option_map (event_of me) (last_of (a ∷ acts))) (sym (append-nil first))
    (ap last_of q ∙ p)
ends_then me before middle after (a ∷ first) (b ∷ second) p q =
    q ∙ ap (option_map (event_of me)) (sym (last_of-later (a ∷ first) b second))

-- one call, and then another
pub clause_then : (l : Limits) (Holds : CallerNo → Type 0) (me : CallerNo) (first second : List Act)
    (before middle after : List Event)
    → HistoryClause l Holds me first before middle → HistoryClause l Holds me second middle after
    → HistoryClause l Holds me (first ++ second) before after
clause_then l Holds me first second before middle after p q = record {
  legal = q.legal;
  goes_on = prefix_trans before middle after p.goes_on q.goes_on;
  own = q.own ∙ (ap (λ own. own ++ second) p.own ∙ append_assoc (mine me before) first second);
  others = λ n held other. q.others n held other ∙ p.others n held other;
  ends = ends_then me before middle after first second p.ends q.ends;
}
