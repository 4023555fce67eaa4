-- Whoever holds every number has seen the whole history: an event more would be by a caller whose
-- number is held, and so seen.
use Rattle.std.proofs.Common.{◌≡◌, ◌<◌, true, List, [], ◌∷◌, ◌++◌, map, if◌then◌else◌, refl, ap, sym, ◌∙◌, subst}
use Rattle.std.proofs.Common.{eq-eqb}
use Rattle.std.specs.List.{filter}
use Rattle.std.proofs.lemmas.List.{append-nil}
use Rattle.nio_base.specs.declared.limits.Limits.{Limits}
use Rattle.nio_base.specs.declared.numbers.CallerNo.{CallerNo}
use Rattle.nio_history.proofs.Legal.{legal_next}
use Rattle.nio_history.proofs.LastsAlone.{none_further}
use Rattle.nio_history.specs.Histories.{is_by, mine, IsLegal}
use Rattle.nio_history.specs.declared.event.Event.{Event}
use Rattle.nio_words.specs.Whole.{HoldersOfAllSeeAll}

has_event : (e : Event) (later : List Event) → mine e.caller (e ∷ later) ≡ [] → ⊥
has_event e later none_of_it =
    let by : is_by e.caller e ≡ true = eq-eqb e.caller.0 e.caller.0 refl in
    let some_of_it : e.act ∷ mine e.caller later
    ≡ [] = sym
    (ap (λ b. map (λ x. x.act) (if b then e ∷ filter (is_by e.caller) later else filter (is_by e.caller) later))
    by) ∙ none_of_it in
    cc

nothing_more : (l : Limits) (seen rest : List Event) → IsLegal l (seen ++ rest)
    → ((n : CallerNo) → n.0 < l.callers → mine n (seen ++ rest) ≡ mine n seen) → seen ≡ seen ++ rest
nothing_more l seen [] legal same = sym (append-nil seen)
nothing_more l seen (e ∷ rest) legal same =
    let n : CallerNo = e.caller in
    absurd (has_event e rest (none_further n seen (e ∷ rest) (same n (legal_next l seen e rest legal).by_caller)))

pub holders_of_all_see_all : HoldersOfAllSeeAll
holders_of_all_see_all l s kept i v at live all =
    let known = kept.each i v at live in
    let rest : List Event = known.begins.0 in
    let whole : v.seen ++ rest ≡ kept.history = known.begins.1 in
    nothing_more l v.seen rest (subst (IsLegal l) (sym whole) kept.legal)
    (λ n below. ap (mine n) whole ∙ known.own n (all n.0 below)) ∙ whole
