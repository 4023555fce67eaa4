-- What stands while a caller keeps what it has.
use Rattle.std.proofs.Common.{◌≡◌, Bool, true, false, ◌&&◌, ◌||◌, List, [], ◌∷◌, ◌++◌, append_assoc, refl, ap, sym, ◌∙◌}
use Rattle.std.proofs.Common.{subst}
use Rattle.std.proofs.Math.Bool.{and-false}
use Rattle.std.proofs.lemmas.Bool.{or_from, or_parts}
use Rattle.std.proofs.lemmas.List.{append-nil, append_cancel_left}
use Rattle.nio_base.specs.declared.limits.Limits.{Limits}
use Rattle.nio_base.specs.declared.numbers.CallerNo.{CallerNo}
use Rattle.nio_history.proofs.LastsAlone.{lasts_alone, has-mine}
use Rattle.nio_history.proofs.Legal.{without_from}
use Rattle.nio_history.proofs.OneMore.{state_after-more, mine-own, mine-other}
use Rattle.nio_history.proofs.Soundness.{legal-sound}
use Rattle.nio_history.specs.Acts.{effect}
use Rattle.nio_history.specs.Histories.{state_after, is_by, mine, IsStep, IsLegal}
use Rattle.nio_history.specs.Holders.{Keeps}
use Rattle.nio_history.specs.Permanent.{OwnFact, is_had_by, gives_back}
use Rattle.nio_history.specs.OwnEvents.{has}
use Rattle.nio_history.specs.State.{State}
use Rattle.nio_history.specs.declared.act.Act.{Act}
use Rattle.nio_history.specs.declared.event.Event.{Event}

-- an event that isn't such an act of the caller's, of either sort
pub of_no_sort : (by p q : Bool) → (by && (p || q)) ≡ false → ((by && p) ≡ false) × ((by && q) ≡ false)
of_no_sort true p q e = or_parts p q e
of_no_sort false p q e = (refl, refl)

-- acts that are of neither sort aren't of one or the other
pub has_neither : (p q : Act → Bool) (own : List Act) → has p own ≡ false → has q own ≡ false
    → has (λ act. p act || q act) own ≡ false
has_neither p q [] no_p no_q = refl
has_neither p q (act ∷ own) no_p no_q =
    let first = or_parts (p act) (has p own) no_p in
    let second = or_parts (q act) (has q own) no_q in
    or_from (p act || q act) (has (λ a. p a || q a) own) (or_from (p act) (q act) first.0 second.0)
    (has_neither p q own first.1 second.1)

-- What a caller knows from what it did while it kept something: where each step of its own that isn't
-- one of some acts takes what it knew on, and each step of another too, it knows it of all it did.
pub knows_while : (l : Limits) (n : CallerNo) (what : OwnFact) (spoils : Act → Bool) (Knows : List Act → State → Type 0)
    → ((past : List Event) (e : Event) → IsLegal l past → IsStep l past e → is_had_by n what (state_after past) ≡ true
    → is_by n e ≡ true → spoils e.act ≡ false
    → (acts : List Act) → Knows acts (state_after past)
    → Knows (acts ++ e.act ∷ []) (effect (state_after past) e.caller e.act))
    → ((past : List Event) (e : Event) → IsLegal l past → IsStep l past e → is_had_by n what (state_after past) ≡ true
    → is_by n e ≡ false
    → (acts : List Act) → Knows acts (state_after past) → Knows acts (effect (state_after past) e.caller e.act))
    → (before later : List Event) → Keeps l n what before later → has spoils (mine n later) ≡ false
    → Knows [] (state_after before) → Knows (mine n later) (state_after (before ++ later))
knows_while l n what spoils Knows own other before later keeps spared here =
    let known = without_from l such So each before later keeps.legal
    (sym (has-mine (λ act. gives_back what act || spoils act) n later)
    ∙ has_neither (gives_back what) spoils (mine n later) keeps.kept spared)
    ([], sym (append-nil before), keeps.has_it, here) in
    subst (λ did. Knows (mine n did) (state_after (before ++ later)))
    (append_cancel_left before known.0 later (sym known.1)) known.3
  where
    such : Event → Bool
    such e = is_by n e && (gives_back what e.act || spoils e.act)

    -- the events since then, with what the caller has and knows after them
    So : List Event → Type 0
    So events =
        (did : List Event) × (events ≡ before ++ did) × (is_had_by n what (state_after events) ≡ true)
        × Knows (mine n did) (state_after events)

    each : (past : List Event) (e : Event) → IsLegal l past → IsStep l past e → such e ≡ false → So past
        → So (past ++ e ∷ [])
    each past e legal step not_such so = (
      so.0 ++ e ∷ [],
      ap (λ events. events ++ e ∷ []) so.1 ∙ append_assoc before so.0 (e ∷ []),
      subst (λ st. is_had_by n what st ≡ true) (sym (state_after-more past e))
          (lasts_alone l (mine e.caller past) (state_after past) e.caller n e.act (legal-sound l past legal)
          step.condition step.answers what
          (of_no_sort (is_by n e) (gives_back what e.act) (spoils e.act) not_such).0 so.2),
      subst (Knows (mine n (so.0 ++ e ∷ []))) (sym (state_after-more past e)) (by_caller (is_by n e) refl),
    )
      where
        by_caller : (b : Bool) → is_by n e ≡ b
            → Knows (mine n (so.0 ++ e ∷ [])) (effect (state_after past) e.caller e.act)
        by_caller true by =
            let its = or_parts (gives_back what e.act) (spoils e.act)
            (sym (ap (λ b. b && (gives_back what e.act || spoils e.act)) by) ∙ not_such) in
            subst (λ acts. Knows acts (effect (state_after past) e.caller e.act)) (sym (mine-own n so.0 e by))
            (own past e legal step so.2 by its.1 (mine n so.0) so.3)
        by_caller false by =
            subst (λ acts. Knows acts (effect (state_after past) e.caller e.act)) (sym (mine-other n so.0 e by))
            (other past e legal step so.2 by (mine n so.0) so.3)

-- Where no step ends a fact while the caller has something, but some acts of its own: the fact stands
-- while the caller keeps that and does no such act.
pub stands_while : (l : Limits) (n : CallerNo) (what : OwnFact) (spoils : Act → Bool) (P : State → Type 0)
    → ((past : List Event) (e : Event) → IsLegal l past → IsStep l past e → is_had_by n what (state_after past) ≡ true
    → (is_by n e && spoils e.act) ≡ false
    → P (state_after past) → P (effect (state_after past) e.caller e.act))
    → (before later : List Event) → Keeps l n what before later → has spoils (mine n later) ≡ false
    → P (state_after before) → P (state_after (before ++ later))
stands_while l n what spoils P each =
    knows_while l n what spoils (λ _ st. P st)
    (λ past e legal step had by spared _. each past e legal step had
    (ap (λ b. is_by n e && b) spared ∙ and-false (is_by n e)))
    (λ past e legal step had by _. each past e legal step had (ap (λ b. b && spoils e.act) by))
