-- Two callers that become one.
use Rattle.std.proofs.Common.{◌≡◌, ℕ, ◌⊎◌, Option, IsFalse, List, [], ap, eqb-true, eq-eqb, inl, inr, refl, subst, sym, ◌∙◌}
use Rattle.std.proofs.lemmas.List.{append-nil}
use Rattle.std.specs.Int.{bit_at}
use mathlib.Core.List.{IsPrefix}
use Rattle.nio_base.specs.declared.numbers.CallerNo.{CallerNo}
use Rattle.nio_base.specs.declared.numbers.SelNo.{SelNo}
use Rattle.nio_history.proofs.Stays.{facts_are_permanent}
use Rattle.nio_history.specs.Permanent.{selector_made, channel_opened, key_published}
use Rattle.nio_history.specs.Conditions.{has_pin}
use Rattle.nio_history.specs.Histories.{mine, state_after}
use Rattle.nio_history.specs.PassViews.{Holds, HasNoPin, HasSelector}
use Rattle.nio_history.specs.declared.event.Event.{Event}
use Rattle.nio_select.proofs.ListedSteps.{lists_are_kept}
use Rattle.nio_select.specs.InHand.{HeldList, HeldSelector}
use Rattle.nio_select.specs.InProgress.{HasList}
use Rattle.nio_words.specs.Passes.{Holds as HoldsNumber, IsPassOf, limits_of, numbers_of, seen}
use Rattle.nio_words.specs.Sharing.{HandsOver, Joins as JoinsPasses, StandsAfter}
use Rattle.nio_words.specs.Views.{view}
use Rattle.nio_words.specs.declared.words.Pass.{Pass}
use Rattle.nio_words.specs.declared.words.Words.{Words}
use Rattle.nio_caller.proofs.Calls.{may_select, same_pins, still_had}
use Rattle.nio_caller.specs.Callers.{HasNoPins, IsActing, Joins, KeepsLists, KeepsProgress, MayCall, Progress, StandsIn}
use Rattle.nio_caller.specs.Callers.{StillHas, held_in}
use Rattle.nio_caller.proofs.KeptProgress.{same_keeps}

-- the numbers that a pass holds, as contracts of callers see them
pub shows : (w : Words) (p : Pass) (n : CallerNo) → HoldsNumber p n → Holds (view w p) n
shows w p n held = eq-eqb (bit_at (numbers_of p) n.0) 1 held

pub shown : (w : Words) (p : Pass) (n : CallerNo) → Holds (view w p) n → HoldsNumber p n
shown w p n held = eqb-true (bit_at (numbers_of p) n.0) 1 held

-- a later pass has what an earlier one has
pub later_has : (w : Words) (p q : Pass) → IsPassOf w q → IsPrefix (seen p) (seen q) → StillHas (view w p) (view w q)
later_has w p q pass begins = record {
  selectors = selector_has;
  channels = λ c has. record {
    inside = has.inside;
    opened = facts_are_permanent (limits_of w) (seen p) (seen q) begins pass.legal (channel_opened c.number.0 c.serial)
        has.opened;
  };
  keys = λ k has. record {
    inside = has.inside;
    published = facts_are_permanent (limits_of w) (seen p) (seen q) begins pass.legal
        (key_published k.sel.0 k.index k.serial) has.published;
  };
  selects = λ n s may. may_select (view w p) (view w q) n s (selector_has s.number)
      (λ list has. lists_are_kept (view w p) (view w q) n list has refl begins pass.legal) may;
}
  where
    selector_has : (s : SelNo) → HasSelector (view w p) s → HasSelector (view w q) s
    selector_has s has = record {
      inside = has.inside;
      made = facts_are_permanent (limits_of w) (seen p) (seen q) begins pass.legal (selector_made s.0) has.made;
    }

-- ---- joining

-- at one table
module _ (w : Words) (p other q : Pass) (me n : CallerNo) (may : MayCall w p me) (may' : MayCall w other n)
    (joins : JoinsPasses w p other q) where
  stands_in : (x : Pass) → StandsAfter x q → StandsIn (view w x) (view w q)
  stands_in x stands = record { begins = stands.begins; own = λ m held. stands.own m (shown w x m held) }

  pins_of : (x : Pass) → IsPassOf w x → HasNoPins (view w x) → StandsAfter x q → (m : CallerNo) → HoldsNumber x m
      → HasNoPin (view w q) m
  pins_of x pass none stands m held =
      same_pins (limits_of w) m (view w x) (view w q) pass.legal joins.pass.legal (stands.own m held)
      (none m (shows w x m held))

  pins_by : (m : CallerNo) → HoldsNumber p m ⊎ HoldsNumber other m → HasNoPin (view w q) m
  pins_by m (inl held) = pins_of p may.ready.pass may.unpinned joins.stands m held
  pins_by m (inr held) = pins_of other may'.ready.pass may'.unpinned joins.other_stands m held

  joined_may_call : MayCall w q me
  joined_may_call = record {
    ready = record { pass = joins.pass; number = (joins.numbers me).1 (inl may.ready.number) };
    unpinned = λ m held. pins_by m ((joins.numbers m).0 (shown w q m held));
  }

  shows_either : (m : CallerNo) → HoldsNumber p m ⊎ HoldsNumber other m → Holds (view w p) m ⊎ Holds (view w other) m
  shows_either m (inl held) = inl (shows w p m held)
  shows_either m (inr held) = inr (shows w other m held)

  shown_either : (m : CallerNo) → Holds (view w p) m ⊎ Holds (view w other) m → HoldsNumber p m ⊎ HoldsNumber other m
  shown_either m (inl held) = inl (shown w p m held)
  shown_either m (inr held) = inr (shown w other m held)

  joins_views : Joins (view w p) (view w other) (view w q)
  joins_views = record {
    sight = joins.sight;
    stands = stands_in p joins.stands;
    other_stands = stands_in other joins.other_stands;
    holds = λ m. (
      λ held. shows_either m ((joins.numbers m).0 (shown w q m held)),
      λ held. shows w q m ((joins.numbers m).1 (shown_either m held)),
    );
  }

  joined_has : StillHas (view w p) (view w q)
  joined_has = later_has w p q joins.pass joins.stands.begins

  other_has : StillHas (view w other) (view w q)
  other_has = later_has w other q joins.pass joins.other_stands.begins

  -- the caller has its own lists still
  joined_acting : (selectors : List (Option HeldSelector)) (progress : Progress) → KeepsLists (view w p) me selectors
      → KeepsProgress (view w p) me progress → IsActing w q me selectors progress
  joined_acting selectors progress keeps goes_on = record {
    may = joined_may_call;
    lists = record {
      numbers = keeps.numbers;
      had = λ s. still_had (held_in selectors s).list
          (λ list has. lists_are_kept (view w p) (view w q) me list has refl joins.stands.begins joins.pass.legal)
          (keeps.had s);
    };
    goes_on = same_keeps (view w p) (view w q) me progress refl (joins.stands.own me may.ready.number)
        (λ list has. lists_are_kept (view w p) (view w q) me list has refl joins.stands.begins joins.pass.legal) goes_on;
  }

-- The tables of both callers, `v` and `v'`, and the one that the call was given, are one.
module _ (w v v' : Words) (at : w ≡ v) (same : v' ≡ v) (p other q : Pass) (me n : CallerNo) (may : MayCall v p me)
    (may' : MayCall v' other n) (joins : JoinsPasses w p other q) where
  joins_here : JoinsPasses v p other q
  joins_here = subst (λ (x : Words). JoinsPasses x p other q) at joins

  other_here : MayCall v other n
  other_here = subst (λ (x : Words). MayCall x other n) same may'

  pub both_join : Joins (view v p) (view v' other) (view v q)
  both_join =
      subst (λ (x : Words). Joins (view v p) (view x other) (view v q)) (sym same)
      (joins_views v p other q me n may other_here joins_here)

  pub has_still : StillHas (view v p) (view v q)
  has_still = joined_has v p other q me n may other_here joins_here

  pub has_other : StillHas (view v' other) (view v q)
  has_other =
      subst (λ (x : Words). StillHas (view x other) (view v q)) (sym same)
      (other_has v p other q me n may other_here joins_here)

  pub acting_joined : (selectors : List (Option HeldSelector)) (progress : Progress) → KeepsLists (view v p) me selectors
      → KeepsProgress (view v p) me progress → IsActing v q me selectors progress
  acting_joined = joined_acting v p other q me n may other_here joins_here

-- ---- parting

-- The number is given away: `v` is the table of the caller, `v'` that of the new one.
module _ (w v v' : Words) (at : w ≡ v') (same : v' ≡ v) (p q given : Pass) (me n : CallerNo) (may : MayCall v p me)
    (hands : HandsOver w n p q given) where
  hands_here : HandsOver v n p q given
  hands_here = subst (λ (x : Words). HandsOver x n p q given) (at ∙ same) hands

  pins_stay : (x : Pass) → seen x ≡ seen p → (m : CallerNo) → HoldsNumber p m → HasNoPin (view v x) m
  pins_stay x sight m held =
      subst (λ (es : List Event). (s : SelNo) (i : ℕ) → IsFalse (has_pin (state_after es) m s i)) (sym sight)
      (may.unpinned m (shows v p m held))

  pub left_may_call : (n ≡ me → ⊥) → MayCall v q me
  left_may_call other = record {
    ready = record {
      pass = hands_here.sees.pass;
      number = (hands_here.numbers me).1 (may.ready.number, λ same. other (sym same));
    };
    unpinned = λ m held. pins_stay q hands_here.sees.sight m ((hands_here.numbers m).0 (shown v q m held)).0;
  }

  given_here : HoldsNumber p n → MayCall v given n
  given_here held = record {
    ready = record { pass = hands_here.sees.given_pass; number = (hands_here.given_number n).1 refl };
    unpinned = λ m its.
        let is : m ≡ n = (hands_here.given_number m).0 (shown v given m its) in
        pins_stay given hands_here.sees.given_sight m (subst (λ (k : CallerNo). HoldsNumber p k) (sym is) held);
  }

  pub given_may_call : HoldsNumber p n → MayCall v' given n
  given_may_call held = subst (λ (x : Words). MayCall x given n) (sym same) (given_here held)

  pub left_acting : (n ≡ me → ⊥) → (selectors : List (Option HeldSelector)) (progress : Progress)
      → KeepsLists (view v p) me selectors → KeepsProgress (view v p) me progress → IsActing v q me selectors progress
  left_acting other selectors progress keeps goes_on = record {
    may = left_may_call other;
    lists = record {
      numbers = keeps.numbers;
      had = λ s. still_had (held_in selectors s).list kept (keeps.had s);
    };
    goes_on = same_keeps (view v p) (view v q) me progress refl
        (ap (mine me) hands_here.sees.sight) kept goes_on;
  }
    where
      kept : (list : HeldList) → HasList (view v p) me list → HasList (view v q) me list
      kept list has =
          lists_are_kept (view v p) (view v q) me list has refl
          ([], append-nil (seen p) ∙ sym hands_here.sees.sight) hands_here.sees.pass.legal
