-- The two histories in which a channel is closed while another caller registers it, by computing.
use Rattle.std.proofs.Common.{◌≡◌, ℕ, ◌==◌, ◌<◌, ◌≤◌, Bool, true, false, ◌&&◌, ◌||◌, inl, inr, Some, None, List, []}
use Rattle.std.proofs.Common.{◌∷◌, ◌++◌, take, drop, append_assoc, refl, ap, sym, ◌∙◌, subst, eqb-true, arith, lit<}
use Rattle.std.proofs.Common.{lit≤}
use Rattle.std.specs.Prelude.{nat_lt}
use Rattle.std.specs.List.{list_all}
use Rattle.std.proofs.lemmas.Bool.{and_parts, and_from, ltb-true, eqb-false, ne_eqb, or_right}
use Rattle.std.proofs.lemmas.List.{append-nil}
use Rattle.nio_base.specs.Limits.{IsFit}
use Rattle.nio_base.specs.Numbers.{first_channel}
use Rattle.nio_base.specs.declared.numbers.CallerNo.{CallerNo}
use Rattle.nio_history.proofs.Legal.{not_empty, legal_beginning, legal_more}
use Rattle.nio_history.proofs.OneMore.{mine-other, mine-append}
use Rattle.nio_history.proofs.Soundness.{both_ways}
use Rattle.nio_history.proofs.WorkedSteps.{worked_history_is_legal}
use Rattle.nio_history.specs.Conditions.{WasOpen}
use Rattle.nio_history.specs.Histories.{state_after, event_of, mine, IsLegal}
use Rattle.nio_history.specs.OwnEvents.{OwnClaim, own_claim}
use Rattle.nio_history.specs.Worked.{u, v, s, c, chan, stage, enrolled, small_limits, worked_history}
use Rattle.nio_history.specs.declared.act.Act.{Act}
use Rattle.nio_history.specs.declared.act.Act.TheVariants.{LookChannel, Publish, LookReg, CloseBit}
use Rattle.nio_history.specs.declared.event.Event.{Event}
use Rattle.nio_orderly.proofs.ActLists.{split_last}
use Rattle.nio_orderly.proofs.LookingBack.{MayPublish, CarefulAct, AreCarefulActs}
use Rattle.nio_orderly.proofs.LookingBackLaw.{careful_from_acts}
use Rattle.nio_orderly.proofs.Owed.{nothing_is_lost}
use Rattle.nio_orderly.specs.Careful.{IsCareful}
use Rattle.nio_orderly.specs.Examples.{closed_meanwhile, DebtStands, unenrolled_key, CancellationIsLost}
use Rattle.nio_history.specs.OwnEvents.{closes}
use Rattle.nio_orderly.specs.Owed.{publishes_key, Duty, owes, publisher_duty, closing_duty, OwesSince, Owed}

-- ---- for each caller

abbrev caller : ℕ → CallerNo
caller n = record { 0 = n }

-- a caller of whom there is no event did nothing
does_nothing : (n : CallerNo) (events : List Event) → list_all (λ e. nat_lt e.caller.0 2) events ≡ true → 2 ≤ n.0
    → mine n events ≡ []
does_nothing n [] few other = refl
does_nothing n (e ∷ events) few other =
    let both = and_parts (nat_lt e.caller.0 2) (list_all (λ x. nat_lt x.caller.0 2) events) few in
    let lower : e.caller.0 < 2 = ltb-true e.caller.0 2 both.0 in
    mine-append n (e ∷ []) events
    ∙ (ap (λ acts. acts ++ mine n events) (mine-other n [] e (ne_eqb e.caller.0 n.0 (λ same. omega arith)))
    ∙ does_nothing n events both.1 other)

-- what holds of what u did, of what v did, and of nothing, holds of what each caller did where all events are theirs
pub for_each_caller : (events : List Event) → list_all (λ e. nat_lt e.caller.0 2) events ≡ true
    → (P : List Act → Type 0) → P (mine u events) → P (mine v events) → P [] → (n : CallerNo) → P (mine n events)
for_each_caller events few P of_u of_v of_none n = by_first (n.0 == 0) refl
  where
    by_second : (b : Bool) → (n.0 == 1) ≡ b → (n.0 == 0) ≡ false → P (mine n events)
    by_second true same not_first = subst (λ (k : ℕ). P (mine (caller k) events)) (sym (eqb-true n.0 1 same)) of_v
    by_second false other not_first =
        let not_zero : n.0 ≡ 0 → ⊥ = eqb-false n.0 0 not_first in
        let not_one : n.0 ≡ 1 → ⊥ = eqb-false n.0 1 other in
        subst P (sym (does_nothing n events few (omega (arith, not_zero, not_one)))) of_none

    by_first : (b : Bool) → (n.0 == 0) ≡ b → P (mine n events)
    by_first true same = subst (λ (k : ℕ). P (mine (caller k) events)) (sym (eqb-true n.0 0 same)) of_u
    by_first false other = by_second (n.0 == 1) refl other

-- ---- acts done with care, one after the other

abbrev EachCareful : List Act → List Act → Type 0
EachCareful own [] = Unit {0}
EachCareful own (act ∷ later) = CarefulAct own act × EachCareful (own ++ act ∷ []) later

each_careful : (own later : List Act) → EachCareful own later → AreCarefulActs own → AreCarefulActs (own ++ later)
each_careful own [] each before = subst AreCarefulActs (sym (append-nil own)) before
each_careful own (x ∷ later) each before =
    subst AreCarefulActs (append_assoc own (x ∷ []) later) (each_careful (own ++ x ∷ []) later each.1 one_more)
  where
    one_more : AreCarefulActs (own ++ x ∷ [])
    one_more b act rest eq = elim (split_last own x b act rest eq) [
      | inl last ↦ subst (λ acts. CarefulAct acts act) last.before (subst (CarefulAct own) last.act each.0)
      | inr more ↦ before b act more.rest more.before
    ]

none_careful : AreCarefulActs []
none_careful b act rest eq = absurd (not_empty b act rest eq)

-- a step, and then the others
infixr 5 ◌▸◌
abbrev ◌▸◌ : {A B : Type 0} → A → B → A × B
first ▸ later = (first, later)

-- ---- a debt that stands

legal_take : (k : ℕ) → take k worked_history ++ drop k worked_history ≡ worked_history
    → IsLegal small_limits (take k worked_history)
legal_take k whole =
    legal_beginning small_limits (take k worked_history) (drop k worked_history)
    (subst (IsLegal small_limits) (sym whole) worked_history_is_legal)

meanwhile_legal : IsLegal small_limits closed_meanwhile
meanwhile_legal =
    legal_more small_limits (take 27 worked_history)
    (event_of v (CloseBit c (chan false false) (chan false false))) (legal_take 27 refl)
    (record { by_caller = lit< tt; condition = (lit< tt, was_open); answers = refl })
  where
    was_open : WasOpen (state_after (take 27 worked_history)) c (chan false false)
    was_open = record { made = refl; open_then = refl; kind = refl; was = refl }

publishes_carefully : (claim : OwnClaim) → own_claim 0 0 (take 24 (mine u closed_meanwhile)) ≡ Some claim
    → MayPublish 0 0 claim (take 24 (mine u closed_meanwhile))
publishes_carefully claim its =
    subst (λ cl. MayPublish 0 0 cl (take 24 (mine u closed_meanwhile)))
    (claim_is (record { channel = c; serial = 0 }) claim its)
    (record { enrolled = refl; enrolled_alone = refl; mode = refl; prepared = refl })
  where
    claim_is : (x y : OwnClaim) → Some x ≡ Some y → x ≡ y
    claim_is x y e = cc

meanwhile_of_u : EachCareful [] (mine u closed_meanwhile)
meanwhile_of_u =
    -- it opens a selector and a channel
    tt ▸ tt ▸ tt ▸ tt ▸ tt ▸ tt ▸ tt ▸
    -- it sets non-blocking mode
    tt ▸ tt ▸ tt ▸ refl ▸ tt ▸
    -- it registers the channel, till the key is published
    tt ▸ tt ▸ tt ▸ tt ▸ tt ▸ tt ▸ tt ▸ tt ▸ tt ▸ tt ▸ tt ▸ refl ▸ publishes_carefully ▸ tt

meanwhile_of_v : EachCareful [] (mine v closed_meanwhile)
meanwhile_of_v = tt ▸ tt ▸ tt ▸ tt

meanwhile_careful : IsCareful closed_meanwhile
meanwhile_careful =
    careful_from_acts small_limits closed_meanwhile meanwhile_legal
    (for_each_caller closed_meanwhile refl AreCarefulActs
    (each_careful [] (mine u closed_meanwhile) meanwhile_of_u none_careful)
    (each_careful [] (mine v closed_meanwhile) meanwhile_of_v none_careful) none_careful)

pub debt_stands : DebtStands
debt_stands = record {
  legal = meanwhile_legal;
  careful = meanwhile_careful;
  valid = refl;
  closed = refl;
  owing = record {
    caller = u;
    before = take 24 (mine u closed_meanwhile);
    act = Publish s 0 (stage 0 false false false);
    since = [];
    did = refl;
    made = refl;
    owing = refl;
  };
}

-- ---- a cancellation that is lost

-- whether, of such acts in the list, one is owed
abbrev any_owed : (Act → Bool) → Duty → List Act → Bool
any_owed makes duty [] = false
any_owed makes duty (act ∷ later) = (makes act && owes duty later) || any_owed makes duty later

owed_in : (makes : Act → Bool) (duty : Duty) (own before : List Act) (act : Act) (since : List Act)
    → own ≡ before ++ act ∷ since → makes act ≡ true → owes duty since ≡ true
    → any_owed makes duty own ≡ true
owed_in makes duty [] before act since eq made owing = absurd (not_empty before act since eq)
owed_in makes duty (x ∷ own) [] act since eq made owing =
    let first : x ≡ act = cc eq in
    let rest : own ≡ since = cc eq in
    ap (λ b. b || any_owed makes duty own)
    (and_from (makes x) (owes duty own) (ap makes first ∙ made) (ap (owes duty) rest ∙ owing))
owed_in makes duty (x ∷ own) (y ∷ before) act since eq made owing =
    or_right (makes x && owes duty own) (any_owed makes duty own)
    (owed_in makes duty own before act since (cc eq) made owing)

nobody_owes : (events : List Event) (makes : Act → Bool) (duty : Duty)
    → ((n : CallerNo) → any_owed makes duty (mine n events) ≡ false) → OwesSince events makes duty → ⊥
nobody_owes events makes duty none debt =
    both_ways (any_owed makes duty (mine debt.caller events))
    (owed_in makes duty (mine debt.caller events) debt.before debt.act debt.since debt.did debt.made debt.owing)
    (none debt.caller)

unenrolled_legal : IsLegal small_limits unenrolled_key
unenrolled_legal = looked_for
  where
    published : IsLegal small_limits
        (take 25 worked_history ++ event_of u (Publish s 0 (stage 0 false false false)) ∷ [])
    published =
        legal_more small_limits (take 25 worked_history) (event_of u (Publish s 0 (stage 0 false false false)))
        (legal_take 25 refl)
        (record { by_caller = lit< tt; condition = ((lit< tt, lit< tt), refl, refl); answers = refl })

    looked : IsLegal small_limits
        (take 25 worked_history ++ event_of u (Publish s 0 (stage 0 false false false))
        ∷ event_of u (LookChannel c (chan false false)) ∷ [])
    looked = legal_more small_limits
        (take 25 worked_history ++ event_of u (Publish s 0 (stage 0 false false false)) ∷ [])
        (event_of u (LookChannel c (chan false false))) published
        (record { by_caller = lit< tt; condition = lit< tt; answers = refl })

    was_open : WasOpen
        (state_after (take 25 worked_history ++ event_of u (Publish s 0 (stage 0 false false false))
        ∷ event_of u (LookChannel c (chan false false)) ∷ [])) c (chan false false)
    was_open = record { made = refl; open_then = refl; kind = refl; was = refl }

    closed : IsLegal small_limits
        (take 25 worked_history ++ event_of u (Publish s 0 (stage 0 false false false))
        ∷ event_of u (LookChannel c (chan false false))
        ∷ event_of v (CloseBit c (chan false false) (chan false false)) ∷ [])
    closed = legal_more small_limits
        (take 25 worked_history ++ event_of u (Publish s 0 (stage 0 false false false))
        ∷ event_of u (LookChannel c (chan false false)) ∷ [])
        (event_of v (CloseBit c (chan false false) (chan false false))) looked
        (record { by_caller = lit< tt; condition = (lit< tt, was_open); answers = refl })

    looked_for : IsLegal small_limits unenrolled_key
    looked_for = legal_more small_limits
        (take 25 worked_history ++ event_of u (Publish s 0 (stage 0 false false false))
        ∷ event_of u (LookChannel c (chan false false))
        ∷ event_of v (CloseBit c (chan false false) (chan false false)) ∷ [])
        (event_of v (LookReg c s None)) closed
        (record { by_caller = lit< tt; condition = (lit< tt, lit< tt); answers = refl })

unenrolled_lost : Owed unenrolled_key → ⊥
unenrolled_lost owed = elim (owed.channels 0 0 refl refl) [
  | inl debt ↦
      nobody_owes unenrolled_key (publishes_key 0 0 (enrolled 0 0)) (publisher_duty 0 0 (enrolled 0 0))
      (for_each_caller unenrolled_key refl
      (λ own. any_owed (publishes_key 0 0 (enrolled 0 0)) (publisher_duty 0 0 (enrolled 0 0)) own ≡ false)
      refl refl refl)
      debt
  | inr debt ↦
      nobody_owes unenrolled_key (closes (first_channel c)) (closing_duty (first_channel c) 0 (enrolled 0 0))
      (for_each_caller unenrolled_key refl
      (λ own. any_owed (closes (first_channel c)) (closing_duty (first_channel c) 0 (enrolled 0 0)) own ≡ false)
      refl refl refl)
      debt
]

small_limits_fit : IsFit small_limits
small_limits_fit = record {
  some_callers = lit≤ tt;
  few_callers = lit≤ tt;
  some_selectors = lit≤ tt;
  few_selectors = lit≤ tt;
  some_channels = lit≤ tt;
  few_channels = lit≤ tt;
  some_keys = lit≤ tt;
  few_keys = lit≤ tt;
}

pub cancellation_is_lost : CancellationIsLost
cancellation_is_lost = record {
  legal = unenrolled_legal;
  careless = λ careful. unenrolled_lost (nothing_is_lost small_limits unenrolled_key small_limits_fit
      unenrolled_legal careful);
  valid = refl;
  closed = refl;
  lost = unenrolled_lost;
}
