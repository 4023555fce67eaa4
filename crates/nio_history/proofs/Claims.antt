-- What a caller's own claim of an index tells: while it has the pin of that claim, what each step keeps from
-- the claim on stands.
use Rattle.std.proofs.Common.{◌≡◌, ℕ, ◌==◌, Bool, true, false, ◌&&◌, ◌||◌, Option, Some, None, List, [], ◌∷◌, ◌++◌}
use Rattle.std.proofs.Common.{if◌then◌else◌, refl, ap, sym, ◌∙◌, subst, eqb-true, eq-eqb}
use Rattle.std.specs.Option.{option_or}
use Rattle.std.proofs.Math.Bool.{or-true}
use Rattle.std.proofs.lemmas.Bool.{and_from, and_right, false_from_ne_true}
use Rattle.nio_base.specs.declared.limits.Limits.{Limits}
use Rattle.nio_base.specs.declared.numbers.CallerNo.{CallerNo}
use Rattle.nio_history.proofs.Legal.{legal_induction}
use Rattle.nio_history.proofs.OneMore.{state_after-more, mine-own, mine-other, last-more}
use Rattle.nio_history.proofs.Put.{put-same, put_at-there, put_pin_keeps}
use Rattle.nio_history.specs.Acts.{effect}
use Rattle.nio_history.specs.Histories.{state_after, is_by, mine, IsStep, IsLegal}
use Rattle.nio_history.specs.OwnEvents.{OwnClaim, last, claim_changed, or_none, own_claim, unpins}
use Rattle.nio_history.specs.State.{State, put, put_at}
use Rattle.nio_history.specs.declared.act.Act.{Act}
use Rattle.nio_history.specs.declared.act.Act.TheVariants.{Claim, Unpin, ClaimAgain, Pin}
use Rattle.nio_history.specs.declared.event.Event.{Event}

-- the claim after an act, by the claim before
abbrev pub claim_after : Option (Option OwnClaim) → Option OwnClaim → Option OwnClaim
claim_after None before = before
claim_after (Some claim) before = claim

or_none-or : (x y : Option (Option OwnClaim)) → or_none (option_or x y) ≡ claim_after x (or_none y)
or_none-or None y = refl
or_none-or (Some x) y = refl

pub own_claim-more : (s i : ℕ) (own : List Act) (act : Act)
    → own_claim s i (own ++ act ∷ []) ≡ claim_after (claim_changed s i act) (own_claim s i own)
own_claim-more s i own act =
    ap or_none (last-more (claim_changed s i) own act)
    ∙ or_none-or (claim_changed s i act) (last (claim_changed s i) own)

-- an act that takes the pin off ends the claim
unpin_ends : (s i : ℕ) (act : Act) (before : Option OwnClaim) (claim : OwnClaim) → unpins s i act ≡ true
    → claim_after (claim_changed s i act) before ≡ Some claim → ⊥
unpin_ends s i (Unpin s' i') before claim unpinned now =
    let ended : claim_after (if (s'.0 == s) && (i' == i) then Some None else None) before
    ≡ None = ap (λ b. claim_after (if b then Some None else None) before) unpinned in
    let clash : None ≡ Some claim = sym ended ∙ now in
    cc
unpin_ends s i act before claim unpinned now = absurd (cc unpinned)

-- A fact that stands after each claim, and that each step keeps but those that take the pin of the claim off,
-- stands while a caller has that pin.
pub claim_told : (l : Limits) (n : CallerNo) (s i : ℕ) (R : OwnClaim → State → Type 0)
    → ((past : List Event) (e : Event) (claim : OwnClaim) → IsLegal l past → IsStep l past e → is_by n e ≡ true
    → claim_changed s i e.act ≡ Some (Some claim)
    → R claim (effect (state_after past) e.caller e.act))
    → ((past : List Event) (e : Event) (claim : OwnClaim) → IsLegal l past → IsStep l past e
    → (is_by n e && unpins s i e.act) ≡ false → R claim (state_after past)
    → R claim (effect (state_after past) e.caller e.act))
    → (events : List Event) → IsLegal l events → (claim : OwnClaim) → own_claim s i (mine n events) ≡ Some claim
    → R claim (state_after events)
claim_told l n s i R told kept =
    legal_induction l (λ evs. (claim : OwnClaim) → own_claim s i (mine n evs) ≡ Some claim → R claim (state_after evs))
    (λ claim e. absurd cc) each
  where
    each : (past : List Event) (e : Event) → IsLegal l past → IsStep l past e
        → ((claim : OwnClaim) → own_claim s i (mine n past) ≡ Some claim → R claim (state_after past))
        → (claim : OwnClaim) → own_claim s i (mine n (past ++ e ∷ [])) ≡ Some claim
        → R claim (state_after (past ++ e ∷ []))
    each past e legal step before claim now = subst (R claim) (sym (state_after-more past e)) (by_test (is_by n e) refl)
      where
        by_change : (x : Option (Option OwnClaim)) → claim_changed s i e.act ≡ x → is_by n e ≡ true
            → claim_after x (own_claim s i (mine n past)) ≡ Some claim
            → (unpins s i e.act ≡ true → ⊥) → R claim (effect (state_after past) e.caller e.act)
        by_change None changed by now' spared =
            kept past e claim legal step
            (and_right (is_by n e) (unpins s i e.act) (false_from_ne_true (unpins s i e.act) spared)) (before claim now')
        by_change (Some x) changed by now' spared = told past e claim legal step by (changed ∙ ap Some now')

        by_test : (b : Bool) → is_by n e ≡ b → R claim (effect (state_after past) e.caller e.act)
        by_test true by =
            let more : claim_after (claim_changed s i e.act) (own_claim s i (mine n past)) ≡ Some claim =
            sym (own_claim-more s i (mine n past) e.act) ∙ (sym (ap (own_claim s i) (mine-own n past e by)) ∙ now) in
            by_change (claim_changed s i e.act) refl by more
            (λ unpinned. unpin_ends s i e.act (own_claim s i (mine n past)) claim unpinned more)
        by_test false by = kept past e claim legal step (ap (λ b. b && unpins s i e.act) by)
            (before claim (sym (ap (own_claim s i) (mine-other n past e by)) ∙ now))

-- ---- the pin of a claim

pub if_some : {A : Type 0} (b : Bool) (x y : A) → (if b then Some x else None) ≡ Some y → (b ≡ true) × (x ≡ y)
if_some true x y e = (refl, cc)
if_some false x y e = absurd cc

-- a pin lasts until its caller takes it off
pub pin_stays : (st : State) (me n : CallerNo) (act : Act) (s i : ℕ) → ((me.0 == n.0) && unpins s i act) ≡ false
    → st.pinned s i n.0 ≡ true
    → (effect st me act).pinned s i n.0 ≡ true
pin_stays st me n (Claim s' i' c true) s i spared =
    put_pin_keeps (λ _ _ _ b. b ≡ true) st.pinned s'.0 i' me.0 _ (λ e. ap (λ b. b || false) e) s i n.0
pin_stays st me n (Claim s' i' c false) s i spared =
    put_pin_keeps (λ _ _ _ b. b ≡ true) st.pinned s'.0 i' me.0 _ (λ e. ap (λ b. b || true) e) s i n.0
pin_stays st me n (ClaimAgain s' i' c from true) s i spared =
    put_pin_keeps (λ _ _ _ b. b ≡ true) st.pinned s'.0 i' me.0 _ (λ e. ap (λ b. b || false) e) s i n.0
pin_stays st me n (ClaimAgain s' i' c from false) s i spared =
    put_pin_keeps (λ _ _ _ b. b ≡ true) st.pinned s'.0 i' me.0 _ (λ e. ap (λ b. b || true) e) s i n.0
pin_stays st me n (Pin s' i' found) s i spared =
    put_pin_keeps (λ _ _ _ b. b ≡ true) st.pinned s'.0 i' me.0 true (λ _. refl) s i n.0
pin_stays st me n (Unpin s' i') s i spared = λ h.
    put_pin_keeps (λ a b m x. ((me.0 == m) && ((s'.0 == a) && (i' == b))) ≡ false → x ≡ true) st.pinned s'.0 i' me.0
    false
    (λ _ spared'. let clash : true ≡ false = sym itself ∙ spared' in absurd cc) s i n.0 (λ _. h) spared
  where
    itself : ((me.0 == me.0) && ((s'.0 == s'.0) && (i' == i'))) ≡ true
    itself = and_from (me.0 == me.0) ((s'.0 == s'.0) && (i' == i')) (eq-eqb me.0 me.0 refl)
        (and_from (s'.0 == s'.0) (i' == i') (eq-eqb s'.0 s'.0 refl) (eq-eqb i' i' refl))
pin_stays st me n act s i spared = λ h. h

now_pinned : (st : State) (me : CallerNo) (s' i' s i : ℕ) → ((s' == s) && (i' == i)) ≡ true
    → put_at st.pinned s' i' (put (st.pinned s' i') me.0 (st.pinned s' i' me.0 || true)) s i me.0 ≡ true
now_pinned st me s' i' s i here =
    ap (λ g. g me.0) (put_at-there st.pinned s' i' (put (st.pinned s' i') me.0 (st.pinned s' i' me.0 || true)) s i here)
    ∙ (put-same (st.pinned s' i') me.0 (st.pinned s' i' me.0 || true) ∙ or-true (st.pinned s' i' me.0))

-- a step by which a caller claims an index gives it a pin
pub claim_pins : (st : State) (me : CallerNo) (act : Act) (s i : ℕ) (claim : OwnClaim)
    → claim_changed s i act ≡ Some (Some claim) → (effect st me act).pinned s i me.0 ≡ true
claim_pins st me (Claim s' i' c false) s i claim changed =
    now_pinned st me s'.0 i' s i (if_some ((s'.0 == s) && (i' == i)) _ _ changed).0
claim_pins st me (ClaimAgain s' i' c from false) s i claim changed =
    now_pinned st me s'.0 i' s i (if_some ((s'.0 == s) && (i' == i)) _ _ changed).0
claim_pins st me (Unpin s' i') s i claim changed =
    let clash : None ≡ Some claim = (if_some ((s'.0 == s) && (i' == i)) _ _ changed).1 in
    absurd cc
claim_pins st me act s i claim changed = absurd (cc changed)

-- while a caller has a claim, it has a pin on the index
pub claim_pinned : (l : Limits) (n : CallerNo) (events : List Event) (s i : ℕ) (claim : OwnClaim) → IsLegal l events
    → own_claim s i (mine n events) ≡ Some claim
    → (state_after events).pinned s i n.0 ≡ true
claim_pinned l n events s i claim legal = claim_told l n s i (λ _ st. st.pinned s i n.0 ≡ true)
    (λ past e claim' legal' step by changed. subst
    (λ (k : ℕ). (effect (state_after past) e.caller e.act).pinned s i k ≡ true) (eqb-true e.caller.0 n.0 by)
    (claim_pins (state_after past) e.caller e.act s i claim' changed))
    (λ past e claim' legal' step spared. pin_stays (state_after past) e.caller n e.act s i spared)
    events legal claim
