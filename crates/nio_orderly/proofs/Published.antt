-- A publish in a legal and careful history: its key is the one that is enrolled for its channel, its channel is
-- non-blocking, and it is prepared.
use Rattle.std.proofs.Common.{◌≡◌, ℕ, ◌==◌, ◌+◌, Bool, true, false, cond, not, ◌&&◌, ◌⊎◌, inl, inr, Option, Some, None}
use Rattle.std.proofs.Common.{List, [], ◌∷◌, ◌++◌, refl, ap, sym, ◌∙◌, subst, eqb-true, arith}
use Rattle.std.proofs.lemmas.Bool.{and_parts, or_cases, not-true}
use Rattle.nio_base.specs.Limits.{IsFit}
use Rattle.nio_base.specs.declared.limits.Limits.{Limits}
use Rattle.nio_base.specs.declared.numbers.CallerNo.{CallerNo}
use Rattle.nio_base.specs.declared.numbers.ChanNo.{ChanNo}
use Rattle.nio_base.specs.declared.numbers.KeyId.{KeyId}
use Rattle.nio_base.specs.declared.numbers.SelNo.{SelNo}
use Rattle.nio_history.proofs.Holder.{held_since, holder_knows_mode}
use Rattle.nio_history.proofs.Keeping.{knows_while}
use Rattle.nio_history.proofs.LastsAlone.{one_holder, spares_not, same_two}
use Rattle.nio_history.proofs.OneMore.{has-more}
use Rattle.nio_history.proofs.PinLaws.{own_claims_stand}
use Rattle.nio_history.proofs.Put.{put_at_keeps, put_at-there}
use Rattle.nio_history.proofs.Soundness.{both_ways}
use Rattle.nio_history.specs.Acts.{effect}
use Rattle.nio_history.specs.Conditions.{Condition, is_held_by, holds, may_publish}
use Rattle.nio_history.specs.Histories.{state_after, mine, IsStep, IsLegal}
use Rattle.nio_history.specs.OwnEvents.{OwnClaim, has, count, under, own_claim, enrols_key, finds_unblocked}
use Rattle.nio_history.specs.Permanent.{the_hold}
use Rattle.nio_history.specs.Pins.{IsOfClaim}
use Rattle.nio_history.specs.State.{State}
use Rattle.nio_history.specs.declared.act.Act.{Act}
use Rattle.nio_history.specs.declared.act.Act.TheVariants.{Publish, Enrol}
use Rattle.nio_history.specs.declared.event.Event.{Event}
use Rattle.nio_history.specs.declared.found.Stage.{Stage}
use Rattle.nio_orderly.proofs.ActLists.{count-more, has_counts}
use Rattle.nio_orderly.proofs.Careful.{key_enrolled_for, careful_last}
use Rattle.nio_orderly.proofs.LookingBack.{MayPublish}
use Rattle.nio_orderly.specs.Careful.{enrols_for, enrols_this_key, is_prepared, IsCareful}
use Rattle.nio_orderly.specs.Owed.{publishes_key}

-- ---- which act it is

pub record IsPublish (c s : ℕ) (k : KeyId) (act : Act) : Type 0 where
  pub found : Stage
  pub is : act ≡ Publish (record { 0 = s }) k.index found
  pub channel : found.chan.0 ≡ c
  pub serial : found.serial ≡ k.serial
  pub unpublished : found.published ≡ false
  pub unremoved : found.removed ≡ false

pub is_publish : (c s : ℕ) (k : KeyId) (act : Act) → publishes_key c s k act ≡ true → IsPublish c s k act
is_publish c s k (Publish s' i' found) told =
    let six = and_parts ((s'.0 == s) && (i' == k.index) && (found.chan.0 == c) && (found.serial == k.serial)
    && not found.published) (not found.removed) told in
    let five = and_parts ((s'.0 == s) && (i' == k.index) && (found.chan.0 == c) && (found.serial == k.serial))
    (not found.published) six.0 in
    let four = and_parts ((s'.0 == s) && (i' == k.index) && (found.chan.0 == c)) (found.serial == k.serial) five.0 in
    let three = and_parts ((s'.0 == s) && (i' == k.index)) (found.chan.0 == c) four.0 in
    let two = and_parts (s'.0 == s) (i' == k.index) three.0 in
    record {
      found = found;
      is = ap (λ (m : ℕ). Publish (record { 0 = m }) i' found) (eqb-true s'.0 s two.0)
          ∙ ap (λ (j : ℕ). Publish (record { 0 = s }) j found) (eqb-true i' k.index two.1);
      channel = eqb-true found.chan.0 c three.1;
      serial = eqb-true found.serial k.serial four.1;
      unpublished = not-true found.published five.1;
      unremoved = not-true found.removed six.1;
    }
is_publish c s k act told = absurd (cc told)

-- ---- the enrolled key

pub enrolled_other : (st : State) (me : CallerNo) (act : Act) (c s : ℕ) (o : Option KeyId) → enrols_key c s act ≡ false
    → st.enrolled c s ≡ o → (effect st me act).enrolled c s ≡ o
enrolled_other st me (Enrol c' s' i serial found) c s o spared = λ now.
    put_at_keeps (λ m t x. ((c'.0 == m) && (s'.0 == t)) ≡ false → x ≡ o) st.enrolled c'.0 s'.0 _
    (λ _ spared'. absurd (both_ways ((c'.0 == c'.0) && (s'.0 == s'.0)) (same_two c'.0 s'.0) spared')) c s
    (λ _. now) spared
enrolled_other st me act c s o spared = λ now. now

enrolled_by_holder : (l : Limits) (own : List Act) (st : State) (me n : CallerNo) (act : Act) (c s : ℕ)
    (o : Option KeyId)
    → Condition l own st me act
    → is_held_by n (st.hold c) ≡ true → (me.0 == n.0) ≡ false → st.enrolled c s ≡ o
    → (effect st me act).enrolled c s ≡ o
enrolled_by_holder l own st me n (Enrol k s' i serial found) c s o may held other = λ now.
    put_at_keeps (λ m t x. is_held_by n (st.hold m) ≡ true → x ≡ o) st.enrolled k.0 s'.0 _
    (λ _ held'. absurd
    (spares_not me n true (one_holder me n (st.hold k.0) may.3 held') refl (ap (λ b. b && true) other))) c s
    (λ _. now) held
enrolled_by_holder l own st me n act c s o may held other = λ now. now

not_for_not_there : (c s : ℕ) (act : Act) → enrols_for c act ≡ false → enrols_key c s act ≡ false
not_for_not_there c s (Enrol c' s' i serial found) none = ap (λ b. b && (s'.0 == s)) none
not_for_not_there c s act none = refl

key_enrolled : (st : State) (me : CallerNo) (act : Act) (c s i q : ℕ) → enrols_this_key c s i q act ≡ true
    → (effect st me act).enrolled c s ≡ Some (record { index = i; serial = q })
key_enrolled st me (Enrol c' s' i' serial found) c s i q told =
    let four = and_parts ((c'.0 == c) && (s'.0 == s) && (i' == i)) (serial == q) told in
    let three = and_parts ((c'.0 == c) && (s'.0 == s)) (i' == i) four.0 in
    put_at-there st.enrolled c'.0 s'.0 (Some (key i' serial)) c s three.0
    ∙ (ap (λ (j : ℕ). Some (key j serial)) (eqb-true i' i three.1)
    ∙ ap (λ (r : ℕ). Some (key i r)) (eqb-true serial q four.1))
  where
    key : ℕ → ℕ → KeyId
    key j r = record { index = j; serial = r }
key_enrolled st me act c s i q told = absurd (cc told)

no_such : (own : List Act) → has (λ _. false) own ≡ false
no_such [] = refl
no_such (act ∷ own) = no_such own

-- under its hold a caller enrolled this key and no other for the channel: so it is enrolled
pub enrolled_under : (l : Limits) (n : CallerNo) (c : ChanNo) (s i q : ℕ) (events : List Event) → IsLegal l events
    → is_held_by n ((state_after events).hold c.0) ≡ true
    → count (enrols_for c.0) (under c.0 (mine n events)) ≡ 1
    → has (enrols_this_key c.0 s i q) (under c.0 (mine n events)) ≡ true
    → (state_after events).enrolled c.0 s ≡ Some (record { index = i; serial = q })
enrolled_under l n c s i q events legal held once had =
    let since = held_since l n c events legal held in
    let known =
    knows_while l n (the_hold c) (λ _. false) Knows own_step other_step since.before since.later since.keeps
    (no_such (mine n since.later)) (λ one. absurd cc)
    (sym (ap (count (enrols_for c.0)) since.own) ∙ once) (sym (ap (has (enrols_this_key c.0 s i q)) since.own) ∙ had) in
    subst (λ evs. (state_after evs).enrolled c.0 s ≡ key) (sym since.whole) known
  where
    key : Option KeyId
    key = Some (record { index = i; serial = q })

    Knows : List Act → State → Type 0
    Knows did st = count (enrols_for c.0) did ≡ 1 → has (enrols_this_key c.0 s i q) did ≡ true → st.enrolled c.0 s ≡ key

    other_step : (past : List Event) (e : Event) → IsLegal l past → IsStep l past e
        → is_held_by n ((state_after past).hold c.0) ≡ true → (e.caller.0 == n.0) ≡ false
        → (did : List Act) → Knows did (state_after past) → Knows did (effect (state_after past) e.caller e.act)
    other_step past e legal' step had' by did knew one some =
        enrolled_by_holder l (mine e.caller past) (state_after past) e.caller n e.act c.0 s key step.condition had' by
        (knew one some)

    own_step : (past : List Event) (e : Event) → IsLegal l past → IsStep l past e
        → is_held_by n ((state_after past).hold c.0) ≡ true → (e.caller.0 == n.0) ≡ true → false ≡ false
        → (did : List Act) → Knows did (state_after past)
        → Knows (did ++ e.act ∷ []) (effect (state_after past) e.caller e.act)
    own_step past e legal' step had' by spared did knew one some = by_enrolling (enrols_for c.0 e.act) refl
      where
        more : count (enrols_for c.0) did + cond (enrols_for c.0 e.act) 1 0 ≡ 1
        more = sym (count-more (enrols_for c.0) did e.act) ∙ one

        had_or : (has (enrols_this_key c.0 s i q) did ≡ true) ⊎ (enrols_this_key c.0 s i q e.act ≡ true)
        had_or = or_cases (has (enrols_this_key c.0 s i q) did) (enrols_this_key c.0 s i q e.act)
            (sym (has-more (enrols_this_key c.0 s i q) did e.act) ∙ some)

        by_enrolling : (b : Bool) → enrols_for c.0 e.act ≡ b
            → (effect (state_after past) e.caller e.act).enrolled c.0 s ≡ key
        by_enrolling true enrolled = elim had_or [
          | inl before ↦
              let few = has_counts (enrols_for c.0) (enrols_this_key c.0 s i q)
              (key_enrolled_for c.0 s i q) did before in
              let now : ◌≡◌ {A = ℕ} (cond (enrols_for c.0 e.act) 1 0) 1 = ap (λ b. cond b 1 0) enrolled in
              absurd (omega (arith, more, few, now))
          | inr told ↦ key_enrolled (state_after past) e.caller e.act c.0 s i q told
        ]
        by_enrolling false enrolled = elim had_or [
          | inl before ↦
              let now : ◌≡◌ {A = ℕ} (cond (enrols_for c.0 e.act) 1 0) 0 = ap (λ b. cond b 1 0) enrolled in
              enrolled_other (state_after past) e.caller e.act c.0 s key (not_for_not_there c.0 s e.act enrolled)
              (knew (omega (arith, more, now)) before)
          | inr told ↦ absurd (both_ways (enrols_for c.0 e.act) (key_enrolled_for c.0 s i q e.act told) enrolled)
        ]

-- ---- what stands at a publish

pub record AtPublish (past : List Event) (me : CallerNo) (s i : ℕ) : Type 0 where
  pub claim : OwnClaim
  pub its : own_claim s i (mine me past) ≡ Some claim
  pub of_claim : IsOfClaim claim ((state_after past).key s i)
  pub enrolled : (state_after past).enrolled claim.channel.0 s ≡ Some (record { index = i; serial = claim.serial })
  pub unblocked : ((state_after past).chan claim.channel.0).blocking ≡ false
  pub prepared : is_prepared s i (mine me past) ≡ true

-- a caller that may publish has a claim, and holds its channel, which it found non-blocking under this hold
pub record MayClaim (st : State) (own : List Act) (me : CallerNo) (claim : Option OwnClaim) : Type 0 where
  pub its_claim : OwnClaim
  pub is : claim ≡ Some its_claim
  pub held : holds st me its_claim.channel ≡ true
  pub found : has (finds_unblocked its_claim.channel.0) (under its_claim.channel.0 own) ≡ true

pub may_claim : (st : State) (own : List Act) (me : CallerNo) (claim : Option OwnClaim)
    → may_publish st own me claim ≡ true → MayClaim st own me claim
may_claim st own me None may = absurd cc
may_claim st own me (Some claim) may =
    let both = and_parts (holds st me claim.channel) (has (finds_unblocked claim.channel.0) (under claim.channel.0 own))
    may in
    record { its_claim = claim; is = refl; held = both.0; found = both.1 }

pub at_publish : (l : Limits) (past : List Event) (e : Event) → IsFit l → IsLegal l past → IsStep l past e
    → IsCareful (past ++ e ∷ [])
    → (s i : ℕ) (found : Stage) → e.act ≡ Publish (record { 0 = s }) i found → AtPublish past e.caller s i
at_publish l past e fit legal step careful s i found publishes = record {
  claim = may.its_claim;
  its = may.is;
  of_claim = (own_claims_stand l e.caller sel i may.its_claim past fit legal may.is).1;
  enrolled = enrolled_under l e.caller may.its_claim.channel s i may.its_claim.serial past legal may.held
      rules.enrolled_alone
      rules.enrolled;
  unblocked = holder_knows_mode l e.caller may.its_claim.channel past legal may.held may.found rules.mode;
  prepared = rules.prepared;
}
  where
    sel : SelNo
    sel = record { 0 = s }

    condition : Condition l (mine e.caller past) (state_after past) e.caller (Publish sel i found)
    condition = subst (λ act. Condition l (mine e.caller past) (state_after past) e.caller act) publishes step.condition

    may : MayClaim (state_after past) (mine e.caller past) e.caller (own_claim s i (mine e.caller past))
    may = may_claim (state_after past) (mine e.caller past) e.caller (own_claim s i (mine e.caller past)) condition.1

    rules : MayPublish s i may.its_claim (mine e.caller past)
    rules = careful_last past e careful sel i found publishes may.its_claim may.is
