-- What stands after every legal history beside soundness: a claimed key's channel is made, a shut selector has a
-- closer, and what a caller's acts tell of the keys' high-water mark and of entering.
use Rattle.std.proofs.Common.{◌≡◌, ℕ, ◌==◌, ◌<◌, max, suc, true, false, Some, None, is_some, List, refl, sym, ◌∙◌}
use Rattle.std.proofs.Common.{subst, eqb-true, arith}
use Rattle.std.specs.Prelude.{nat_lt}
use Rattle.std.proofs.lemmas.Bool.{and_parts, ltb-true, lt-ltb, or_right}
use Rattle.nio_base.specs.declared.limits.Limits.{Limits}
use Rattle.nio_base.specs.declared.numbers.CallerNo.{CallerNo}
use Rattle.nio_history.proofs.Lasts.{keys_high_lasts, entered_lasts, made_lasts}
use Rattle.nio_history.proofs.Legal.{legal_induction}
use Rattle.nio_history.proofs.OneMore.{state_after-more}
use Rattle.nio_history.proofs.Put.{put_keeps, put_both, put-same, put_at_keeps}
use Rattle.nio_history.proofs.Soundness.{legal-sound, held_some}
use Rattle.nio_history.proofs.Told.{has_told}
use Rattle.nio_history.specs.Acts.{effect, new_key}
use Rattle.nio_history.specs.Answers.{Answers}
use Rattle.nio_history.specs.Conditions.{Condition}
use Rattle.nio_history.specs.Histories.{state_after, mine, IsLegal}
use Rattle.nio_history.specs.OwnEvents.{has, enters}
use Rattle.nio_history.specs.Sound.{IsSound}
use Rattle.nio_history.specs.State.{State}
use Rattle.nio_history.specs.declared.act.Act.{Act}
use Rattle.nio_history.specs.declared.act.Act.TheVariants.{CancelKey, Claim, RaiseKeys, LookKeys, Publish, Remove}
use Rattle.nio_history.specs.declared.act.Act.TheVariants.{ShutBit, Wake, EndWake, Enter, ClaimAgain}
use Rattle.nio_history.specs.declared.event.Event.{Event}
use Rattle.nio_history.specs.declared.found.Stage.{Stage}
use Rattle.nio_orderly.specs.Careful.{leaves_below}

-- ---- the channel of a claimed key is made

abbrev IsOfMade : State → Stage → Type 0
IsOfMade st k = k.claimed ≡ true → (st.chan k.chan.0).made ≡ true

of_made_kept : (l : Limits) (own : List Act) (st : State) (me : CallerNo) (act : Act) → IsSound st
    → Condition l own st me act
    → (s i : ℕ) → IsOfMade st (st.key s i) → IsOfMade st ((effect st me act).key s i)
of_made_kept l own st me (CancelKey s' i' found) sound may s i =
    put_at_keeps (λ _ _ k. IsOfMade st k) st.key s'.0 i' _ (λ old. old) s i
of_made_kept l own st me (Claim s' i' c true) sound may s i =
    put_at_keeps (λ _ _ k. IsOfMade st k) st.key s'.0 i' _ (λ old. old) s i
of_made_kept l own st me (Claim s' i' c false) sound may s i =
    put_at_keeps (λ _ _ k. IsOfMade st k) st.key s'.0 i' (new_key c 0)
    (λ old claimed. sound.held_made c.0 (held_some me (st.hold c.0) may.2)) s i
of_made_kept l own st me (Publish s' i' found) sound may s i =
    put_at_keeps (λ _ _ k. IsOfMade st k) st.key s'.0 i' _ (λ old. old) s i
of_made_kept l own st me (Remove s' i' found) sound may s i =
    put_at_keeps (λ _ _ k. IsOfMade st k) st.key s'.0 i' _ (λ old. old) s i
of_made_kept l own st me (ClaimAgain s' i' c from true) sound may s i =
    put_at_keeps (λ _ _ k. IsOfMade st k) st.key s'.0 i' _ (λ old. old) s i
of_made_kept l own st me (ClaimAgain s' i' c from false) sound may s i =
    put_at_keeps (λ _ _ k. IsOfMade st k) st.key s'.0 i' (new_key c (suc (st.key s'.0 i').serial))
    (λ old claimed. sound.held_made c.0 (held_some me (st.hold c.0) may.2)) s i
of_made_kept l own st me act sound may s i = λ old. old

pub claimed_made : (l : Limits) (events : List Event) → IsLegal l events → (s i : ℕ)
    → ((state_after events).key s i).claimed ≡ true
    → ((state_after events).chan ((state_after events).key s i).chan.0).made ≡ true
claimed_made l =
    legal_induction l (λ evs. (s i : ℕ) → IsOfMade (state_after evs) ((state_after evs).key s i))
    (λ s i claimed. absurd cc)
    (λ past e legal step before s i. subst (λ st. IsOfMade st (st.key s i)) (sym (state_after-more past e))
    (λ claimed. made_lasts (state_after past) e.caller e.act ((effect (state_after past) e.caller e.act).key s i).chan.0
    (of_made_kept l (mine e.caller past) (state_after past) e.caller e.act (legal-sound l past legal) step.condition s i
    (before s i) claimed)))

-- ---- a shut selector has a closer

closer_kept : (st : State) (me : CallerNo) (act : Act) → Answers st me act
    → ((s : ℕ) → (st.gate s).shut ≡ true → is_some (st.closer s) ≡ true)
    → (s : ℕ) → ((effect st me act).gate s).shut ≡ true → is_some ((effect st me act).closer s) ≡ true
closer_kept st me (Wake k found) answers old s =
    put_keeps (λ m g. g.shut ≡ true → is_some (st.closer m) ≡ true) st.gate k.0 _ (λ before. before) s (old s)
closer_kept st me (EndWake k found) answers old s =
    put_keeps (λ m g. g.shut ≡ true → is_some (st.closer m) ≡ true) st.gate k.0 _ (λ before. before) s (old s)
closer_kept st me (ShutBit k true) answers old s =
    let shut_before : (st.gate k.0).shut ≡ true = cc in
    put_both (λ _ g o. g.shut ≡ true → is_some o ≡ true) st.gate st.closer k.0 _ (st.closer k.0)
    (λ _. old k.0 shut_before) s (old s)
closer_kept st me (ShutBit k false) answers old s =
    put_both (λ _ g o. g.shut ≡ true → is_some o ≡ true) st.gate st.closer k.0 _ (Some me) (λ _. refl) s (old s)
closer_kept st me act answers old s = old s

pub shut_closer : (l : Limits) (events : List Event) → IsLegal l events → (s : ℕ)
    → ((state_after events).gate s).shut ≡ true → is_some ((state_after events).closer s) ≡ true
shut_closer l =
    legal_induction l (λ evs. (s : ℕ) → ((state_after evs).gate s).shut ≡ true
    → is_some ((state_after evs).closer s) ≡ true) (λ s shut. absurd cc)
    (λ past e legal step before s. subst (λ st. (st.gate s).shut ≡ true → is_some (st.closer s) ≡ true)
    (sym (state_after-more past e))
    (closer_kept (state_after past) e.caller e.act step.answers before s))

-- ---- what a caller's acts tell

-- who entered a selector has entered it
enters_told : (st : State) (me : CallerNo) (act : Act) (s : ℕ) → enters s act ≡ true
    → (effect st me act).entered s ≡ true
enters_told st me (Enter k None) s told =
    let same : k.0 ≡ s = eqb-true k.0 s told in
    subst (λ (m : ℕ). (effect st me (Enter k None)).entered m ≡ true) same
    (put-same st.entered k.0 _ ∙ or_right (st.entered k.0) true refl)
enters_told st me act s told = absurd (cc told)

pub entered_told : (l : Limits) (n : CallerNo) (events : List Event) (s : ℕ) → IsLegal l events
    → has (enters s) (mine n events) ≡ true → (state_after events).entered s ≡ true
entered_told l n events s legal had = has_told l (enters s) (λ st. st.entered s)
    (λ past e _ step. entered_lasts (state_after past) e.caller e.act s)
    (λ past e _ step. enters_told (state_after past) e.caller e.act s)
    n events legal had

-- an index that a caller found or raised the keys' high-water mark above is below the high-water mark
left_below : (st : State) (me : CallerNo) (act : Act) (s i : ℕ) → Answers st me act → leaves_below s i act ≡ true
    → nat_lt i ((effect st me act).keys_high s) ≡ true
left_below st me (LookKeys k found) s i answers told =
    let both = and_parts (k.0 == s) (nat_lt i found) told in
    let same : k.0 ≡ s = eqb-true k.0 s both.0 in
    let stands : found ≡ st.keys_high k.0 = cc in
    subst (λ (m : ℕ). nat_lt i (st.keys_high m) ≡ true) same (subst (λ (m : ℕ). nat_lt i m ≡ true) stands both.1)
left_below st me (RaiseKeys k n found) s i answers told =
    let both = and_parts (k.0 == s) (nat_lt i n) told in
    let same : k.0 ≡ s = eqb-true k.0 s both.0 in
    let lower : i < n = ltb-true i n both.1 in
    subst (λ (m : ℕ). nat_lt i ((effect st me (RaiseKeys k n found)).keys_high m) ≡ true) same
    (subst (λ (m : ℕ). nat_lt i m ≡ true) (sym (put-same st.keys_high k.0 (max (st.keys_high k.0) n)))
    (lt-ltb i (max (st.keys_high k.0) n) (omega arith)))
left_below st me act s i answers told = absurd (cc told)

pub below_left : (l : Limits) (n : CallerNo) (events : List Event) (s i : ℕ) → IsLegal l events
    → has (leaves_below s i) (mine n events) ≡ true → nat_lt i ((state_after events).keys_high s) ≡ true
below_left l n events s i legal had = has_told l (leaves_below s i) (λ st. nat_lt i (st.keys_high s))
    (λ past e _ step before. lt-ltb i _ (keys_high_lasts (state_after past) e.caller e.act s i (ltb-true i _ before)))
    (λ past e _ step. left_below (state_after past) e.caller e.act s i step.answers)
    n events legal had
