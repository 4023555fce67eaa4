-- Who has taken a free index is what its own acts say.
use Rattle.std.proofs.Common.{◌≡◌, ℕ, ◌==◌, Bool, true, false, inl, inr, Option, Some, None, is_some, List, refl, ap}
use Rattle.std.proofs.Common.{sym, ◌∙◌, eqb-true, eq-eqb}
use Rattle.std.proofs.lemmas.Bool.{and_parts, or_cases}
use Rattle.std.specs.Option.{option_or}
use Rattle.nio_base.specs.declared.limits.Limits.{Limits}
use Rattle.nio_base.specs.declared.numbers.CallerNo.{CallerNo}
use Rattle.nio_history.proofs.OwnPins.{own_at, same_at}
use Rattle.nio_history.proofs.Soundness.{legal-sound}
use Rattle.nio_history.proofs.Told.{last_told}
use Rattle.nio_history.specs.Acts.{effect}
use Rattle.nio_history.specs.Answers.{Answers}
use Rattle.nio_history.specs.Conditions.{Condition, is_held_by, has_taken, has_begun, may_put_due}
use Rattle.nio_history.specs.Histories.{state_after, mine}
use Rattle.nio_history.specs.OwnEvents.{is_yes, taken_changed}
use Rattle.nio_history.specs.Pins.{TakenIsOwn}
use Rattle.nio_history.specs.Sound.{IsSound}
use Rattle.nio_history.specs.State.{State}
use Rattle.nio_history.specs.declared.act.Act.{Act}
use Rattle.nio_history.specs.declared.act.Act.TheVariants.{ClaimAgain, PutFree, TakeFree}

own_step : (st : State) (me : CallerNo) (act : Act) (s i : ℕ) (told : Option Bool)
    → is_held_by me (st.taker s i) ≡ is_yes told
    → is_held_by me ((effect st me act).taker s i) ≡ is_yes (option_or (taken_changed s i act) told)
own_step st me (TakeFree s' i' true) s i told here =
    own_at (is_held_by me) st.taker s'.0 i' _ true s i told (eq-eqb me.0 me.0 refl) here
own_step st me (TakeFree s' i' false) s i told here = same_at (is_held_by me) st.taker s'.0 i' _ s i refl ∙ here
own_step st me (PutFree s' i') s i told here = own_at (is_held_by me) st.taker s'.0 i' _ false s i told refl here
own_step st me (ClaimAgain s' i' c from true) s i told here =
    same_at (is_held_by me) st.taker s'.0 i' _ s i refl ∙ here
own_step st me (ClaimAgain s' i' c from false) s i told here =
    own_at (is_held_by me) st.taker s'.0 i' _ false s i told refl here
own_step st me act s i told here = here

-- what another has, n doesn't have
not_of_other : (m n : CallerNo) (o : Option CallerNo) → (m.0 == n.0) ≡ false → is_held_by m o ≡ true
    → is_held_by n o ≡ false
not_of_other m n None other h = refl
not_of_other m n (Some x) other h = ap (λ (k : ℕ). k == n.0) (eqb-true x.0 m.0 h) ∙ other

nobody : (n : CallerNo) (o : Option CallerNo) → is_some o ≡ false → is_held_by n o ≡ false
nobody n None h = refl
nobody n (Some x) h = absurd cc

not_taken : (o : Option CallerNo) (b : Bool) → b ≡ true → (is_some o ≡ true → b ≡ false) → is_some o ≡ false
not_taken None b due free = refl
not_taken (Some x) b due free =
    let clash : true ≡ false = sym due ∙ free refl in
    absurd cc

-- nobody takes an index that another has taken, or gives it away
other_step : (l : Limits) (own : List Act) (st : State) (me : CallerNo) (act : Act) → Condition l own st me act
    → Answers st me act → IsSound st
    → (n : CallerNo) (s i : ℕ) → (me.0 == n.0) ≡ false
    → is_held_by n ((effect st me act).taker s i) ≡ is_held_by n (st.taker s i)
other_step l own st me (TakeFree s' i' true) may answers sound n s i other =
    let was_free : st.free s'.0 i' ≡ true = cc in
    same_at (is_held_by n) st.taker s'.0 i' _ s i (other ∙ sym (ap (is_held_by n) (sound.free_untaken s'.0 i' was_free)))
other_step l own st me (TakeFree s' i' false) may answers sound n s i other = same_at (is_held_by n) st.taker s'.0 i' _ s i refl
other_step l own st me (PutFree s' i') may answers sound n s i other = same_at (is_held_by n) st.taker s'.0 i' None s i (sym had_not)
  where
    had_not : is_held_by n (st.taker s'.0 i') ≡ false
    had_not = elim (or_cases (has_taken st me s' i') (may_put_due st me s' i') may.1) [
      | inl taken ↦ not_of_other me n (st.taker s'.0 i') other taken
      | inr due ↦ nobody n (st.taker s'.0 i')
          (not_taken (st.taker s'.0 i') (st.put_due s'.0 i') (and_parts (has_begun st me s') (st.put_due s'.0 i') due).1
          (sound.taken_not_due s'.0 i'))
    ]
other_step l own st me (ClaimAgain s' i' c from true) may answers sound n s i other =
    same_at (is_held_by n) st.taker s'.0 i' _ s i refl
other_step l own st me (ClaimAgain s' i' c from false) may answers sound n s i other =
    same_at (is_held_by n) st.taker s'.0 i' None s i (sym (not_of_other me n (st.taker s'.0 i') other may.3))
other_step l own st me act may answers sound n s i other = refl

pub taken_is_own : TakenIsOwn
taken_is_own l n s i =
    last_told l n (taken_changed s.0 i) (λ k st. has_taken st k s i) refl
    (λ past e legal step told. own_step (state_after past) e.caller e.act s.0 i told)
    (λ past e legal step other. other_step l (mine e.caller past) (state_after past) e.caller e.act step.condition
    step.answers (legal-sound l past legal) n s.0 i other)
