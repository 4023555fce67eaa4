-- For the tests: what two callers have between their calls stays.
use Rattle.std.proofs.Common.{◌≡◌, ◌≢◌, ℕ, true, false, Bool, ◌&&◌, ◌||◌, Option, None, List, ◌++◌, refl, ap, sym, ◌∙◌}
use Rattle.std.proofs.Common.{eqb-true, eq-eqb, arith}
use Rattle.std.specs.Int.{bit_at}
use Rattle.std.proofs.lemmas.Bool.{and_parts, and_from, or_left, or_right}
use Rattle.nio_base.specs.declared.numbers.CallerNo.{CallerNo}
use Rattle.nio_base.specs.declared.numbers.ChanId.{ChanId}
use Rattle.nio_base.specs.declared.numbers.SelNo.{SelNo}
use Rattle.nio_history.proofs.Finds.{step_leaves}
use Rattle.nio_history.proofs.OwnPins.{pins_are_own}
use Rattle.nio_history.proofs.PassViews.{selector_after}
use Rattle.nio_history.proofs.Put.{put-same, put_at-same}
use Rattle.nio_history.proofs.Stays.{beginnings_are_legal}
use Rattle.nio_history.specs.Acts.{frees_index}
use Rattle.nio_history.specs.Conditions.{IsSelector, has_pin, has_turn, has_begun, has_taken}
use Rattle.nio_history.specs.Conditions.{may_remove_cancelled, may_clear_out, may_put_due}
use Rattle.nio_history.specs.Histories.{state_after}
use Rattle.nio_history.specs.Permanent.{a_selection}
use Rattle.nio_history.specs.OwnEvents.{keeps_pin}
use Rattle.nio_history.specs.PassViews.{PassView, Holds as HoldsNumber, known, ActsClause, HasNoPin, HasSelector}
use Rattle.nio_history.specs.PassViews.{HasChannel}
use Rattle.nio_history.specs.Sets.{in_cancelled_set, was_opened}
use Rattle.nio_history.specs.State.{State}
use Rattle.nio_history.specs.declared.act.Act.{Act}
use Rattle.nio_history.specs.declared.act.Act.TheVariants.{MakeSelector, LookKey, TakeTurn, BeginLook, Remove, Pin}
use Rattle.nio_history.specs.declared.act.Act.TheVariants.{Unpin}
use Rattle.nio_history.specs.declared.found.GateWord.{GateWord}
use Rattle.nio_history.specs.declared.found.Stage.{Stage}
use Rattle.nio_words.proofs.Pins.{changes_pins, no_pin_stays, only_pinned, none_unpinned}
use Rattle.nio_words.proofs.Stepping.{still_ready}
use Rattle.nio_words.proofs.Views.{finds_drawn, step_acts, look_tells, turn_taken, selection_begun}
use Rattle.nio_words.specs.Passes.{IsPassOf, IsReady, limits_of, numbers_of, seen, state_seen, acts_seen}
use Rattle.nio_words.specs.Steps.{Steps}
use Rattle.nio_words.specs.Views.{view, HasOnlyPin}
use Rattle.nio_words.specs.declared.words.Pass.{Pass}
use Rattle.nio_words.specs.declared.words.Words.{Words}
use Rattle.nio_channel.proofs.Held.{had_stays}
use Rattle.nio_channel.specs.Idle.{AreIdle, zero, one, first_selector, drawn}

-- a pass holds the same numbers after the acts of a call
pub ready_after : {w : Words} {p q : Pass} {me : CallerNo} {acts : List Act} (n : CallerNo)
    → ActsClause me acts (view w p) (view w q) → IsPassOf w q → IsReady w p n → IsReady w q n
ready_after {w = w} {p = p} {q = q} n clause pass ready = record {
  pass = pass;
  number = eqb-true (bit_at (numbers_of q) n.0) 1
      (ap {B = Bool} (λ (held : CallerNo → Bool). held n) clause.held
      ∙ eq-eqb (bit_at (numbers_of p) n.0) 1 ready.number);
}

holds_number : {w : Words} {p : Pass} (n : CallerNo) → IsReady w p n → HoldsNumber (view w p) n
holds_number {p = p} n ready = eq-eqb (bit_at (numbers_of p) n.0) 1 ready.number

one_other : one ≢ zero
one_other same = let clash : 1 ≡ 0 = ap (λ (n : CallerNo). n.0) same in absurd (omega (arith, clash))

pub zero_other : zero ≢ one
zero_other same = let clash : 0 ≡ 1 = ap (λ (n : CallerNo). n.0) same in absurd (omega (arith, clash))

-- the pins of another caller stay
other_pin : {me : CallerNo} {acts : List Act} {v0 v1 : PassView} (n : CallerNo) → ActsClause me acts v0 v1
    → HoldsNumber v0 n → n ≢ me → (s : SelNo) (i : ℕ)
    → has_pin (known v1) n s i ≡ has_pin (known v0) n s i
other_pin {v0 = v0} {v1 = v1} n clause held other s i =
    pins_are_own v0.limits n s i v1.seen clause.history.legal
    ∙ (ap (keeps_pin s.0 i) (clause.history.others n held other)
    ∙ sym (pins_are_own v0.limits n s i v0.seen
    (beginnings_are_legal v0.limits v0.seen v1.seen clause.history.goes_on clause.history.legal)))

other_unpinned : {me : CallerNo} {acts : List Act} {v0 v1 : PassView} (n : CallerNo) → ActsClause me acts v0 v1
    → HoldsNumber v0 n → n ≢ me → HasNoPin v0 n → HasNoPin v1 n
other_unpinned n clause held other none s i = other_pin n clause held other s i ∙ none s i

-- the other caller has pinned an index
pub record HasPinned (w : Words) (p : Pass) (s : SelNo) (i : ℕ) : Type 0 where
  pub zero_ready : IsReady w p zero
  pub one_ready : IsReady w p one
  pub zero_unpinned : HasNoPin (view w p) zero
  pub pin : HasOnlyPin (view w p) one s i
  pub selector : HasSelector (view w p) first_selector

pub just_pinned : {w : Words} {p q : Pass} {s : SelNo} {i : ℕ} {found : Stage} → Steps w p q one (Pin s i found)
    → AreIdle w p → HasPinned w q s i
just_pinned {w = w} {p = p} {q = q} steps idle =
    let clause = step_acts steps refl in
    record {
      zero_ready = still_ready w p q one zero _ steps idle.zero_ready;
      one_ready = still_ready w p q one one _ steps idle.one_ready;
      zero_unpinned = other_unpinned zero clause (holds_number {w = w} zero idle.zero_ready) zero_other
          idle.zero_unpinned;
      pin = only_pinned clause idle.one_unpinned;
      selector = selector_after clause idle.selector;
    }

pub still_pinned : {w : Words} {p q : Pass} {s : SelNo} {i : ℕ} {acts : List Act}
    → ActsClause zero acts (view w p) (view w q) → IsPassOf w q → HasNoPin (view w q) zero → HasPinned w p s i
    → HasPinned w q s i
still_pinned {w = w} {p = p} clause pass none here =
    let same = other_pin one clause (holds_number {w = w} one here.one_ready) one_other in
    record {
      zero_ready = ready_after zero clause pass here.zero_ready;
      one_ready = ready_after one clause pass here.one_ready;
      zero_unpinned = none;
      pin = record {
        here = same _ _
            ∙ here.pin.here;
        nowhere_else = λ s' i' there. here.pin.nowhere_else s' i' (sym (same s' i') ∙ there);
      };
      selector = selector_after clause here.selector;
    }

pub idle_unpinned : {w : Words} {p q : Pass} {s : SelNo} {i : ℕ} → Steps w p q one (Unpin s i) → HasPinned w p s i
    → AreIdle w q
idle_unpinned {w = w} {p = p} {q = q} steps here =
    let clause = step_acts steps refl in
    record {
      zero_ready = still_ready w p q one zero _ steps here.zero_ready;
      one_ready = still_ready w p q one one _ steps here.one_ready;
      zero_unpinned = other_unpinned zero clause (holds_number {w = w} zero here.zero_ready) zero_other
          here.zero_unpinned;
      one_unpinned = none_unpinned clause here.pin;
      selector = selector_after clause here.selector;
    }

-- after a call of the first
pub idle_after : {w : Words} {p q : Pass} {acts : List Act} → ActsClause zero acts (view w p) (view w q) → IsPassOf w q
    → HasNoPin (view w q) zero → AreIdle w p → AreIdle w q
idle_after {w = w} {p = p} clause pass none idle = record {
  zero_ready = ready_after zero clause pass idle.zero_ready;
  one_ready = ready_after one clause pass idle.one_ready;
  zero_unpinned = none;
  one_unpinned = other_unpinned one clause (holds_number {w = w} one idle.one_ready) one_other idle.one_unpinned;
  selector = selector_after clause idle.selector;
}

-- after a call of the other
pub idle_after_other : {w : Words} {p q : Pass} {acts : List Act} → ActsClause one acts (view w p) (view w q)
    → IsPassOf w q → HasNoPin (view w q) one → AreIdle w p → AreIdle w q
idle_after_other {w = w} {p = p} clause pass none idle = record {
  zero_ready = ready_after zero clause pass idle.zero_ready;
  one_ready = ready_after one clause pass idle.one_ready;
  zero_unpinned = other_unpinned zero clause (holds_number {w = w} zero idle.zero_ready) zero_other idle.zero_unpinned;
  one_unpinned = none;
  selector = selector_after clause idle.selector;
}

drawn_unpinned : (w : Words) (p : Pass) (n : CallerNo) → seen p ≡ drawn → HasNoPin (view w p) n
drawn_unpinned w p n is s i = ap (λ events. has_pin (state_after events) n s i) is

-- after a selector was made
pub idle_made : {w : Words} {p q : Pass} {found : Bool} → Steps w p q zero (MakeSelector first_selector found)
    → IsReady w p zero → IsReady w p one → seen p ≡ drawn
    → IsSelector (limits_of w) first_selector → AreIdle w q
idle_made {w = w} {p = p} {q = q} {found = found} steps ready other is inside = record {
  zero_ready = still_ready w p q zero zero _ steps ready;
  one_ready = still_ready w p q zero one _ steps other;
  zero_unpinned = no_pin_stays (step_acts steps refl) refl (drawn_unpinned w p zero is);
  one_unpinned = other_unpinned one (step_acts steps refl) (holds_number {w = w} one other) one_other
      (drawn_unpinned w p one is);
  selector = record { inside = inside; made = made };
}
  where
    made : (known (view w q)).selector 0 ≡ true
    made =
        let leaves = step_leaves (limits_of w) (HoldsNumber (view w p)) zero (MakeSelector first_selector found)
        (seen p) (seen q) (step_acts steps refl).history in
        let before : State = state_after (seen p ++ leaves.between) in
        ap (λ st. st.selector 0) leaves.state ∙ put-same before.selector 0 true

pub idle_step : {w : Words} {p q : Pass} {act : Act} → Steps w p q zero act → finds_drawn act ≡ false
    → changes_pins act ≡ false → AreIdle w p → AreIdle w q
idle_step steps new keeps idle =
    idle_after (step_acts steps new) steps.pass (no_pin_stays (step_acts steps new) keeps idle.zero_unpinned) idle

-- ---- a selection by bare steps

-- the caller just took the turn
pub turn_now : {w : Words} {p q : Pass} {me : CallerNo} {s : SelNo} {found : Option CallerNo}
    → Steps w p q me (TakeTurn s found) → found ≡ None → has_turn (state_seen q) me s ≡ true
turn_now steps free = turn_taken (step_acts steps refl) free

-- and began
pub begun_now : {w : Words} {p q : Pass} {me : CallerNo} {s : SelNo} {gate : GateWord}
    → Steps w p q me (BeginLook s gate) → gate.shut ≡ false → IsPassOf w p → has_turn (state_seen p) me s ≡ true
    → has_begun (state_seen q) me s ≡ true
begun_now steps unshut pass turn = selection_begun (step_acts steps refl) unshut

-- a key that was just found in the cancelled set may be removed
pub may_remove_found : {w : Words} {p q : Pass} {me : CallerNo} {s : SelNo} {i : ℕ} {stage : Stage}
    → Steps w p q me (LookKey s i stage) → IsPassOf w p → has_begun (state_seen p) me s ≡ true
    → in_cancelled_set stage ≡ true
    → (may_remove_cancelled (state_seen q) me s i || may_clear_out (state_seen q) (acts_seen q me) me s i) ≡ true
may_remove_found {w = w} {q = q} {me = me} {s = s} {i = i} {stage = stage} steps pass begun inside =
    let told : stage ≡ (state_seen q).key s.0 i = cc (look_tells (step_acts steps refl) refl) in
    or_left (may_remove_cancelled (state_seen q) me s i) (may_clear_out (state_seen q) (acts_seen q me) me s i)
    (and_from (has_begun (state_seen q) me s) (in_cancelled_set ((state_seen q).key s.0 i))
    (had_stays (a_selection s) steps refl refl pass begun) (ap in_cancelled_set (sym told) ∙ inside))

-- the index of a key that was just removed may be put
pub may_put_removed : {w : Words} {p q : Pass} {me : CallerNo} {s : SelNo} {i : ℕ} {stage : Stage}
    → Steps w p q me (Remove s i stage) → IsPassOf w p → has_begun (state_seen p) me s ≡ true
    → frees_index stage ≡ true → (has_taken (state_seen q) me s i || may_put_due (state_seen q) me s i) ≡ true
may_put_removed {w = w} {p = p} {q = q} {me = me} {s = s} {i = i} {stage = stage} steps pass begun frees =
    let leaves = step_leaves (limits_of w) (HoldsNumber (view w p)) me (Remove s i stage) (seen p) (seen q)
    (step_acts steps refl).history in
    let before : State = state_after (seen p ++ leaves.between) in
    let still : has_begun (state_seen q) me s ≡ true = had_stays (a_selection s) steps refl refl pass begun in
    let there : before.begun s.0 ≡ true = sym (ap (λ st. st.begun s.0) leaves.state)
    ∙ (and_parts (has_turn (state_seen q) me s) ((state_seen q).begun s.0) still).1 in
    or_right (has_taken (state_seen q) me s i) (may_put_due (state_seen q) me s i)
    (and_from (has_begun (state_seen q) me s) ((state_seen q).put_due s.0 i) still
    (ap (λ st. st.put_due s.0 i) leaves.state
    ∙ (put_at-same before.put_due s.0 i (before.put_due s.0 i || (before.begun s.0 && frees_index stage))
    ∙ or_right (before.put_due s.0 i) (before.begun s.0 && frees_index stage)
    (and_from (before.begun s.0) (frees_index stage) there frees))))

-- ---- passes that have seen the same

pub unpinned_same : (w : Words) (p q : Pass) (n : CallerNo) → seen q ≡ seen p → HasNoPin (view w p) n
    → HasNoPin (view w q) n
unpinned_same w p q n same none s i = ap (λ events. has_pin (state_after events) n s i) same ∙ none s i

pub selector_same : (w : Words) (p q : Pass) {s : SelNo} → seen q ≡ seen p → HasSelector (view w p) s
    → HasSelector (view w q) s
selector_same w p q {s = s} same has =
    record { inside = has.inside; made = ap (λ events. (state_after events).selector s.0) same ∙ has.made }

pub channel_same : (w : Words) (p q : Pass) {c : ChanId} → seen q ≡ seen p → HasChannel (view w p) c
    → HasChannel (view w q) c
channel_same w p q {c = c} same has =
    record {
      inside = has.inside;
      opened = ap (λ events. was_opened ((state_after events).chan c.number.0) c.serial) same ∙ has.opened;
    }
