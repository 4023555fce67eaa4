-- A call that lacks memory leaves the state as it was, where nobody comes between its steps.
use Rattle.std.proofs.Common.{◌≡◌, ℕ, ◌==◌, nat_lt, Bool, true, false, not, ◌&&◌, ◌||◌, if◌then◌else◌, Option, Some}
use Rattle.std.proofs.Common.{None, option_map, is_some, Result, Err, List, refl, ap, sym, ◌∙◌}
use Rattle.nio_base.specs.declared.limits.Limits.{Limits}
use Rattle.nio_base.specs.declared.numbers.CallerNo.{CallerNo}
use Rattle.nio_base.specs.declared.numbers.KeyNo.{KeyNo}
use Rattle.nio_base.specs.declared.numbers.SelNo.{SelNo}
use Rattle.nio_history.proofs.Put.{put_keeps}
use Rattle.nio_history.specs.Acts.{taken_by}
use Rattle.nio_history.specs.PassViews.{PassView, known}
use Rattle.nio_history.specs.State.{State, put, with_turn, with_begun}
use Rattle.nio_history.specs.declared.found.Mode.{Mode}
use Rattle.nio_language.specs.declared.call.Call.TheVariants as call
use Rattle.nio_language.specs.declared.call.Waiting.{Waiting}
use Rattle.nio_language.specs.declared.reply.Reply.{Reply}
use Rattle.nio_language.specs.declared.reply.Reply.TheVariants as reply
use Rattle.nio_plain.proofs.Places.{put_same, put-twice}
use Rattle.nio_serial.proofs.Base.{put-back}
use Rattle.nio_serial.specs.Between.{IsBetween}
use Rattle.nio_serial.specs.Documented.{Progress, Selecting}
use Rattle.nio_serial.specs.Lines.{Said, asks, refused, if_found, if_selector, if_named}
use Rattle.nio_steps.proofs.PerformLaws.{perform-bind, perform_call}
use Rattle.nio_steps.specs.Calls.{CallClause}
use Rattle.nio_steps.specs.KeyCalls.{has_bit, find_selector_plan}
use Rattle.nio_steps.specs.Names.{selector}
use Rattle.nio_steps.specs.Perform.{perform}
use Rattle.nio_steps.specs.Plan.{Plan, ◌>>=◌}
use Rattle.nio_steps.specs.Runs.{Completes}
use Rattle.nio_steps.specs.SelectCalls.{Selection, try_begin_plan, begin_open, begin_with_turn, begin_below, given_back}
use Rattle.nio_steps.specs.SelectCalls.{list_plan, list_open, list_key, list_selected, keys_plan, selected_keys_plan}
use Rattle.nio_steps.specs.Steps.{look_keys, look_selectors}
use Rattle.nio_steps.specs.declared.refusal.BeginError.{BeginError}
use Rattle.nio_steps.specs.declared.refusal.ListError.{ListError}

-- the plan, performed on the state, leaves it
abbrev pub Rests : {R : Type 0} → CallerNo → Plan R → State → Type 0
Rests me plan st = (perform me plan st).state ≡ st

-- ---- the calls

module _ (st : State) (me : CallerNo) (s : SelNo) where
  -- where the turn is free, no selection has begun, and none has an index to put
  pub begin-rests : (mode : Mode) → (st.turn s.0 ≡ None → st.begun s.0 ≡ false) → ((i : ℕ) → st.put_due s.0 i ≡ false)
      → Rests me (try_begin_plan s mode None true) st
  unfolding try_begin_plan
  begin-rests mode not_begun none_due = by_gate (st.gate s.0).shut refl
    where
      -- the turn is given back
      given : (x : Bool) → st.turn s.0 ≡ None
          → record st {
            turn = put (put st.turn s.0 (Some me)) s.0 None;
            begun = put (put (put st.begun s.0 false) s.0 x) s.0 false;
            put_due = λ t i. if t == s.0 then false else st.put_due t i;
          } ≡ st
      given x free = λ j. record st {
        turn = put-back st.turn s.0 (Some me) None free j;
        begun = (put-twice (put st.begun s.0 false) s.0 x false ∙ put-back st.begun s.0 false false (not_begun free)) j;
        put_due = λ t i. none_there t i j;
      }
        where
          none_there : (t i : ℕ) → (if t == s.0 then false else st.put_due t i) ≡ st.put_due t i
          none_there t i =
              put_keeps (λ k b. b ≡ st.put_due k i) (λ k. st.put_due k i) s.0 false (λ _. sym (none_due i)) t refl

      taken : State
      taken = with_begun (with_turn st s.0 (Some me)) s.0 false

      by_look : (b : Bool) → st.turn s.0 ≡ None
          → ◌≡◌ {A = State}
          ((perform me
          (if b then given_back s (Err BeginError.ClosedSelector)
          else (look_keys s >>= (λ bound. begin_below s mode None bound true)))
          (with_begun taken s.0 (taken.begun s.0 || not b))).state) st
      by_look true free = given _ free
      by_look false free = given _ free

      by_turn : (o : Option CallerNo) → st.turn s.0 ≡ o
          → ◌≡◌ {A = State}
          ((perform me (if is_some o then Plan.reply (Err BeginError.Busy) else begin_with_turn s mode None true)
          (with_begun (with_turn st s.0 (taken_by me o)) s.0 (is_some o && st.begun s.0))).state) st
      by_turn (Some n) is =
          λ j. record st {
            turn = put_same st.turn s.0 (Some n) is j;
            begun = put_same st.begun s.0 (st.begun s.0) refl j;
          }
      by_turn None is = by_look (st.gate s.0).shut is

      by_gate : (b : Bool) → (st.gate s.0).shut ≡ b
          → Rests me (if b then Plan.reply (Err BeginError.ClosedSelector) else begin_open s mode None true) st
      by_gate true is = refl
      by_gate false is = by_turn (st.turn s.0) refl

  list-rests : (list_one : SelNo → ℕ → List KeyNo → Plan (List KeyNo)) → Rests me (list_plan list_one s true) st
  list-rests list_one = by_gate (st.gate s.0).shut
    where
      by_gate : (b : Bool)
          → Rests me (if b then Plan.reply (Err ListError.ClosedSelector) else list_open list_one s true) st
      by_gate true = refl
      by_gate false = refl

  pub keys-rests : Rests me (keys_plan s true) st
  unfolding keys_plan
  keys-rests = list-rests list_key

  pub selected-rests : Rests me (selected_keys_plan s true) st
  unfolding selected_keys_plan
  selected-rests = list-rests list_selected

-- ---- with the look-up of the selector

-- what follows a plan that leaves the state
pub rests_then : {A B : Type 0} (me : CallerNo) (plan : Plan A) (f : A → Plan B) (st : State) → Rests me plan st
    → ((a : A) → Rests me (f a) st) → Rests me (plan >>= f) st
rests_then me plan f st here later =
    ap (λ p. p.state) (perform-bind me plan f st)
    ∙ (ap (λ x. (perform me (f (perform me plan st).answer) x).state) here ∙ later (perform me plan st).answer)

pub find_selector-rests : (l : Limits) (me : CallerNo) (n : ℕ) (st : State) → Rests me (find_selector_plan l n) st
unfolding find_selector_plan
find_selector-rests l me n st = by_test (not (nat_lt n l.selectors))
  where
    by_test : (b : Bool)
        → Rests me
        (if b then Plan.reply None
        else (look_selectors >>= λ made. Plan.reply (if has_bit made n then Some (selector n) else None))) st
    by_test true = refl
    by_test false = refl

pub if-rests : (me : CallerNo) (now : Progress) (r : Reply) (b : Bool) (plan : Plan Said) (st : State)
    → Rests me plan st → Rests me (if b then plan else refused now r) st
if-rests me now r true plan st here = here
if-rests me now r false plan st here = refl

-- a look-up
pub found-rests : {A : Type 0} (me : CallerNo) (now : Progress) (look : Plan (Option A)) (r : Reply) (plan : Plan Said)
    (st : State)
    → Rests me look st → Rests me plan st → Rests me (look >>= if_found now r plan) st
found-rests me now look r plan st looks here =
    rests_then me look (if_found now r plan) st looks (λ found. if-rests me now r (is_some found) plan st here)

pub selector-rests : (l : Limits) (me : CallerNo) (now : Progress) (s : SelNo) (plan : Plan Said) (st : State)
    → Rests me plan st → Rests me (if_selector l now s plan) st
selector-rests l me now s plan st here =
    found-rests me now (find_selector_plan l s.0) reply.NoSelector plan st (find_selector-rests l me s.0 st) here

pub asks-rests : {R : Type 0} (me : CallerNo) (now : Progress) (plan : Plan R) (said : R → Reply) (st : State)
    → Rests me plan st → Rests me (asks now plan said) st
asks-rests me now plan said st here = rests_then me plan _ st here (λ _. refl)

-- ---- with the only pass

pub stays_along : {R : Type 0} (me : CallerNo) (plan : Plan R) (old new : PassView) (answer : R) → old.only ≡ true
    → Rests me plan (known old) → CallClause me (Completes plan) old new answer → known new ≡ known old
stays_along me plan old new answer only rests call =
    sym (ap (λ p. p.state) (perform_call me plan old new answer call only)) ∙ rests

module _ (me : CallerNo) (now : Progress) (s : SelNo) (old new : PassView) (only : old.only ≡ true) where
  pub begin_memory_stays : (waiting : Waiting) (mode : Mode) (said : Result Selection BeginError → Reply)
      (answer : Said) → IsBetween old.limits (known old) now
      → CallClause me
      (Completes (if_named old.limits now (call.Begin s waiting) (asks now (try_begin_plan s mode None true) said))) old
      new answer → known new ≡ known old
  unfolding if_named
  begin_memory_stays waiting mode said answer between call =
      stays_along me _ old new answer only
      (selector-rests old.limits me now s _ (known old) (asks-rests me now (try_begin_plan s mode None true) said (known old)
      (begin-rests (known old) me s mode
      (λ free. (between.shown s.0).begun ∙ none_selects (now.selection s.0) (sym (between.shown s.0).turn ∙ free))
      (λ i. between.at_rest.unused.none_due s.0 i)))) call
    where
      none_selects : (o : Option Selecting) → option_map (λ x. x.caller) o ≡ None → is_some o ≡ false
      none_selects None is = refl
      none_selects (Some x) is = absurd (cc is)

  pub keys_memory_stays : (said : Result (List KeyNo) ListError → Reply) (answer : Said)
      → CallClause me (Completes (if_named old.limits now (call.Keys s) (asks now (keys_plan s true) said))) old new
      answer → known new ≡ known old
  unfolding if_named
  keys_memory_stays said answer call =
      stays_along me _ old new answer only
      (selector-rests old.limits me now s _ (known old)
      (asks-rests me now (keys_plan s true) said (known old) (keys-rests (known old) me s))) call

  pub selected_memory_stays : (said : Result (List KeyNo) ListError → Reply) (answer : Said)
      → CallClause me
      (Completes (if_named old.limits now (call.Selected s) (asks now (selected_keys_plan s true) said))) old new
      answer → known new ≡ known old
  unfolding if_named
  selected_memory_stays said answer call =
      stays_along me _ old new answer only
      (selector-rests old.limits me now s _ (known old)
      (asks-rests me now (selected_keys_plan s true) said (known old) (selected-rests (known old) me s))) call
