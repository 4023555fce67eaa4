-- What the equations of all calls rest on: parts of a state that are changed and changed back, settled keys, and
-- the steps of a plan at a test or under a pin.
use Rattle.std.proofs.Common.{◌≡◌, ℕ, Bool, true, false, cond, not, ◌==◌, ◌&&◌, if◌then◌else◌, Option, Some, None}
use Rattle.std.proofs.Common.{is_some, Result, Err, refl, ap, sym, ◌∙◌}
use Rattle.nio_base.specs.declared.numbers.CallerNo.{CallerNo}
use Rattle.nio_base.specs.declared.numbers.ChanNo.{ChanNo}
use Rattle.nio_base.specs.declared.numbers.SelNo.{SelNo}
use Rattle.nio_history.proofs.Put.{put_at_keeps, put_both, put_at_both, put_at-same}
use Rattle.nio_history.specs.Acts.{taken_by}
use Rattle.nio_history.specs.Sets.{fits, in_key_set, is_in_key_set, in_cancelled_set, is_valid, is_valid_key}
use Rattle.nio_history.specs.State.{State, put, put_at, with_hold, with_pin, with_key, with_mark, with_amid}
use Rattle.nio_history.specs.declared.found.Mark.{Mark}
use Rattle.nio_history.specs.declared.found.Stage.{Stage}
use Rattle.nio_plain.proofs.Places.{put_same, put_at_same, put-twice, put_at-twice}
use Rattle.nio_steps.proofs.PerformLaws.{perform-bind}
use Rattle.nio_steps.specs.ChannelCalls.{under_hold}
use Rattle.nio_steps.specs.KeyCalls.{under_pin}
use Rattle.nio_steps.specs.Perform.{Performed, perform}
use Rattle.nio_steps.specs.Plan.{Plan, reply, ◌>>=◌, ◌>>◌}
use Rattle.nio_steps.specs.Steps.{unpin, release}
use Rattle.nio_serial.specs.Documented.{settled, settled_mark, settled_state}

-- ---- parts that are changed

-- put and put back
pub put-back : {A : Type 0} (f : ℕ → A) (i : ℕ) (x y : A) → f i ≡ y → put (put f i x) i y ≡ f
put-back f i x y e = put-twice f i x y ∙ put_same f i y e

pub put_at-back : {A : Type 0} (f : ℕ → ℕ → A) (i k : ℕ) (x y : A) → f i k ≡ y → put_at (put_at f i k x) i k y ≡ f
put_at-back f i k x y e = put_at-twice f i k x y ∙ put_at_same f i k y e

-- a function of what is put
pub put-under : {A B : Type 0} (g : ℕ → A → B) (f : ℕ → A) (i : ℕ) (x : A)
    → (λ n. g n (put f i x n)) ≡ put (λ n. g n (f n)) i (g i x)
put-under {A = A} {B = B} g f i x = λ j n. at n j
  where
    at : (n : ℕ) → g n (put f i x n) ≡ put (λ n'. g n' (f n')) i (g i x) n
    at n = put_both (λ n' a b. g n' a ≡ b) f (λ n'. g n' (f n')) i x (g i x) refl n refl

pub put_at-under : {A B : Type 0} (g : ℕ → ℕ → A → B) (f : ℕ → ℕ → A) (i k : ℕ) (x : A)
    → (λ m n. g m n (put_at f i k x m n)) ≡ put_at (λ m n. g m n (f m n)) i k (g i k x)
put_at-under {A = A} {B = B} g f i k x = λ j m n. at m n j
  where
    at : (m n : ℕ) → g m n (put_at f i k x m n) ≡ put_at (λ m' n'. g m' n' (f m' n')) i k (g i k x) m n
    at m n = put_at_both (λ m' n' a b. g m' n' a ≡ b) f (λ m' n'. g m' n' (f m' n')) i k x (g i k x)
        (λ _. refl) m n refl

-- what is put for a caller at an index and then taken back
pub caller-back : (p : ℕ → ℕ → ℕ → Bool) (s i n : ℕ) (x : Bool) → p s i n ≡ false
    → let taken = put_at p s i (put (p s i) n x) in
    put_at taken s i (put (taken s i) n false) ≡ p
caller-back p s i n x free =
    let with_one = put (p s i) n x in
    let taken = put_at p s i with_one in
    ap (λ (q : ℕ → Bool). put_at taken s i (put q n false)) (put_at-same p s i with_one)
    ∙ (ap (λ (q : ℕ → Bool). put_at taken s i q) (put-back (p s i) n x false free)
    ∙ put_at-back p s i with_one (p s i) refl)

-- a pin that is taken and given back
pub pin-back : (p : ℕ → ℕ → ℕ → Bool) (s i n : ℕ) → p s i n ≡ false
    → let taken = put_at p s i (put (p s i) n true) in
    put_at taken s i (put (taken s i) n false) ≡ p
pin-back p s i n free = caller-back p s i n true free

-- what wasn't put is taken back
pub caller-off : (p : ℕ → ℕ → ℕ → Bool) (s i n : ℕ) → p s i n ≡ false → put_at p s i (put (p s i) n false) ≡ p
caller-off p s i n free = put_at_same p s i (put (p s i) n false) (sym (put_same (p s i) n false free))

-- the caller has no pin on the index, and is amid no change there
pub record IsOff (pinned amid : ℕ → ℕ → ℕ → Bool) (s i n : ℕ) : Type 0 where
  pub unpinned : pinned s i n ≡ false
  pub unchanging : amid s i n ≡ false

-- ---- settled keys

settled_parts : (in_set removed c : Bool) → (in_set && not removed) && not (not removed && c) ≡ (in_set && not removed)
    && not c
settled_parts true true c = refl
settled_parts true false c = refl
settled_parts false true c = refl
settled_parts false false c = refl

pub cancelled_parts : (in_set removed c : Bool)
    → (in_set && not removed) && (not removed && c) ≡ (in_set && not removed) && c
cancelled_parts true true c = refl
cancelled_parts true false c = refl
cancelled_parts false true c = refl
cancelled_parts false false c = refl

pub settled-valid : (k : Stage) → is_valid (settled k) ≡ is_valid k
settled-valid k = settled_parts k.published k.removed k.cancelled

pub settled-cancelled : (k : Stage) → in_cancelled_set (settled k) ≡ in_cancelled_set k
settled-cancelled k = cancelled_parts k.published k.removed k.cancelled

pub settled-valid_key : (k : Stage) (q : ℕ) → is_valid_key (settled k) q ≡ is_valid_key k q
settled-valid_key k q = ap (λ b. (k.claimed && (k.serial == q)) && b) (settled-valid k)

-- a key that the index has, and that isn't removed, is in the key set where a claimed index has a published key
pub in_set-is : (k : Stage) (q : ℕ) → k.claimed ≡ k.published → (fits k q && not k.removed) ≡ is_in_key_set k q
in_set-is k q whole =
    ap (λ b. (b && (k.serial == q)) && not k.removed) whole
    ∙ (regroup k.published (k.serial == q) (not k.removed)
    ∙ ap (λ b. (b && (k.serial == q)) && in_key_set k) (sym whole))
  where
    regroup : (p f r : Bool) → ((p && f) && r) ≡ ((p && f) && (p && r))
    regroup true f r = refl
    regroup false f r = refl

-- ---- tests

-- `F` is what becomes of a performed plan
module _ {R S : Type 0} (F : Performed R → S) (me : CallerNo) (P Q : Plan R) (st : State) (A B : S) where
  -- one test on both sides
  pub branch : (b c : Bool) → b ≡ c → (c ≡ true → A ≡ F (perform me P st)) → (c ≡ false → B ≡ F (perform me Q st))
      → cond b A B ≡ F (perform me (if c then P else Q) st)
  branch b true e on_true on_false = ap (λ (x : Bool). cond x A B) e ∙ on_true refl
  branch b false e on_true on_false = ap (λ (x : Bool). cond x A B) e ∙ on_false refl

  -- the plan asks the other way round
  pub branch_not : (b c : Bool) → b ≡ c → (c ≡ true → A ≡ F (perform me P st)) → (c ≡ false → B ≡ F (perform me Q st))
      → cond b A B ≡ F (perform me (if not c then Q else P) st)
  branch_not b true e on_true on_false = ap (λ (x : Bool). cond x A B) e ∙ on_true refl
  branch_not b false e on_true on_false = ap (λ (x : Bool). cond x A B) e ∙ on_false refl

  -- the documented call asks the other way round
  pub branch_unless : (b c : Bool) → b ≡ c → (c ≡ true → B ≡ F (perform me P st))
      → (c ≡ false → A ≡ F (perform me Q st)) → cond (not b) A B ≡ F (perform me (if c then P else Q) st)
  branch_unless b true e on_true on_false = ap (λ (x : Bool). cond (not x) A B) e ∙ on_true refl
  branch_unless b false e on_true on_false = ap (λ (x : Bool). cond (not x) A B) e ∙ on_false refl

-- ---- under a pin

-- the pin is given back
abbrev pub unpinned : {R : Type 0} → CallerNo → SelNo → ℕ → Performed R → Performed R
unpinned me s i done =
    record { answer = done.answer; state = with_amid (with_pin done.state s.0 i me.0 false) s.0 i me.0 false }

pub perform_pinned : {A : Type 0} (me : CallerNo) (s : SelNo) (i : ℕ) (steps : Stage → Plan A) (st : State)
    → perform me (under_pin s i steps) st
    ≡ unpinned me s i (perform me (steps (st.key s.0 i)) (with_pin st s.0 i me.0 true))
perform_pinned me s i steps st =
    perform-bind me (steps (st.key s.0 i)) (λ answer. unpin s i >> reply answer) (with_pin st s.0 i me.0 true)

-- ---- settled states

-- a key that is changed, and not removed or taken back by that
pub settled-key : (st : State) (s i : ℕ) (x : Stage) → x.removed ≡ (st.key s i).removed
    → settled_state (with_key st s i x) ≡ with_key (settled_state st) s i (settled x)
settled-key st s i x same = λ j. record (settled_state st) {
  key = put_at-under (λ _ _ a. settled a) st.key s i x j;
  mark = λ m n. marks m n j;
}
  where
    marks : (m n : ℕ) → settled_mark (put_at st.key s i x m n) (st.mark m n) ≡ settled_mark (st.key m n) (st.mark m n)
    marks m n =
        put_at_keeps (λ m' n' a. settled_mark a (st.mark m' n') ≡ settled_mark (st.key m' n') (st.mark m' n')) st.key s
        i x
        (λ _ j. record (st.mark s i) { selected = not (same j) && (st.mark s i).selected }) m n refl

-- a mark that is changed
pub settled-marked : (st : State) (s i : ℕ) (x : Mark)
    → settled_state (with_mark st s i x) ≡ with_mark (settled_state st) s i (settled_mark (st.key s i) x)
settled-marked st s i x =
    λ j. record (settled_state st) { mark = put_at-under (λ m n a. settled_mark (st.key m n) a) st.mark s i x j }

-- ---- under the hold of a channel

-- the hold is given back
abbrev pub released : {R : Type 0} → ChanNo → Performed R → Performed R
released c done = record { answer = done.answer; state = with_hold done.state c.0 None }

pub perform_held : {A E : Type 0} (me : CallerNo) (busy : E) (c : ChanNo) (steps : Plan (Result A E)) (st : State)
    → st.hold c.0 ≡ None
    → perform me (under_hold busy c steps) st ≡ released c (perform me steps (with_hold st c.0 (Some me)))
perform_held me busy c steps st unheld =
    ap (λ (o : Option CallerNo). perform me
    (if is_some o then reply (Err busy) else (steps >>= (λ answer. release c >> reply answer)))
    (with_hold st c.0 (taken_by me o))) unheld
    ∙ perform-bind me steps (λ answer. release c >> reply answer) (with_hold st c.0 (Some me))
