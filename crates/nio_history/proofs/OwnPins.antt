-- Who has a pin is what its own acts say.
use Rattle.std.proofs.Common.{◌≡◌, ℕ, ◌==◌, Bool, true, false, cond, not, ◌&&◌, ◌||◌, if◌then◌else◌, Option, Some, None}
use Rattle.std.proofs.Common.{refl, ap, sym, ◌∙◌, eqb-true, eq-eqb}
use Rattle.std.proofs.Math.Bool.{or-false, or-true}
use Rattle.std.proofs.lemmas.Bool.{eqb-false}
use Rattle.std.specs.Option.{option_or}
use Rattle.nio_base.specs.declared.numbers.CallerNo.{CallerNo}
use Rattle.nio_history.proofs.Put.{put_at_keeps, put-same, put-other}
use Rattle.nio_history.proofs.Told.{last_told}
use Rattle.nio_history.specs.Acts.{effect}
use Rattle.nio_history.specs.Histories.{state_after}
use Rattle.nio_history.specs.OwnEvents.{is_yes, pin_changed}
use Rattle.nio_history.specs.Pins.{PinsAreOwn}
use Rattle.nio_history.specs.State.{State, put, put_at}
use Rattle.nio_history.specs.declared.act.Act.{Act}
use Rattle.nio_history.specs.declared.act.Act.TheVariants.{Claim, Pin, Unpin, ClaimAgain}

pub swapped : (m n : ℕ) → (m == n) ≡ (n == m)
swapped m n = by_tests (m == n) (n == m) refl refl
  where
    by_tests : (a b : Bool) → (m == n) ≡ a → (n == m) ≡ b → a ≡ b
    by_tests true true e f = refl
    by_tests false false e f = refl
    by_tests true false e f = sym (eq-eqb n m (sym (eqb-true m n e))) ∙ f
    by_tests false true e f = sym e ∙ eq-eqb m n (sym (eqb-true n m f))

-- what stands at the index is put there, or taken away, by an act that tells so
pub own_at : {A : Type 0} (view : A → Bool) (f : ℕ → ℕ → A) (s' i' : ℕ) (x : A) (b : Bool) (s i : ℕ)
    (told : Option Bool) → view x ≡ b → view (f s i) ≡ is_yes told
    → view (put_at f s' i' x s i) ≡ is_yes (option_or (if (s' == s) && (i' == i) then Some b else None) told)
own_at {A = A} view f s' i' x b s i told new here =
    by_test ((s == s') && (i == i')) refl ∙ ap (λ (t : Bool). is_yes (option_or (if t then Some b else None) told)) same
  where
    same : ((s == s') && (i == i')) ≡ ((s' == s) && (i' == i))
    same = ap (λ (t : Bool). t && (i == i')) (swapped s s') ∙ ap (λ (t : Bool). (s' == s) && t) (swapped i i')

    by_test : (t : Bool) → ((s == s') && (i == i')) ≡ t
        → view (cond {A = A} t x (f s i)) ≡ is_yes (option_or (if t then Some b else None) told)
    by_test true e = new
    by_test false e = here

-- what stands at the index tells the same as what stood there
pub same_at : {A : Type 0} (view : A → Bool) (f : ℕ → ℕ → A) (s' i' : ℕ) (x : A) (s i : ℕ)
    → view x ≡ view (f s' i') → view (put_at f s' i' x s i) ≡ view (f s i)
same_at view f s' i' x s i same = put_at_keeps (λ a b y. view y ≡ view (f a b)) f s' i' x (λ _. same) s i refl

own_step : (st : State) (me : CallerNo) (act : Act) (s i : ℕ) (told : Option Bool) → st.pinned s i me.0 ≡ is_yes told
    → (effect st me act).pinned s i me.0 ≡ is_yes (option_or (pin_changed s i act) told)
own_step st me act s i told here = by_act act
  where
    -- a pin is put on or taken off
    set : (s' i' : ℕ) (x b : Bool) → x ≡ b
        → put_at st.pinned s' i' (put (st.pinned s' i') me.0 x) s i me.0
        ≡ is_yes (option_or (if (s' == s) && (i' == i) then Some b else None) told)
    set s' i' x b is =
        own_at (λ g. g me.0) st.pinned s' i' (put (st.pinned s' i') me.0 x) b s i told
        (put-same (st.pinned s' i') me.0 x ∙ is) here

    -- a claim that found the index claimed leaves the pins as they are
    left : (s' i' : ℕ)
        → put_at st.pinned s' i' (put (st.pinned s' i') me.0 (st.pinned s' i' me.0 || false)) s i me.0 ≡ is_yes told
    left s' i' =
        same_at (λ g. g me.0) st.pinned s' i' (put (st.pinned s' i') me.0 (st.pinned s' i' me.0 || false)) s i
        (put-same (st.pinned s' i') me.0 (st.pinned s' i' me.0 || false) ∙ or-false (st.pinned s' i' me.0))
        ∙ here

    by_act : (act' : Act)
        → (effect st me act').pinned s i me.0 ≡ is_yes (option_or (pin_changed s i act') told)
    by_act (Claim s' i' c true) = left s'.0 i'
    by_act (Claim s' i' c false) = set s'.0 i' (st.pinned s'.0 i' me.0 || true) true (or-true (st.pinned s'.0 i' me.0))
    by_act (Pin s' i' found) = set s'.0 i' true true refl
    by_act (Unpin s' i') = set s'.0 i' false false refl
    by_act (ClaimAgain s' i' c from true) = left s'.0 i'
    by_act (ClaimAgain s' i' c from false) =
        set s'.0 i' (st.pinned s'.0 i' me.0 || true) true (or-true (st.pinned s'.0 i' me.0))
    by_act act' = here

-- nobody puts a pin on or takes one off for another
pub other_step : (st : State) (me : CallerNo) (act : Act) (n s i : ℕ) → (me.0 == n) ≡ false
    → (effect st me act).pinned s i n ≡ st.pinned s i n
other_step st me act n s i other = by_act act
  where
    kept : (s' i' : ℕ) (x : Bool) → put_at st.pinned s' i' (put (st.pinned s' i') me.0 x) s i n ≡ st.pinned s i n
    kept s' i' x =
        same_at (λ g. g n) st.pinned s' i' (put (st.pinned s' i') me.0 x) s i
        (put-other (st.pinned s' i') me.0 x n (λ same. eqb-false me.0 n other (sym same)))

    by_act : (act' : Act) → (effect st me act').pinned s i n ≡ st.pinned s i n
    by_act (Claim s' i' c found) = kept s'.0 i' (st.pinned s'.0 i' me.0 || not found)
    by_act (Pin s' i' found) = kept s'.0 i' true
    by_act (Unpin s' i') = kept s'.0 i' false
    by_act (ClaimAgain s' i' c from found) = kept s'.0 i' (st.pinned s'.0 i' me.0 || not found)
    by_act act' = refl

pub pins_are_own : PinsAreOwn
pins_are_own l n s i =
    last_told l n (pin_changed s.0 i) (λ k st. st.pinned s.0 i k.0) refl
    (λ past e legal step told. own_step (state_after past) e.caller e.act s.0 i told)
    (λ past e legal step other. other_step (state_after past) e.caller e.act n.0 s.0 i other)
