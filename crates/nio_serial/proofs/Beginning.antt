-- Beginning a selection amounts to the documented call.
use Rattle.std.proofs.Common.{◌≡◌, ℕ, zero, suc, ◌<◌, ◌==◌, nat_lt, Bool, true, false, cond, not, ◌&&◌, ◌||◌}
use Rattle.std.proofs.Common.{if◌then◌else◌, Option, Some, None, option_map, is_some, Result, Ok, Err, List, [], ◌∷◌}
use Rattle.std.proofs.Common.{map, filter, refl, ap, sym, ◌∙◌, subst, eq-eqb}
use Rattle.std.proofs.Math.Bool.{or-true}
use Rattle.std.proofs.lemmas.Bool.{both_ways}
use Rattle.std.proofs.lemmas.List.Elements.{All-map}
use Rattle.std.proofs.lemmas.List.Kept.{AllPairs-cons, AllPairs-filter}
use Rattle.std.specs.List.{AllPairs}
use Rattle.nio_base.specs.declared.numbers.CallerNo.{CallerNo}
use Rattle.nio_base.specs.declared.numbers.SelNo.{SelNo}
use Rattle.nio_history.specs.Acts.{taken_by}
use Rattle.nio_history.specs.Sets.{in_key_set, in_cancelled_set, is_valid}
use Rattle.nio_history.specs.State.{State, put, with_turn, with_begun}
use Rattle.nio_history.specs.declared.found.Mode.{Mode}
use Rattle.nio_history.specs.declared.found.Stage.{Stage}
use Rattle.nio_language.specs.declared.reply.Reply.TheVariants as reply
use Rattle.nio_plain.proofs.Found.{below_all}
use Rattle.nio_plain.proofs.Places.{put_same, put-twice}
use Rattle.nio_plain.specs.ScriptState.{ScriptState}
use Rattle.nio_plain.specs.Seq.Replies.{unchanged}
use Rattle.nio_plain.specs.Seq.Names.{below, key_at}
use Rattle.nio_plain.specs.Seq.Removing.{removed_key}
use Rattle.nio_plain.specs.Seq.Selections.{without_cancelled, looked_keys, selection_begun, begun_with}
use Rattle.nio_plain.specs.declared.rules.Rules.TheVariants.{Now}
use Rattle.nio_steps.proofs.Lists.{pairs-none, pairs-head, pairs-tail, pairs-push}
use Rattle.nio_steps.proofs.PerformLaws.{perform_then_on}
use Rattle.nio_steps.specs.Perform.{Performed, perform}
use Rattle.nio_steps.specs.Plan.{Plan, ◌>>=◌}
use Rattle.nio_steps.specs.SelectCalls.{Selection, given_back}
use Rattle.nio_steps.specs.Looking.{over_not_free, look_over, looked_key}
use Rattle.nio_steps.specs.SelectCalls.{begin_below, begin_with_turn, begin_open, try_begin_plan}
use Rattle.nio_steps.specs.Steps.{look_keys}
use Rattle.nio_steps.specs.declared.looked.LookedKey.{LookedKey}
use Rattle.nio_steps.specs.declared.refusal.BeginError.{BeginError}
use Rattle.nio_serial.proofs.Base.{put-back, put-under, settled-cancelled, branch}
use Rattle.nio_serial.proofs.FreeWords.{listed, filter-same}
use Rattle.nio_serial.proofs.Sweeping.{swept, looked_over, look-performed, swept-is, swept-touched}
use Rattle.nio_serial.specs.Between.{AreTouched, IsOn}
use Rattle.nio_serial.specs.Documented.{Progress, settled, settled_state, looked_pair, shown, documented, amounts}
use Rattle.nio_serial.specs.Lines.{after_begin}
use Rattle.nio_serial.specs.Replies.{begin_reply}

-- ---- lists

filter-filter : (p q : ℕ → Bool) (xs : List ℕ) → filter p (filter q xs) ≡ filter (λ i. q i && p i) xs
filter-filter p q [] = refl
filter-filter p q (x ∷ xs) = by_test (q x) (filter-filter p q xs)
  where
    by_test : (b : Bool) → filter p (filter q xs) ≡ filter (λ i. q i && p i) xs
        → filter p (cond b (x ∷ filter q xs) (filter q xs))
        ≡ cond (b && p x) (x ∷ filter (λ i. q i && p i) xs) (filter (λ i. q i && p i) xs)
    by_test true rest = ap (λ ys. cond (p x) (x ∷ ys) ys) rest
    by_test false rest = rest

below-rises : (n : ℕ) → AllPairs (λ i j. i < j) (below n)
below-rises zero = pairs-none (λ i j. i < j)
below-rises (suc n) = pairs-push (λ i j. i < j) (below n) n (below-rises n) (below_all n)

pairs-map : {X Y : Type 0} (f : X → Y) (R : Y → Y → Type 0) (xs : List X) → AllPairs (λ a b. R (f a) (f b)) xs
    → AllPairs R (map f xs)
pairs-map f R [] pairs = pairs-none R
pairs-map f R (x ∷ xs) pairs =
    AllPairs-cons R (f x) (map f xs) (All-map (R (f x)) f xs (pairs-head (λ a b. R (f a) (f b)) x xs pairs))
    (pairs-map f R xs (pairs-tail (λ a b. R (f a) (f b)) x xs pairs))

-- ---- with the list, or without it

-- `x` is the selection that begins where nobody selects, and `left` the state that it leaves
module _ (st : State) (me : CallerNo) (s : SelNo) (mode : Mode) (known : Option (List LookedKey)) (x : Selection)
    (left : State)
    (below : perform me (begin_below s mode known (st.keys_high s.0) false)
    (with_begun (with_turn st s.0 (Some me)) s.0 true) ≡ record { answer = Ok x; state = left }) where
  open-performed : st.turn s.0 ≡ None → (st.gate s.0).shut ≡ false
      → perform me (begin_open s mode known false) st ≡ record { answer = Ok x; state = left }
  open-performed no_turn not_shut =
      ap (λ (o : Option CallerNo). perform me (if is_some o then Plan.reply (Err BeginError.Busy)
      else begin_with_turn s mode known false) (with_begun (with_turn st s.0 (taken_by me o)) s.0
      (is_some o && st.begun s.0))) no_turn
      ∙ (ap (λ (b : Bool). perform me (if b then given_back s (Err BeginError.ClosedSelector) else
      (look_keys s >>= (λ bound. begin_below s mode known bound false)))
      (with_begun taken s.0 (taken.begun s.0 || not b))) not_shut
      ∙ (ap (λ (f : ℕ → Bool). perform me (begin_below s mode known (st.keys_high s.0) false)
      (record taken { begun = f }))
      (ap (λ (b : Bool). put taken.begun s.0 b) (or-true (taken.begun s.0)) ∙ put-twice st.begun s.0 false true)
      ∙ below))
    where
      taken : State
      taken = with_begun (with_turn st s.0 (Some me)) s.0 false

  pub begin-performed : st.turn s.0 ≡ None → (st.gate s.0).shut ≡ false
      → perform me (try_begin_plan s mode known false) st ≡ record { answer = Ok x; state = left }
  unfolding try_begin_plan
  begin-performed no_turn not_shut =
      ap (λ (b : Bool). perform me (if b then Plan.reply (Err BeginError.ClosedSelector)
      else begin_open s mode known false) st) not_shut
      ∙ open-performed no_turn not_shut

  pub begin-amounts-by : (now : Progress)
      → (st.turn s.0 ≡ None → (st.gate s.0).shut ≡ false → selection_begun Now (documented st now) me s.0 mode
      ≡ amounts begin_reply (after_begin now me s) (record { answer = Ok x; state = left }))
      → begun_with Now (documented st now) me s.0 (Some mode)
      ≡ amounts begin_reply (after_begin now me s) (perform me (try_begin_plan s mode known false) st)
  unfolding try_begin_plan
  begin-amounts-by now begun-is =
      branch (amounts begin_reply (after_begin now me s)) me (Plan.reply (Err BeginError.ClosedSelector))
      (begin_open s mode known false) st _ _ (st.gate s.0).shut (st.gate s.0).shut refl
      (λ _. refl)
      (λ not_shut. by_turn (st.turn s.0) refl not_shut)
    where
      by_turn : (o : Option CallerNo) → st.turn s.0 ≡ o → (st.gate s.0).shut ≡ false
          → cond (is_some o) (unchanged (documented st now) reply.Busy)
          (selection_begun Now (documented st now) me s.0 mode)
          ≡ amounts begin_reply (after_begin now me s) (perform me (begin_open s mode known false) st)
      by_turn (Some n) is not_shut =
          sym (ap (λ (o : Option CallerNo). amounts begin_reply (after_begin now me s)
          (perform me (if is_some o then Plan.reply (Err BeginError.Busy) else begin_with_turn s mode known false)
          (with_begun (with_turn st s.0 (taken_by me o)) s.0 (is_some o && st.begun s.0)))) is
          ∙ (λ j. record {
            reply = reply.Busy;
            left =
                documented (record st {
                  turn = put_same st.turn s.0 (Some n) is j;
                  begun = put_same st.begun s.0
                      (st.begun s.0) refl j;
                }) now;
          }))
      by_turn None is not_shut =
          begun-is is not_shut ∙ sym (ap (amounts begin_reply (after_begin now me s)) (open-performed is not_shut))

  -- what the call answers, and the state that it leaves: it is refused, or the selection has begun
  pub begin-cases-by : (P : Performed (Result Selection BeginError) → Type 0)
      → P (record { answer = Err BeginError.ClosedSelector; state = st })
      → P (record { answer = Err BeginError.Busy; state = st })
      → (st.turn s.0 ≡ None → (st.gate s.0).shut ≡ false → P (record { answer = Ok x; state = left }))
      → P (perform me (try_begin_plan s mode known false) st)
  unfolding try_begin_plan
  begin-cases-by P closed busy begins = by_shut (st.gate s.0).shut refl
    where
      by_turn : (o : Option CallerNo) → st.turn s.0 ≡ o → (st.gate s.0).shut ≡ false
          → P (perform me (begin_open s mode known false) st)
      by_turn (Some n) is not_shut =
          subst P (sym (ap (λ (o : Option CallerNo). perform me
          (if is_some o then Plan.reply (Err BeginError.Busy) else begin_with_turn s mode known false)
          (with_begun (with_turn st s.0 (taken_by me o)) s.0 (is_some o && st.begun s.0))) is
          ∙ (λ j. record {
            answer = Err BeginError.Busy;
            state =
                record st {
                  turn = put_same st.turn s.0 (Some n) is j;
                  begun = put_same st.begun s.0
                      (st.begun s.0) refl j;
                };
          }))) busy
      by_turn None is not_shut = subst P (sym (open-performed is not_shut)) (begins is not_shut)

      by_shut : (b : Bool) → (st.gate s.0).shut ≡ b
          → P (perform me (if b then Plan.reply (Err BeginError.ClosedSelector) else begin_open s mode known false) st)
      by_shut true e = closed
      by_shut false e = by_turn (st.turn s.0) refl e

-- ---- the call without the list

module _ (st : State) (now : Progress) (me : CallerNo) (s : SelNo)
    (none_due : (i : ℕ) → st.put_due s.0 i ≡ false) (untaken : (i : ℕ) → st.taker s.0 i ≡ None)
    (published : (i : ℕ) → (st.key s.0 i).published ≡ nat_lt i (st.keys_high s.0))
    (free : (i : ℕ) → st.free s.0 i ≡ true → (st.key s.0 i).removed ≡ true) where
  abbrev ds : ScriptState
  ds = documented st now

  abbrev mark : ℕ
  mark = st.keys_high s.0

  -- the selection's turn
  abbrev turned : State
  turned = with_begun (with_turn st s.0 (Some me)) s.0 true

  -- the indexes that it goes over
  abbrev over : List ℕ
  over = listed turned s.0 mark

  abbrev looked : List LookedKey
  looked = looked_over turned me s none_due untaken over

  abbrev left : State
  left = swept turned me s none_due untaken over

  abbrev begun : Mode → Selection
  begun mode = record { selector = s; mode = mode; bound = mark; looked = looked; listed = false }

  -- ---- what the plan does

  below-performed : (mode : Mode) → perform me (begin_below s mode None mark false) turned
      ≡ record { answer = Ok (begun mode); state = left }
  below-performed mode =
      perform_then_on me (over_not_free s mark (look_over s) []) _ turned looked left
      (look-performed turned me s none_due untaken mark)

  -- ---- what it comes to

  abbrev swept_ds : State
  swept_ds = without_cancelled Now ds.shared s.0

  state-is : settled_state left ≡ with_begun (with_turn swept_ds s.0 (Some me)) s.0 true
  state-is = swept-is turned me s none_due untaken published free

  -- the valid keys that are listed are the key set that is left
  in_set_after : (k : Stage) → in_key_set (cond (in_cancelled_set (settled k)) (removed_key (settled k)) (settled k))
      ≡ is_valid k
  in_set_after k = by_test (in_cancelled_set (settled k)) refl
    where
      none_of : (b : Bool) → (b && false) ≡ false
      none_of true = refl
      none_of false = refl

      not_valid : (in_set c : Bool) → (in_set && c) ≡ true → (in_set && not c) ≡ false
      not_valid true true e = refl
      not_valid true false e = absurd (both_ways false refl e)
      not_valid false c e = absurd (both_ways false refl e)

      stays_valid : (in_set c : Bool) → (in_set && c) ≡ false → in_set ≡ (in_set && not c)
      stays_valid true true e = absurd (both_ways true e refl)
      stays_valid true false e = refl
      stays_valid false c e = refl

      by_test : (b : Bool) → in_cancelled_set (settled k) ≡ b
          → in_key_set (cond b (removed_key (settled k)) (settled k)) ≡ is_valid k
      by_test true is =
          none_of k.published ∙ sym (not_valid (in_key_set k) k.cancelled (sym (settled-cancelled k) ∙ is))
      by_test false is = stays_valid (in_key_set k) k.cancelled (sym (settled-cancelled k) ∙ is)

  goes_there : (i : ℕ) → swept_ds.key s.0 i
      ≡ cond (in_cancelled_set (settled (st.key s.0 i))) (removed_key (settled (st.key s.0 i))) (settled (st.key s.0 i))
  goes_there i =
      ap (λ b. cond (b && in_cancelled_set (settled (st.key s.0 i))) (removed_key (settled (st.key s.0 i)))
      (settled (st.key s.0 i))) (eq-eqb s.0 s.0 refl)

  listed-valid : (i : ℕ) → i < mark → (not (st.free s.0 i) && is_valid (st.key s.0 i)) ≡ in_key_set (swept_ds.key s.0 i)
  listed-valid i low = by_free (st.free s.0 i) refl ∙ sym (ap in_key_set (goes_there i) ∙ in_set_after (st.key s.0 i))
    where
      removed_invalid : (p r c : Bool) → r ≡ true → false ≡ ((p && not r) && not c)
      removed_invalid true true c e = refl
      removed_invalid true false c e = absurd (both_ways false refl e)
      removed_invalid false r c e = refl

      by_free : (b : Bool) → st.free s.0 i ≡ b → (not b && is_valid (st.key s.0 i)) ≡ is_valid (st.key s.0 i)
      by_free true is =
          removed_invalid (st.key s.0 i).published (st.key s.0 i).removed (st.key s.0 i).cancelled (free i is)
      by_free false is = refl

  serial-same : (b : Bool) (k : Stage) → k.serial ≡ (cond b (removed_key (settled k)) (settled k)).serial
  serial-same true k = refl
  serial-same false k = refl

  pairs-are : (xs : List ℕ) → map looked_pair (map (λ i. looked_key i (st.key s.0 i) (st.interest s.0 i)) xs)
      ≡ map (λ i. (key_at swept_ds s.0 i, swept_ds.interest s.0 i)) xs
  pairs-are [] = refl
  pairs-are (i ∷ xs) =
      λ j. (
        record {
          index = i;
          serial = serial-same ((s.0 == s.0) && in_cancelled_set (settled (st.key s.0 i)))
              (st.key s.0 i) j;
        },
        st.interest s.0 i,
      ) ∷ pairs-are xs j

  looked-is : map looked_pair looked ≡ looked_keys swept_ds s.0
  looked-is =
      pairs-are (filter (λ i. is_valid (st.key s.0 i)) over)
      ∙ ap (map (λ i. (key_at swept_ds s.0 i, swept_ds.interest s.0 i)))
      (filter-filter (λ i. is_valid (st.key s.0 i)) (λ i. not (st.free s.0 i)) (below mark)
      ∙ filter-same (λ i. not (st.free s.0 i) && is_valid (st.key s.0 i))
      (λ i. in_key_set (swept_ds.key s.0 i)) mark listed-valid)

  begun-is : (mode : Mode) → selection_begun Now ds me s.0 mode
      ≡ amounts begin_reply (after_begin now me s) (record { answer = Ok (begun mode); state = left })
  begun-is mode = λ j. record {
    reply = reply.Looked (sym looked-is j);
    left = record {
      shared = sym state-is j;
      selection =
          (ap (λ looked. put ds.selection s.0 (Some (record { mode = mode; bound = mark; looked = looked })))
          (sym looked-is)
          ∙ sym (put-under (λ _ o. option_map (λ x. shown x.selection) o) now.selection s.0
          (Some (record { caller = me; selection = begun mode })))) j;
      group = now.group;
      pipes = now.pipes;
    };
  }

  pub begin-amounts : (mode : Mode) → begun_with Now ds me s.0 (Some mode)
      ≡ amounts begin_reply (after_begin now me s) (perform me (try_begin_plan s mode None false) st)
  begin-amounts mode = begin-amounts-by st me s mode None (begun mode) left (below-performed mode) now (λ _ _. begun-is mode)

  -- what the call answers, and the state that it leaves
  pub begin-cases : (mode : Mode) (P : Performed (Result Selection BeginError) → Type 0)
      → P (record { answer = Err BeginError.ClosedSelector; state = st })
      → P (record { answer = Err BeginError.Busy; state = st })
      → (st.turn s.0 ≡ None → (st.gate s.0).shut ≡ false → P (record { answer = Ok (begun mode); state = left }))
      → P (perform me (try_begin_plan s mode None false) st)
  begin-cases mode = begin-cases-by st me s mode None (begun mode) left (below-performed mode)

  pub begun-touched : (t : ℕ) → AreTouched st t → AreTouched left t
  begun-touched = swept-touched turned me s none_due untaken over

  -- the selection that has begun looks at each index once, in rising order
  pub begun-on : (mode : Mode) → IsOn s.0 (begun mode)
  begun-on mode = record {
    selector = refl;
    rises = pairs-map (λ i. looked_key i (st.key s.0 i) (st.interest s.0 i)) (λ (a b : LookedKey). a.index < b.index)
        (filter (λ i. is_valid (st.key s.0 i)) over)
        (AllPairs-filter (λ i j. i < j) (λ i. is_valid (st.key s.0 i)) over
        (AllPairs-filter (λ i j. i < j) (λ i. not (st.free s.0 i)) (below mark) (below-rises mark)));
  }

-- ---- a beginning for which there is no memory

pub begin-lacking : (st : State) (me : CallerNo) (s : SelNo) (mode : Mode) (known : Option (List LookedKey)) → ((t i : ℕ) → st.put_due t i ≡ false)
    → st.begun s.0 ≡ is_some (st.turn s.0)
    → (perform me (try_begin_plan s mode known true) st).state ≡ st
unfolding try_begin_plan
begin-lacking st me s mode known none_due begun = by_shut (st.gate s.0).shut refl
  where
    taken : State
    taken = with_begun (with_turn st s.0 (Some me)) s.0 false

    -- the turn is given back, whatever was begun
    given : (b : Bool) → st.turn s.0 ≡ None
        → record st {
          turn = put (put st.turn s.0 (Some me)) s.0 None;
          begun = put (put (put st.begun s.0 false) s.0 b) s.0 false;
          put_due = λ t i. if t == s.0 then false else st.put_due t i;
        } ≡ st
    given b is =
        let idle : st.begun s.0 ≡ false = begun ∙ ap is_some is in
        λ j. record st {
          turn = put-back st.turn s.0 (Some me) None is j;
          begun = (put-twice (put st.begun s.0 false) s.0 b false
              ∙ (put-twice st.begun s.0 false false ∙ put_same st.begun s.0 false idle)) j;
          put_due = λ t i. no_longer (t == s.0) (st.put_due t i) (none_due t i) j;
        }
      where
        no_longer : (c x : Bool) → x ≡ false → cond c false x ≡ x
        no_longer true x e = sym e
        no_longer false x e = refl

    by_look : (b : Bool) → st.turn s.0 ≡ None
        → (perform me (if b then given_back s (Err BeginError.ClosedSelector) else
        (look_keys s >>= (λ bound. begin_below s mode known bound true)))
        (with_begun taken s.0 (taken.begun s.0 || not b))).state ≡ st
    by_look true is = given (taken.begun s.0 || false) is
    by_look false is = given (taken.begun s.0 || true) is

    by_turn : (o : Option CallerNo) → st.turn s.0 ≡ o
        → (perform me (if is_some o then Plan.reply (Err BeginError.Busy) else begin_with_turn s mode known true)
        (with_begun (with_turn st s.0 (taken_by me o)) s.0 (is_some o && st.begun s.0))).state ≡ st
    by_turn (Some n) is =
        λ j. record st {
          turn = put_same st.turn s.0 (Some n) is j;
          begun = put_same st.begun s.0
              (st.begun s.0) refl j;
        }
    by_turn None is = by_look (st.gate s.0).shut is

    by_shut : (b : Bool) → (st.gate s.0).shut ≡ b
        → (perform me (if b then Plan.reply (Err BeginError.ClosedSelector) else begin_open s mode known true) st).state ≡ st
    by_shut true e = refl
    by_shut false e = by_turn (st.turn s.0) refl
