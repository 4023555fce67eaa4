-- Listing the key set and the selected set amounts to the documented calls.
use Rattle.std.proofs.Common.{◌≡◌, ℕ, ◌+◌, Bool, true, false, cond, ◌&&◌, Result, Ok, Err, List, [], ◌∷◌, ◌++◌, map}
use Rattle.std.proofs.Common.{filter, refl, ap, sym, ◌∙◌, add-one, arith, if◌then◌else◌}
use Rattle.std.proofs.lemmas.List.{append-nil, map-append}
use Rattle.std.proofs.lemmas.List.Elements.{filter-append}
use Rattle.nio_base.specs.declared.numbers.CallerNo.{CallerNo}
use Rattle.nio_base.specs.declared.numbers.KeyNo.{KeyNo}
use Rattle.nio_base.specs.declared.numbers.SelNo.{SelNo}
use Rattle.nio_history.specs.Sets.{in_key_set, in_selected_set}
use Rattle.nio_history.specs.State.{State, with_pin, with_amid}
use Rattle.nio_plain.proofs.Naming.{selector-through}
use Rattle.nio_plain.specs.ScriptState.{ScriptState}
use Rattle.nio_plain.specs.Seq.Replies.{Replied, unchanged}
use Rattle.nio_plain.specs.Seq.Listing.{names_or_none, listed, keys_call, selected_call}
use Rattle.nio_plain.specs.Seq.Names.{below, key_at}
use Rattle.nio_steps.proofs.PerformLaws.{perform_then_on, perform_sweep}
use Rattle.nio_steps.specs.Perform.{Performed, perform}
use Rattle.nio_steps.specs.Plan.{Plan, ◌>>=◌}
use Rattle.nio_steps.specs.SelectCalls.{present_key, list_key, list_present, list_selected, list_all, list_open}
use Rattle.nio_steps.specs.SelectCalls.{list_plan, keys_plan, selected_keys_plan}
use Rattle.nio_steps.specs.Steps.{look_mark}
use Rattle.nio_steps.specs.Sweeps.{sweep_to}
use Rattle.nio_steps.specs.declared.refusal.ListError.{ListError}
use Rattle.nio_serial.proofs.Base.{IsOff, pin-back, caller-off, cancelled_parts, branch, unpinned, perform_pinned}
use Rattle.nio_serial.specs.Documented.{Progress, documented, amounts}
use Rattle.nio_serial.specs.Replies.{key_id, list_reply}

filter-push : (p : ℕ → Bool) (n : ℕ) → filter p (below (n + 1)) ≡ filter p (below n) ++ cond (p n) (n ∷ []) []
filter-push p n = ap (λ k. filter p (below k)) (add-one n) ∙ filter-append p (below n) (n ∷ [])

module _ (st : State) (me : CallerNo) (s : SelNo) (list_one : SelNo → ℕ → List KeyNo → Plan (List KeyNo))
    (p : ℕ → Bool) where
  abbrev present : ℕ → KeyNo
  present i = present_key s i (st.key s.0 i)

  abbrev found : ℕ → List KeyNo
  found n = map present (filter p (below n))

  module _ (each : (n : ℕ) (before : List KeyNo) → perform me (list_one s n before) st ≡ record {
    answer = cond (p n) (before ++ present n ∷ []) before;
    state = st;
  }) where
    pushed : (n : ℕ) → cond (p n) (found n ++ present n ∷ []) (found n) ≡ found (n + 1)
    pushed n =
        by_test (p n)
        ∙ sym (ap (map present) (filter-push p n)
        ∙ map-append present (filter p (below n)) (cond (p n) (n ∷ []) []))
      where
        by_test : (b : Bool)
            → cond b (found n ++ present n ∷ []) (found n) ≡ found n ++ map present (cond b (n ∷ []) [])
        by_test true = refl
        by_test false = sym (append-nil (found n))

    pub list_all-performed : (bound : ℕ) → perform me (list_all list_one s bound) st ≡ record {
      answer = Ok (found bound);
      state = st;
    }
    list_all-performed bound =
        perform_then_on me (sweep_to bound 0 (list_one s) []) (λ keys. Plan.reply (Ok keys)) st (found bound) st
        (perform_sweep me bound 0 (list_one s) found (λ _. st) (omega arith)
        (λ n _ _. each n (found n) ∙ ap (λ keys. record { answer = keys; state = st }) (pushed n)))

-- the names of the present keys
names-are : (st : State) (s : SelNo) (xs : List ℕ)
    → map key_id (map (λ i. present_key s i (st.key s.0 i)) xs) ≡ map (key_at st s.0) xs
names-are st s [] = refl
names-are st s (i ∷ xs) = ap (λ ks. key_at st s.0 i ∷ ks) (names-are st s xs)

module _ (st : State) (now : Progress) (me : CallerNo) (s : SelNo) (made : st.selector s.0 ≡ true) where
  abbrev ds : ScriptState
  ds = documented st now

  abbrev stays : Performed (Result (List KeyNo) ListError) → Replied
  stays done = amounts list_reply (λ _. now) done

  listed-amounts : (list_one : SelNo → ℕ → List KeyNo → Plan (List KeyNo)) (p : ℕ → Bool)
      → ((n : ℕ) (before : List KeyNo)
      → perform me (list_one s n before) st ≡ record {
        answer = cond (p n) (before ++ present_key s n (st.key s.0 n) ∷ []) before;
        state = st;
      })
      → listed ds s p ≡ stays (perform me (list_plan list_one s false) st)
  listed-amounts list_one p each =
      selector-through ds s made _
      ∙ branch stays me (Plan.reply (Err ListError.ClosedSelector)) (list_open list_one s false) st _ _
      (st.gate s.0).shut (st.gate s.0).shut refl
      (λ _. refl)
      (λ _. ap (λ ks. unchanged ds (names_or_none ks)) (sym (names-are st s (filter p (below (st.keys_high s.0)))))
      ∙ sym (ap stays (list_all-performed st me s list_one p each (st.keys_high s.0))))

  pub keys-amounts : keys_call ds s ≡ stays (perform me (keys_plan s false) st)
  unfolding keys_call keys_plan
  keys-amounts = listed-amounts list_key (λ i. in_key_set (st.key s.0 i)) (λ n before. refl)

  module _ (off : (i : ℕ) → IsOff st.pinned st.amid s.0 i me.0) where
    one-performed : (n : ℕ) (before : List KeyNo)
        → perform me (list_selected s n before) st ≡ record {
          answer = cond (in_selected_set st s.0 n) (before ++ present_key s n (st.key s.0 n) ∷ []) before;
          state =
              st;
        }
    one-performed n before =
        perform_pinned me s n (list_present s n before) st ∙ by_set (in_key_set (st.key s.0 n))
      where
        more : List KeyNo
        more = before ++ present_key s n (st.key s.0 n) ∷ []

        held : State
        held = with_pin st s.0 n me.0 true

        back : (keys : List KeyNo)
            → ◌≡◌ {A = Performed (List KeyNo)}
            (record { answer = keys; state = with_amid (with_pin held s.0 n me.0 false) s.0 n me.0 false })
            (record { answer = keys; state = st })
        back keys = λ j. record {
          answer = keys;
          state = record st {
            pinned = pin-back st.pinned s.0 n me.0 (off n).unpinned j;
            amid = caller-off st.amid s.0 n me.0 (off n).unchanging j;
          };
        }

        by_set : (b : Bool)
            → unpinned me s n
            (perform me
            (cond b (look_mark s n >>= (λ found. Plan.reply (cond found.selected more before)))
            (Plan.reply before)) held)
            ≡ record { answer = cond (b && (st.mark s.0 n).selected) more before; state = st }
        by_set true = back (cond (st.mark s.0 n).selected more before)
        by_set false = back before

    pub selected-amounts : selected_call ds s ≡ stays (perform me (selected_keys_plan s false) st)
    unfolding selected_call selected_keys_plan
    selected-amounts =
        ap (listed ds s)
        (λ j i. cancelled_parts (st.key s.0 i).published (st.key s.0 i).removed (st.mark s.0 i).selected j)
        ∙ listed-amounts list_selected (in_selected_set st s.0) one-performed

-- a list for which there is no memory
pub list-lacking : (st : State) (me : CallerNo) (s : SelNo) (list_one : SelNo → ℕ → List KeyNo → Plan (List KeyNo))
    → (perform me (list_plan list_one s true) st).state ≡ st
list-lacking st me s list_one = by_shut (st.gate s.0).shut
  where
    by_shut : (b : Bool)
        → (perform me (if b then Plan.reply (Err ListError.ClosedSelector) else list_open list_one s true) st).state
        ≡ st
    by_shut true = refl
    by_shut false = refl
