-- The changes of one selector's parts when it is closed, and when a channel is, and the changes of the
-- state that they are.
use Rattle.std.proofs.Common.{◌≡◌, ℕ, ◌<◌, ◌≤◌, eqb, Bool, true, false, cond, Option, Some, None, is_some, List, length}
use Rattle.std.proofs.Common.{get_or, set, refl, sym, ap, ◌∙◌, ⊎_elim, map}
use Rattle.std.proofs.lemmas.Bool.{cases_lt, eq-eqb, ne_eqb, cond-true, cond-false, true≢false}
use Rattle.nio_group.specs.Group.{Group}
use Rattle.nio_history.specs.State.{put, unmade_channel}
use Rattle.nio_history.specs.declared.found.Chan.{Chan}
use Rattle.nio_history.specs.declared.found.Stage.{Stage}
use Rattle.nio_plain.proofs.Replying.{rows_of, with_rows, state-set_selector}
use Rattle.nio_plain.proofs.Changing.{changed-below, changed-past}
use Rattle.nio_plain.proofs.Parts.{Makes, state-removed, part_cond, cond_stays}
use Rattle.nio_plain.proofs.Places.{same_function, put_is, places_at, places_all, places_past}
use Rattle.nio_plain.proofs.Registered.{key_of-row}
use Rattle.nio_plain.specs.PlainState.{SelectorRow, KeyRow, places, changed, key_row, no_key, removed_row, state_from}
use Rattle.nio_plain.specs.PlainState.{state_of, channel_row, selector_row, no_selector, cancelled_row, emptied, key_in}
use Rattle.nio_plain.specs.PlainState.{with_cancelled_key, has_finished, pipe_of}
use Rattle.nio_plain.specs.ScriptState.{ScriptState, with_shared, Pipe}
use Rattle.nio_plain.specs.Seq.Cancelling.{has_index, cancelled_key, with_keys_cancelled}
use Rattle.nio_plain.specs.Seq.Closing.{without_keys}
use Rattle.nio_plain.specs.declared.plain.Plain.{Plain}
use Rattle.nio_plain.specs.declared.plain.selector.Closing.{Closing}
use Rattle.nio_plain.specs.declared.plain.selector.Key.{Key}
use Rattle.nio_plain.specs.declared.plain.selector.Selector.{Selector}

-- a call that changes the parts of one selector: x is the selector before, y the one after
pub changed_selector : (p : Plain) (s place : ℕ) (x y : Selector) (f : SelectorRow → SelectorRow)
    (F : ScriptState → ScriptState)
    → Makes p.group (map pipe_of p.pipes.items) (places (λ b. b) false p.interrupted.items)
    (length p.channels.items) (places channel_row unmade_channel p.channels.items) s f F → place ≡ s
    → s < length p.selectors.items → x ≡ get_or p.selectors.items place x
    → selector_row y ≡ f (selector_row x)
    → with_rows p (places selector_row no_selector (set p.selectors.items place y)) ≡ F (state_of p)
changed_selector p s place x y f F makes same h e done =
    let at = places_at selector_row no_selector p.selectors.items s x h
    (e ∙ ap (λ n. get_or p.selectors.items n x) same) in
    ap (λ n. with_rows p (places selector_row no_selector (set p.selectors.items n y))) same
    ∙ (state-set_selector p _ s y h refl
    ∙ (ap (λ r. with_rows p (put (rows_of p) s r)) (done ∙ ap f (sym at)) ∙ makes (rows_of p)))

-- the parts of a selector that was read
pub read_row : (p : Plain) (s place : ℕ) (x : Selector) → place ≡ s → s < length p.selectors.items
    → x ≡ get_or p.selectors.items place x → rows_of p s ≡ selector_row x
read_row p s place x same h e =
    places_at selector_row no_selector p.selectors.items s x h (e ∙ ap (λ n. get_or p.selectors.items n x) same)

-- a selector that isn't shut has no closing that has ended
pub not_finished : (o : Option Closing) → is_some o ≡ false → false ≡ has_finished o
not_finished None h = refl
not_finished (Some x) h = absurd (true≢false h)

-- each claimed key is removed
pub emptied-all : (xs : List Key)
    → changed (removed_row (λ _. false)) (places key_row no_key xs) (length xs) ≡ emptied (places key_row no_key xs)
emptied-all xs =
    let keys = places key_row no_key xs in
    let change : KeyRow → KeyRow = removed_row (λ _. false) in
    same_function (λ i. ⊎_elim
    (λ (l : i < length xs). changed-below change keys (length xs) i l
    ∙ sym (cond-true (keys i).stage.claimed (change (keys i)) (keys i)
    (places_all key_row no_key (λ r. r.stage.claimed ≡ true) (λ _. refl) xs i l)))
    (λ (l : length xs ≤ i). changed-past change keys (length xs) i l
    ∙ sym (cond-false (keys i).stage.claimed (change (keys i)) (keys i)
    (ap (λ (r : KeyRow). r.stage.claimed) (places_past key_row no_key xs i l))))
    (cases_lt i (length xs)))

-- one key is cancelled
pub cancelled-one : (keys : ℕ → KeyRow) (i : ℕ)
    → (λ j. cond (eqb i j) (cancelled_row (keys j)) (keys j)) ≡ put keys i (cancelled_row (keys i))
cancelled-one keys i =
    put_is (λ j. cond (eqb i j) (cancelled_row (keys j)) (keys j)) keys i (cancelled_row (keys i))
    (cond-true (eqb i i) (cancelled_row (keys i)) (keys i) (eq-eqb i i refl))
    (λ j ne. cond-false (eqb i j) (cancelled_row (keys j)) (keys j) (ne_eqb i j (λ e. ne (sym e))))

module _ (group : Group) (pipes : List Pipe) (interrupted : ℕ → Bool) (mark : ℕ) (chan : ℕ → Chan) where
  -- every key is removed
  pub makes-emptied : (s : ℕ)
      → Makes group pipes interrupted mark chan s (λ r. record r { keys = emptied r.keys })
      (λ x. with_shared x (without_keys x.shared s))
  makes-emptied s =
      λ row. state-removed group pipes interrupted mark chan s row (λ i. ((row s).keys i).stage.claimed) (λ _. false)

  module _ (row : ℕ → SelectorRow) (c : ℕ) where
    abbrev st : ScriptState
    st = state_from group pipes interrupted mark chan row

    abbrev goes : ℕ → ℕ → Bool
    goes s i = has_index (key_in (row s) c) i

    stays : {A : Type 0} (part : KeyRow → A) → ((k : KeyRow) → part (cancelled_row k) ≡ part k)
        → ◌≡◌ {A = ℕ → ℕ → A} (λ s i. part ((with_cancelled_key (row s) c).keys i)) (λ s i. part ((row s).keys i))
    stays part h =
        same_function
        (λ s. same_function
        (λ i. cond_stays part (goes s i) (cancelled_row ((row s).keys i)) ((row s).keys i)
        (h ((row s).keys i))))

    -- the channel's key is cancelled in each selector
    pub state-cancelled : state_from group pipes interrupted mark chan (λ s. with_cancelled_key (row s) c)
        ≡ with_shared st (with_keys_cancelled st.shared c)
    state-cancelled =
        let stage : ◌≡◌ {A = ℕ → ℕ → Stage} (λ s i. ((with_cancelled_key (row s) c).keys i).stage)
        (with_keys_cancelled st.shared c).key = same_function
        (λ s. same_function
        (λ i. part_cond (λ (k : KeyRow). k.stage) (goes s i) (cancelled_row ((row s).keys i))
        ((row s).keys i)
        ∙ ap (λ o. cond (has_index o i) (cancelled_key ((row s).keys i).stage)
        ((row s).keys i).stage)
        (sym (key_of-row group pipes interrupted mark chan row c s)))) in
        λ j. with_shared st (record st.shared {
          key = stage j;
          interest = stays (λ (k : KeyRow). k.interest) (λ _. refl) j;
          mark = stays (λ (k : KeyRow). k.mark) (λ _. refl) j;
          note = stays (λ (k : KeyRow). k.note) (λ _. refl) j;
          free = stays (λ (k : KeyRow). k.free) (λ _. refl) j;
        })
