-- Another key in the place of one, and the changes of a state that it is.
use Rattle.std.proofs.Common.{◌≡◌, ℕ, ◌<◌, ◌≤◌, eqb, Bool, cond, ◌&&◌, length, refl, ap, ◌∙◌, arith, ⊎_elim, List}
use Rattle.std.proofs.lemmas.Bool.{cases_lt}
use Rattle.nio_group.specs.Group.{Group}
use Rattle.nio_history.specs.State.{put, put_at, with_key, with_interest, with_mark, with_note}
use Rattle.nio_history.specs.declared.found.Chan.{Chan}
use Rattle.nio_history.specs.declared.found.Mark.{Mark}
use Rattle.nio_history.specs.declared.found.Stage.{Stage}
use Rattle.nio_plain.proofs.Replying.{rows_of}
use Rattle.nio_plain.proofs.Parts.{keys_changed}
use Rattle.nio_plain.proofs.Places.{put_part, put_by, put_at_same, places_past}
use Rattle.nio_plain.specs.PlainState.{SelectorRow, KeyRow, state_from, state_of, selector_row, no_selector}
use Rattle.nio_plain.specs.PlainState.{with_key_at, with_key_row}
use Rattle.nio_plain.specs.ScriptState.{ScriptState, with_shared, Pipe}
use Rattle.nio_plain.specs.declared.plain.Plain.{Plain}

-- a key is claimed in a selector that is made
pub claimed-made : (p : Plain) (s i : ℕ) → i < (rows_of p s).keys_high → s < length p.selectors.items
claimed-made p s i h =
    ⊎_elim
    (λ (l : s < length p.selectors.items). l)
    (λ (l : length p.selectors.items ≤ s).
    let none = ap (λ (r : SelectorRow). r.keys_high) (places_past selector_row no_selector p.selectors.items s l) in
    absurd (omega arith))
    (cases_lt s (length p.selectors.items))

module _ (group : Group) (pipes : List Pipe) (interrupted : ℕ → Bool) (mark : ℕ) (chan : ℕ → Chan)
    (row : ℕ → SelectorRow) (s i : ℕ) (x : KeyRow) where
  pub part_put : {A : Type 0} (part : KeyRow → A)
      → ◌≡◌ {A = ℕ → ℕ → A} (put (λ t j. part ((row t).keys j)) s (λ j. part (put (row s).keys i x j)))
      (put_at (λ t j. part ((row t).keys j)) s i (part x))
  part_put part =
      ap (put (λ t j. part ((row t).keys j)) s) (put_part part (row s).keys i x)
      ∙ put_by (λ t j. part ((row t).keys j)) s (λ b t j. cond (b && eqb j i) (part x) (part ((row t).keys j)))
      (λ t. refl)

  pub state-key : state_from group pipes interrupted mark chan (put row s (with_key_at (row s) i x))
      ≡ with_key_row (state_from group pipes interrupted mark chan row) s i x
  state-key = keys_changed group pipes interrupted mark chan s row (put (row s).keys i x)
      _ (part_put (λ (k : KeyRow). k.stage))
      _ (part_put (λ (k : KeyRow). k.interest))
      _ (part_put (λ (k : KeyRow). k.mark))
      _ (part_put (λ (k : KeyRow). k.note))
      _ (part_put (λ (k : KeyRow). k.free))

-- k is the key that stands there
module _ (p : Plain) (s i : ℕ) (k : KeyRow) (row : (rows_of p s).keys i ≡ k) where
  abbrev st : ScriptState
  st = state_of p

  stage_kept : put_at (state_of p).shared.key s i k.stage ≡ (state_of p).shared.key
  stage_kept = put_at_same (state_of p).shared.key s i k.stage (ap (λ (q : KeyRow). q.stage) row)

  interest_kept : put_at (state_of p).shared.interest s i k.interest ≡ (state_of p).shared.interest
  interest_kept = put_at_same (state_of p).shared.interest s i k.interest (ap (λ (q : KeyRow). q.interest) row)

  mark_kept : put_at (state_of p).shared.mark s i k.mark ≡ (state_of p).shared.mark
  mark_kept = put_at_same (state_of p).shared.mark s i k.mark (ap (λ (q : KeyRow). q.mark) row)

  note_kept : put_at (state_of p).shared.note s i k.note ≡ (state_of p).shared.note
  note_kept = put_at_same (state_of p).shared.note s i k.note (ap (λ (q : KeyRow). q.note) row)

  free_kept : put_at (state_of p).shared.free s i k.free ≡ (state_of p).shared.free
  free_kept = put_at_same (state_of p).shared.free s i k.free (ap (λ (q : KeyRow). q.free) row)

  pub key-stage : (stage : Stage)
      → with_key_row st s i (record k { stage = stage }) ≡ with_shared st (with_key st.shared s i stage)
  key-stage stage =
      λ j. with_shared st
      (record st.shared {
        key = put_at st.shared.key s i stage;
        interest = interest_kept j;
        mark = mark_kept j;
        note =
            note_kept j;
        free = free_kept j;
      })

  pub key-interest : (ops : ℕ)
      → with_key_row st s i (record k { interest = ops }) ≡ with_shared st (with_interest st.shared s i ops)
  key-interest ops =
      λ j. with_shared st
      (record st.shared {
        key = stage_kept j;
        interest = put_at st.shared.interest s i ops;
        mark = mark_kept j;
        note =
            note_kept j;
        free = free_kept j;
      })

  pub key-mark : (mark : Mark)
      → with_key_row st s i (record k { mark = mark }) ≡ with_shared st (with_mark st.shared s i mark)
  key-mark mark =
      λ j. with_shared st
      (record st.shared {
        key = stage_kept j;
        interest = interest_kept j;
        mark = put_at st.shared.mark s i mark;
        note =
            note_kept j;
        free = free_kept j;
      })

  pub key-note : (note : ℕ)
      → with_key_row st s i (record k { note = note }) ≡ with_shared st (with_note st.shared s i note)
  key-note note =
      λ j. with_shared st
      (record st.shared {
        key = stage_kept j;
        interest = interest_kept j;
        mark = mark_kept j;
        note =
            put_at st.shared.note s i note;
        free = free_kept j;
      })

  pub key-registered : (ops note : ℕ)
      → with_key_row st s i (record k { interest = ops; note = note })
      ≡ with_shared st (with_note (with_interest st.shared s i ops) s i note)
  key-registered ops note =
      λ j. with_shared st
      (record st.shared {
        key = stage_kept j;
        interest = put_at st.shared.interest s i ops;
        mark = mark_kept j;
        note =
            put_at st.shared.note s i note;
        free = free_kept j;
      })

-- the same stage in its place
pub stage-same : (p : Plain) (s i : ℕ)
    → with_key (state_of p).shared s i ((state_of p).shared.key s i) ≡ (state_of p).shared
stage-same p s i =
    λ j. record (state_of
    p).shared { key = put_at_same (state_of p).shared.key s i ((state_of p).shared.key s i) refl j }
