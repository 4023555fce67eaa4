-- Beginning a selection with the list amounts to the documented call, where what it then has is the key set.
use Rattle.std.proofs.Common.{◌≡◌, ℕ, ◌==◌, nat_lt, Bool, true, false, cond, not, ◌&&◌}
use Rattle.std.proofs.Common.{Some, None, option_map, Result, Ok, Err, List, map, refl, ap, sym, ◌∙◌}
use Rattle.std.proofs.Common.{subst, eqb-true, eq-eqb}
use Rattle.std.proofs.lemmas.Bool.{and_from, both_ways}
use Rattle.nio_base.specs.declared.numbers.CallerNo.{CallerNo}
use Rattle.nio_base.specs.declared.numbers.SelNo.{SelNo}
use Rattle.nio_history.specs.Answers.{is_pinned}
use Rattle.nio_history.specs.Sets.{in_cancelled_set}
use Rattle.nio_history.specs.State.{State, put, with_turn, with_begun}
use Rattle.nio_history.specs.declared.found.Mode.{Mode}
use Rattle.nio_history.specs.declared.found.Stage.{Stage}
use Rattle.nio_language.specs.declared.reply.Reply.TheVariants as reply
use Rattle.nio_plain.specs.ScriptState.{ScriptState}
use Rattle.nio_plain.specs.Seq.Selections.{without_cancelled, looked_keys, selection_begun, begun_with}
use Rattle.nio_plain.specs.declared.rules.Rules.TheVariants.{Now}
use Rattle.nio_steps.proofs.PerformLaws.{perform_then_on}
use Rattle.nio_steps.specs.ChannelCalls.{words_below}
use Rattle.nio_steps.specs.Looking.{list_word, look_at_keys}
use Rattle.nio_steps.specs.Perform.{Performed, perform}
use Rattle.nio_steps.specs.SelectCalls.{Selection, begin_below, try_begin_plan}
use Rattle.nio_steps.specs.Sweeps.{sweep_to}
use Rattle.nio_steps.specs.declared.looked.LookedKey.{LookedKey}
use Rattle.nio_steps.specs.declared.refusal.BeginError.{BeginError}
use Rattle.nio_serial.proofs.Base.{put-under}
use Rattle.nio_serial.proofs.Beginning.{begin-performed, begin-amounts-by, begin-cases-by}
use Rattle.nio_serial.proofs.FreeWords.{has_index}
use Rattle.nio_serial.proofs.Removing.{gone}
use Rattle.nio_serial.proofs.Sweeping.{swept, swept_none, relisted, list_turn, swept-over-is, touched-there}
use Rattle.nio_serial.proofs.Sweeping.{swept-touched}
use Rattle.nio_serial.proofs.TakenWords.{taken, taken-elsewhere, list-performed}
use Rattle.nio_serial.proofs.TouchedWords.{touched_in}
use Rattle.nio_serial.specs.Between.{AreTouched}
use Rattle.nio_serial.specs.Documented.{Progress, settled_state, looked_pair, shown, documented, amounts}
use Rattle.nio_serial.specs.Lines.{after_begin}
use Rattle.nio_serial.specs.Replies.{begin_reply}

module _ (st : State) (now : Progress) (me : CallerNo) (s : SelNo)
    (none_due : (i : ℕ) → st.put_due s.0 i ≡ false) (untaken : (i : ℕ) → st.taker s.0 i ≡ None)
    (published : (i : ℕ) → (st.key s.0 i).published ≡ nat_lt i (st.keys_high s.0))
    (free : (i : ℕ) → st.free s.0 i ≡ true → (st.key s.0 i).removed ≡ true)
    (unpinned : (i : ℕ) → is_pinned st s.0 i ≡ false)
    (touched : (st.gate s.0).shut ≡ false → (i : ℕ) → in_cancelled_set (st.key s.0 i) ≡ true
    → st.touched s.0 i ≡ true)
    (known : List LookedKey) where
  abbrev ds : ScriptState
  ds = documented st now

  abbrev mark : ℕ
  mark = st.keys_high s.0

  -- the selection's turn
  abbrev turned : State
  turned = with_begun (with_turn st s.0 (Some me)) s.0 true

  -- by what is touched, and by the indexes that are done
  abbrev stands : (ℕ → ℕ → Bool) → List ℕ → State
  stands touched' past = swept (record turned { touched = touched' }) me s none_due untaken past

  abbrev left_by : List ℕ → List LookedKey
  left_by past = relisted (st.key s.0) (st.interest s.0) known past

  -- the indexes that it looks at
  abbrev over : List ℕ
  over = touched_in turned s (words_below mark)

  abbrev pub looked : List LookedKey
  looked = left_by over

  abbrev pub left : State
  left = stands (taken turned s (words_below mark)) over

  abbrev pub begun : Mode → Selection
  begun mode = record { selector = s; mode = mode; bound = mark; looked = looked; listed = true }

  keys-performed : perform me (look_at_keys s mark (Some known)) turned ≡ record { answer = looked; state = left }
  keys-performed =
      ap (perform me (sweep_to (words_below mark) 0 (list_word s) known)) (swept_none turned me s none_due untaken)
      ∙ list-performed turned me s left_by stands (λ _ _. refl) (λ _ _ _. refl)
      (λ touched' past e. list_turn (record turned { touched = touched' }) me s none_due untaken unpinned known past e)
      (words_below mark)

  below-performed : (mode : Mode) → perform me (begin_below s mode (Some known) mark false) turned
      ≡ record { answer = Ok (begun mode); state = left }
  below-performed mode = perform_then_on me (look_at_keys s mark (Some known)) _ turned looked left keys-performed

  -- a key that it left was removed, or stands as it stood
  pub left-key : (i : ℕ) (P : Stage → Type 0) → P (gone (st.key s.0 i)) → P (st.key s.0 i) → P (left.key s.0 i)
  left-key i P removed stays = by_goes ((s.0 == s.0) && (has_index i over && in_cancelled_set (st.key s.0 i)))
    where
      by_goes : (b : Bool) → P (cond b (gone (st.key s.0 i)) (st.key s.0 i))
      by_goes true = removed
      by_goes false = stays

  abbrev swept_ds : State
  swept_ds = without_cancelled Now ds.shared s.0

  all-over : (st.gate s.0).shut ≡ false → (i : ℕ) → in_cancelled_set (st.key s.0 i) ≡ true
      → has_index i over ≡ true
  all-over not_shut = touched-there turned me s none_due untaken published free (touched not_shut)

  pub state-is : (st.gate s.0).shut ≡ false
      → settled_state left ≡ with_begun (with_turn swept_ds s.0 (Some me)) s.0 true
  state-is not_shut =
      swept-over-is (record turned { touched = taken turned s (words_below mark) }) me s none_due untaken over
      (all-over not_shut)

  -- where what it has then is the key set
  module _ (looked-is : st.turn s.0 ≡ None → (st.gate s.0).shut ≡ false → map looked_pair looked ≡ looked_keys swept_ds s.0) where
    begun-is : (mode : Mode) → st.turn s.0 ≡ None → (st.gate s.0).shut ≡ false → selection_begun Now ds me s.0 mode
        ≡ amounts begin_reply (after_begin now me s) (record { answer = Ok (begun mode); state = left })
    begun-is mode no_turn not_shut = λ j. record {
      reply = reply.Looked (sym (looked-is no_turn not_shut) j);
      left = record {
        shared = sym (state-is not_shut) j;
        selection =
            (ap (λ looked'. put ds.selection s.0 (Some (record { mode = mode; bound = mark; looked = looked' })))
            (sym (looked-is no_turn not_shut))
            ∙ sym (put-under (λ _ o. option_map (λ x. shown x.selection) o) now.selection s.0
            (Some (record { caller = me; selection = begun mode })))) j;
        group = now.group;
        pipes = now.pipes;
      };
    }

    pub listed-amounts : (mode : Mode) → begun_with Now ds me s.0 (Some mode)
        ≡ amounts begin_reply (after_begin now me s) (perform me (try_begin_plan s mode (Some known) false) st)
    listed-amounts mode =
        begin-amounts-by st me s mode (Some known) (begun mode) left (below-performed mode) now (begun-is mode)

  pub listed-performed : (mode : Mode) → st.turn s.0 ≡ None → (st.gate s.0).shut ≡ false
      → perform me (try_begin_plan s mode (Some known) false) st ≡ record { answer = Ok (begun mode); state = left }
  listed-performed mode = begin-performed st me s mode (Some known) (begun mode) left (below-performed mode)

  pub listed-cases : (mode : Mode) (P : Performed (Result Selection BeginError) → Type 0)
      → P (record { answer = Err BeginError.ClosedSelector; state = st })
      → P (record { answer = Err BeginError.Busy; state = st })
      → (st.turn s.0 ≡ None → (st.gate s.0).shut ≡ false → P (record { answer = Ok (begun mode); state = left }))
      → P (perform me (try_begin_plan s mode (Some known) false) st)
  listed-cases mode = begin-cases-by st me s mode (Some known) (begun mode) left (below-performed mode)

  -- on this selector no key is cancelled any more
  pub listed-here : (st.gate s.0).shut ≡ false
      → ((i : ℕ) → (st.key s.0 i).cancelled ≡ true → (st.key s.0 i).published ≡ true) → AreTouched left s.0
  listed-here not_shut whole i cancelled there = by_goes ((s.0 == s.0) && (has_index i over && in_cancelled_set k)) refl cancelled there
    where
      k : Stage
      k = st.key s.0 i

      by_goes : (b : Bool) → ((s.0 == s.0) && (has_index i over && in_cancelled_set k)) ≡ b
          → (cond b (gone k) k).cancelled ≡ true → (cond b (gone k) k).removed ≡ false
          → taken turned s (words_below mark) s.0 i ≡ true
      by_goes true goes cancelled' there' = absurd (cc there')
      by_goes false stays cancelled' there' =
          let in_set : in_cancelled_set k ≡ true = and_from (k.published && not k.removed) k.cancelled
          (and_from k.published (not k.removed) (whole i cancelled') (ap not there')) cancelled' in
          absurd (both_ways ((s.0 == s.0) && (has_index i over && in_cancelled_set k)) stays
          (and_from (s.0 == s.0) (has_index i over && in_cancelled_set k) (eq-eqb s.0 s.0 refl)
          (and_from (has_index i over) (in_cancelled_set k) (all-over not_shut i in_set) in_set)))

  -- each cancelled key that isn't removed is at a touched index still: on this selector there is none
  pub listed-touched : (st.gate s.0).shut ≡ false
      → ((i : ℕ) → (st.key s.0 i).cancelled ≡ true → (st.key s.0 i).published ≡ true)
      → (t : ℕ) → AreTouched st t → AreTouched left t
  listed-touched not_shut whole t was = by_selector (t == s.0) refl
    where
      words : ℕ
      words = words_below mark

      elsewhere : (t == s.0) ≡ false → AreTouched left t
      elsewhere other =
          swept-touched (record turned { touched = taken turned s words }) me s none_due untaken over t
          (λ i cancelled there. taken-elsewhere turned s words t i other ∙ was i cancelled there)

      by_selector : (b : Bool) → (t == s.0) ≡ b → AreTouched left t
      by_selector true is = subst (λ (n : ℕ). AreTouched left n) (sym (eqb-true t s.0 is)) (listed-here not_shut whole)
      by_selector false is = elsewhere is
