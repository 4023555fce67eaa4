-- The changes of one selector's parts where a selection begins, and the changes of the state that they
-- are.
use Rattle.std.proofs.Common.{◌≡◌, ℕ, eqb, Bool, true, false, cond, not, ◌&&◌, Option, Some, None, is_some, List, map}
use Rattle.std.proofs.Common.{filter, refl, sym, ap, ◌∙◌}
use Rattle.std.proofs.lemmas.Bool.{eq-eqb, true≢false}
use Rattle.nio_base.specs.declared.numbers.CallerNo.{CallerNo}
use Rattle.nio_base.specs.declared.numbers.KeyId.{KeyId}
use Rattle.nio_base.specs.declared.numbers.SelNo.{SelNo}
use Rattle.nio_group.specs.Group.{Group}
use Rattle.nio_history.specs.Sets.{in_key_set, in_cancelled_set, is_valid}
use Rattle.nio_history.specs.State.{put, with_turn, with_begun}
use Rattle.nio_history.specs.declared.found.Chan.{Chan}
use Rattle.nio_history.specs.declared.found.Mode.{Mode}
use Rattle.nio_history.specs.declared.found.Stage.{Stage}
use Rattle.nio_language.specs.declared.call.Waiting.{Waiting}
use Rattle.nio_language.specs.declared.reply.Reply.TheVariants as reply
use Rattle.nio_plain.proofs.Parts.{Makes, then, makes-selecting, state-removed}
use Rattle.nio_plain.proofs.Places.{same_function}
use Rattle.nio_plain.specs.PlainState.{SelectorRow, state_from, swept, looked_below, with_selection_begun}
use Rattle.nio_plain.specs.ScriptState.{ScriptState, Selection, with_shared, Pipe}
use Rattle.nio_plain.specs.Seq.Replies.{unchanged}
use Rattle.nio_plain.specs.Seq.Names.{below}
use Rattle.nio_plain.specs.Seq.Removing.{removed_key, comes_back}
use Rattle.nio_plain.specs.Seq.Selections.{begin_call, selection_begun, mode_of, without_cancelled, looked_keys}
use Rattle.nio_plain.specs.declared.rules.Rules.{Rules}

-- begin's answers

module _ (rules : Rules) (st : ScriptState) (me : CallerNo) (s : SelNo) (waiting : Waiting) where
  pub begin-no_selector : st.shared.selector s.0 ≡ false
      → begin_call rules st me s waiting ≡ unchanged st reply.NoSelector
  unfolding begin_call
  begin-no_selector h = rw h

  module _ (made : st.shared.selector s.0 ≡ true) where
    pub begin-negative : mode_of waiting ≡ None → begin_call rules st me s waiting ≡ unchanged st reply.NegativeTimeout
    unfolding begin_call
    begin-negative h = rw (made, h)

    pub begin-shut : (how : Mode) → mode_of waiting ≡ Some how → (st.shared.gate s.0).shut ≡ true
        → begin_call rules st me s waiting ≡ unchanged st reply.ClosedSelector
    unfolding begin_call
    begin-shut how h k = rw (made, h, k)

    pub begin-busy : (how : Mode) → mode_of waiting ≡ Some how → (st.shared.gate s.0).shut ≡ false
        → is_some (st.shared.turn s.0) ≡ true → begin_call rules st me s waiting ≡ unchanged st reply.Busy
    unfolding begin_call
    begin-busy how h k t = rw (made, h, k, t)

    pub begin-begun : (how : Mode) → mode_of waiting ≡ Some how → (st.shared.gate s.0).shut ≡ false
        → is_some (st.shared.turn s.0) ≡ false → begin_call rules st me s waiting ≡ selection_begun rules st me s.0 how
    unfolding begin_call
    begin-begun how h k t = rw (made, h, k, t)

-- what a selection looks at after the removal: the keys that were valid before

pub valid_after : (k : Stage) (b : Bool) → b ≡ true
    → in_key_set (cond (b && in_cancelled_set k) (removed_key k) k) ≡ is_valid k
valid_after k false e = absurd (true≢false (sym e))
valid_after k true e = by (in_key_set k) refl k.cancelled refl
  where
    by : (i : Bool) → in_key_set k ≡ i → (c : Bool) → k.cancelled ≡ c
        → in_key_set (cond (i && c) (removed_key k) k) ≡ (i && not c)
    by true h true g = elim k.published as (λ q. (q && false) ≡ false) [ true ↦ refl | false ↦ refl ]
    by true h false g = h
    by false h c g = h

pub serial_after : (k : Stage) (b : Bool) → (cond b (removed_key k) k).serial ≡ k.serial
serial_after k true = refl
serial_after k false = refl

module _ (rules : Rules) (group : Group) (pipes : List Pipe) (interrupted : ℕ → Bool) (mark : ℕ) (chan : ℕ → Chan)
    (s : ℕ) where
  -- the cancelled keys are removed
  makes-swept : Makes group pipes interrupted mark chan s (λ r. record r { keys = swept rules r.keys })
      (λ x. with_shared x (without_cancelled rules x.shared s))
  makes-swept = λ row.
      state-removed group pipes interrupted mark chan s row (λ i. in_cancelled_set ((row s).keys i).stage)
      (comes_back rules)

  module _ (row : ℕ → SelectorRow) where
    abbrev st : ScriptState
    st = state_from group pipes interrupted mark chan row

    pub looked-begun : looked_keys (without_cancelled rules st.shared s) s ≡ looked_below (row s).keys (row s).keys_high
    looked-begun =
        let stage : ℕ → Stage = λ i. ((row s).keys i).stage in
        let goes : ℕ → Bool = λ i. eqb s s && in_cancelled_set (stage i) in
        let in_set = same_function (λ i. valid_after (stage i) (eqb s s) (eq-eqb s s refl)) in
        let name : ℕ
        → KeyId × ℕ = λ i. (
          record { index = i; serial = (cond (goes i) (removed_key (stage i)) (stage i)).serial },
          ((row s).keys i).interest,
        ) in
        let named : ◌≡◌ {A = ℕ → KeyId × ℕ} name
        (λ i. (record { index = i; serial = (stage i).serial }, ((row s).keys i).interest)) = same_function
        (λ i j. (
          record { index = i; serial = serial_after (stage i) (goes i) j },
          ((row s).keys i).interest,
        )) in
        ap (λ (p : ℕ → Bool). map name (filter p (below (row s).keys_high))) in_set
        ∙ ap (λ (f : ℕ → KeyId × ℕ). map f (filter (λ i. is_valid (stage i)) (below (row s).keys_high))) named

    pub state-begun : (me : CallerNo) (how : Mode)
        → state_from group pipes interrupted mark chan (put row s (with_selection_begun rules (row s) me how))
        ≡ (selection_begun rules st me s how).left
    state-begun me how =
        let n = (row s).keys_high in
        let sel : List (KeyId × ℕ)
        → Option Selection = λ looked. Some (record { mode = how; bound = n; looked = looked }) in
        let looked = looked_below (row s).keys n in
        let selects = makes-selecting group pipes interrupted mark chan s (Some me) (sel looked) in
        let first : ScriptState → ScriptState = λ x. with_shared x (without_cancelled rules x.shared s) in
        let second : ScriptState → ScriptState = λ x. record x {
          shared = with_begun (with_turn x.shared s (Some me)) s true;
          selection = put x.selection s (sel looked);
        } in
        let both = then group pipes interrupted mark chan s (λ r. record r { keys = swept rules r.keys })
        (λ r. record r { turn = Some me; selection = sel looked }) first second makes-swept selects row in
        let left : List (KeyId × ℕ)
        → ScriptState = λ l. record st {
          shared = with_begun (with_turn (without_cancelled rules st.shared s) s (Some me)) s true;
          selection = put st.selection s (sel l);
        } in
        both ∙ ap left (sym looked-begun)
