-- The parts of one selector, put into a state: what the state holds after any change of a selector.
use Rattle.std.proofs.Common.{◌≡◌, ℕ, eqb, Bool, true, false, cond, ◌&&◌, ◌||◌, Option, is_some, refl, sym, ap, ◌∙◌}
use Rattle.std.proofs.Common.{List}
use Rattle.nio_base.specs.declared.numbers.CallerNo.{CallerNo}
use Rattle.nio_group.specs.Group.{Group}
use Rattle.nio_history.specs.State.{put}
use Rattle.nio_history.specs.declared.found.Chan.{Chan}
use Rattle.nio_history.specs.declared.found.GateWord.{GateWord}
use Rattle.nio_history.specs.declared.found.Mark.{Mark}
use Rattle.nio_history.specs.declared.found.Stage.{Stage}
use Rattle.nio_history.proofs.Put.{put-same}
use Rattle.nio_plain.proofs.Places.{same_function, put_part, put_same, put_by, put-twice}
use Rattle.nio_plain.specs.PlainState.{SelectorRow, KeyRow, state_from, removed_row}
use Rattle.nio_plain.specs.ScriptState.{ScriptState, Selection, with_shared, Pipe}
use Rattle.nio_plain.specs.Seq.Removing.{removed_key, unselected, without_keys_where}

-- the state in which the parts of the selector are these
abbrev pub with_row : ScriptState → ℕ → SelectorRow → ScriptState
with_row st s r = record st {
  shared = record st.shared {
    selector = put st.shared.selector s r.made;
    enrolled = λ c. put (st.shared.enrolled c) s (r.enrolled c);
    gate = put st.shared.gate s r.gate;
    turn = put st.shared.turn s r.turn;
    keys_high = put st.shared.keys_high s r.keys_high;
    key = put st.shared.key s (λ i. (r.keys i).stage);
    interest = put st.shared.interest s (λ i. (r.keys i).interest);
    mark = put st.shared.mark s (λ i. (r.keys i).mark);
    note = put st.shared.note s (λ i. (r.keys i).note);
    free = put st.shared.free s (λ i. (r.keys i).free);
    begun = put st.shared.begun s (is_some r.turn);
    closer = put st.shared.closer s r.closer;
    entered = put st.shared.entered s r.entered;
  };
  selection = put st.selection s r.selection;
}

-- a part of what a test chooses
pub part_cond : {R A : Type 0} (part : R → A) (b : Bool) (x y : R) → part (cond b x y) ≡ cond b (part x) (part y)
part_cond part true x y = refl
part_cond part false x y = refl

pub cond_stays : {R A : Type 0} (part : R → A) (b : Bool) (x y : R) → part x ≡ part y → part (cond b x y) ≡ part y
cond_stays part true x y e = e
cond_stays part false x y e = refl

free_cond : (frees : Stage → Bool) (b : Bool) (k : KeyRow)
    → (cond {A = KeyRow} b (removed_row frees k) k).free ≡ ((b && frees k.stage) || k.free)
free_cond frees true k = refl
free_cond frees false k = refl

module _ (group : Group) (pipes : List Pipe) (interrupted : ℕ → Bool) (mark : ℕ) (chan : ℕ → Chan) where
  abbrev pub state : (ℕ → SelectorRow) → ScriptState
  state row = state_from group pipes interrupted mark chan row

  module _ (s : ℕ) where
    pub state-row : (row : ℕ → SelectorRow) (r : SelectorRow) → state (put row s r) ≡ with_row (state row) s r
    state-row row r = λ j. record (state row) {
      shared = record (state row).shared {
        selector = put_part (λ (q : SelectorRow). q.made) row s r j;
        enrolled = λ c. put_part (λ (q : SelectorRow). q.enrolled c) row s r j;
        gate = put_part (λ (q : SelectorRow). q.gate) row s r j;
        turn = put_part (λ (q : SelectorRow). q.turn) row s r j;
        keys_high = put_part (λ (q : SelectorRow). q.keys_high) row s r j;
        key = put_part (λ (q : SelectorRow). λ (i : ℕ). (q.keys i).stage) row s r j;
        interest = put_part (λ (q : SelectorRow). λ (i : ℕ). (q.keys i).interest) row s r j;
        mark = put_part (λ (q : SelectorRow). λ (i : ℕ). (q.keys i).mark) row s r j;
        note = put_part (λ (q : SelectorRow). λ (i : ℕ). (q.keys i).note) row s r j;
        free = put_part (λ (q : SelectorRow). λ (i : ℕ). (q.keys i).free) row s r j;
        begun = put_part (λ (q : SelectorRow). is_some q.turn) row s r j;
        closer = put_part (λ (q : SelectorRow). q.closer) row s r j;
        entered = put_part (λ (q : SelectorRow). q.entered) row s r j;
      };
      selection = put_part (λ (q : SelectorRow). q.selection) row s r j;
    }

    pub same_row : (row : ℕ → SelectorRow) → with_row (state row) s (row s) ≡ state row
    same_row row = sym (state-row row (row s)) ∙ ap state (put_same row s (row s) refl)

    -- the change f of the selector's parts is the change F of the state
    abbrev pub Makes : (SelectorRow → SelectorRow) → (ScriptState → ScriptState) → Type 0
    Makes f F = (row : ℕ → SelectorRow) → state (put row s (f (row s))) ≡ F (state row)

    -- one change after another
    pub then : (f g : SelectorRow → SelectorRow) (F G : ScriptState → ScriptState) → Makes f F → Makes g G
        → Makes (λ r. g (f r)) (λ st. G (F st))
    then f g F G first second = λ row.
        let row' = put row s (f (row s)) in
        let same = sym (put-twice row s (f (row s)) (g (f (row s))))
        ∙ ap (λ r. put row' s (g r)) (sym (put-same row s (f (row s)))) in
        (ap state same ∙ second row') ∙ ap G (first row)

    -- the change of one part
    pub makes-made : (made : Bool)
        → Makes (λ r. record r { made = made })
        (λ x. with_shared x (record x.shared { selector = put x.shared.selector s made }))
    makes-made made = λ row.
        state-row row (record (row s) { made = made })
        ∙ ap (λ (x : ScriptState). with_shared x
        (record x.shared { selector = put (state row).shared.selector s made })) (same_row row)

    pub makes-gate : (change : GateWord → GateWord)
        → Makes (λ r. record r { gate = change r.gate })
        (λ x. with_shared x (record x.shared { gate = put x.shared.gate s (change (x.shared.gate s)) }))
    makes-gate change = λ row.
        state-row row (record (row s) { gate = change (row s).gate })
        ∙ ap (λ (x : ScriptState). with_shared x
        (record x.shared { gate = put (state row).shared.gate s (change (row s).gate) })) (same_row row)

    pub makes-closer : (closer : Option CallerNo)
        → Makes (λ r. record r { closer = closer })
        (λ x. with_shared x (record x.shared { closer = put x.shared.closer s closer }))
    makes-closer closer = λ row.
        state-row row (record (row s) { closer = closer })
        ∙ ap (λ (x : ScriptState). with_shared x (record x.shared { closer = put (state row).shared.closer s closer }))
        (same_row row)

    pub makes-entered : (entered : Bool)
        → Makes (λ r. record r { entered = entered })
        (λ x. with_shared x (record x.shared { entered = put x.shared.entered s entered }))
    makes-entered entered = λ row.
        state-row row (record (row s) { entered = entered })
        ∙ ap (λ (x : ScriptState). with_shared x
        (record x.shared { entered = put (state row).shared.entered s entered })) (same_row row)

    -- the turn is taken and a selection has begun, or both are over
    pub makes-selecting : (turn : Option CallerNo) (selection : Option Selection)
        → Makes (λ r. record r { turn = turn; selection = selection })
        (λ x. record x {
          shared = record x.shared {
            turn = put x.shared.turn s turn;
            begun = put x.shared.begun s (is_some turn);
          };
          selection =
              put x.selection s selection;
        })
    makes-selecting turn selection = λ row.
        let st = state row in
        state-row row (record (row s) { turn = turn; selection = selection })
        ∙ ap (λ (x : ScriptState). record x {
          shared = record x.shared { turn = put st.shared.turn s turn; begun = put st.shared.begun s (is_some turn) };
          selection = put st.selection s selection;
        }) (same_row row)

    -- the change of the keys
    module _ (row : ℕ → SelectorRow) (keys : ℕ → KeyRow) where
      abbrev st : ScriptState
      st = state row

      pub keys_changed :
          (key : ℕ → ℕ → Stage) → put (state row).shared.key s (λ i. (keys i).stage) ≡ key
          → (interest : ℕ → ℕ → ℕ) → put (state row).shared.interest s (λ i. (keys i).interest) ≡ interest
          → (marks : ℕ → ℕ → Mark) → put (state row).shared.mark s (λ i. (keys i).mark) ≡ marks
          → (note : ℕ → ℕ → ℕ) → put (state row).shared.note s (λ i. (keys i).note) ≡ note
          → (free : ℕ → ℕ → Bool) → put (state row).shared.free s (λ i. (keys i).free) ≡ free
          → state (put row s (record (row s) { keys = keys })) ≡ with_shared (state row)
          (record (state row).shared { key = key; interest = interest; mark = marks; note = note; free = free })
      keys_changed key k interest i marks m note n free f =
          state-row row (record (row s) { keys = keys })
          ∙ (ap (λ (x : ScriptState). with_shared x (record x.shared {
            key = put st.shared.key s (λ i. (keys i).stage);
            interest = put st.shared.interest s (λ i. (keys i).interest);
            mark = put st.shared.mark s (λ i. (keys i).mark);
            note = put st.shared.note s (λ i. (keys i).note);
            free = put st.shared.free s (λ i. (keys i).free);
          })) (same_row row)
          ∙ (λ j. with_shared st (record st.shared { key = k j; interest = i j; mark = m j; note = n j; free = f j })))

      -- a part of the keys that stays as it was
      pub part_stays : {A : Type 0} (part : KeyRow → A) → ((i : ℕ) → part (keys i) ≡ part ((row s).keys i))
          → ◌≡◌ {A = ℕ → ℕ → A} (put (λ t i. part ((row t).keys i)) s (λ i. part (keys i)))
          (λ t i. part ((row t).keys i))
      part_stays {A} part same =
          put_same (λ t (i : ℕ). part ((row t).keys i)) s (λ i. part (keys i)) (sym (same_function same))

    -- the keys that the test finds are removed
    module _ (row : ℕ → SelectorRow) (test : ℕ → Bool) (frees : Stage → Bool) where
      abbrev pub removed : ℕ → KeyRow
      removed i = cond (test i) (removed_row frees ((row s).keys i)) ((row s).keys i)

      pub state-removed : state (put row s (record (row s) { keys = removed })) ≡ with_shared (state row)
          (without_keys_where (state row).shared s test frees)
      state-removed =
          let key : ℕ → ℕ → Stage = λ t i. ((row t).keys i).stage in
          let marks : ℕ → ℕ → Mark = λ t i. ((row t).keys i).mark in
          let free : ℕ → ℕ → Bool = λ t i. ((row t).keys i).free in
          keys_changed row removed
          (λ t i. cond (eqb t s && test i) (removed_key (key t i)) (key t i))
          (ap (put key s)
          (same_function
          (λ i. part_cond (λ (k : KeyRow). k.stage) (test i) (removed_row frees ((row s).keys i))
          ((row s).keys i)))
          ∙ put_by key s (λ b t i. cond (b && test i) (removed_key (key t i)) (key t i)) (λ t. refl))
          (λ t i. ((row t).keys i).interest)
          (part_stays row removed (λ (k : KeyRow). k.interest)
          (λ i. cond_stays (λ (k : KeyRow). k.interest) (test i) (removed_row frees ((row s).keys i))
          ((row s).keys i) refl))
          (λ t i. cond (eqb t s && test i) (unselected (marks t i)) (marks t i))
          (ap (put marks s)
          (same_function
          (λ i. part_cond (λ (k : KeyRow). k.mark) (test i) (removed_row frees ((row s).keys i))
          ((row s).keys i)))
          ∙ put_by marks s (λ b t i. cond (b && test i) (unselected (marks t i)) (marks t i))
          (λ t. refl))
          (λ t i. ((row t).keys i).note)
          (part_stays row removed (λ (k : KeyRow). k.note)
          (λ i. cond_stays (λ (k : KeyRow). k.note) (test i) (removed_row frees ((row s).keys i))
          ((row s).keys i) refl))
          (λ t i. ((eqb t s && test i) && frees (key t i)) || free t i)
          (ap (put free s) (same_function (λ i. free_cond frees (test i) ((row s).keys i)))
          ∙ put_by free s (λ b t i. ((b && test i) && frees (key t i)) || free t i) (λ t. refl))
