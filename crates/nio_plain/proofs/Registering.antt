-- Registering a channel, over the parts of a state.
use Rattle.std.proofs.Common.{◌≡◌, ℕ, ◌==◌, eqb, Bool, true, false, cond, ◌&&◌, Option, Some, None, unwrap_or, bit_and}
use Rattle.std.proofs.Common.{refl, ap, ◌∙◌, List}
use Rattle.nio_base.specs.Kind.{valid_operations}
use Rattle.nio_base.specs.declared.limits.Limits.{Limits}
use Rattle.nio_base.specs.declared.numbers.ChanId.{ChanId}
use Rattle.nio_base.specs.declared.numbers.KeyId.{KeyId}
use Rattle.nio_base.specs.declared.numbers.SelNo.{SelNo}
use Rattle.nio_group.specs.Group.{Group}
use Rattle.nio_history.specs.Sets.{is_open_channel}
use Rattle.nio_history.specs.State.{put, with_interest, with_note}
use Rattle.nio_history.specs.declared.found.Chan.{Chan}
use Rattle.nio_language.specs.declared.reply.Reply.{Reply}
use Rattle.nio_language.specs.declared.reply.Reply.TheVariants as reply
use Rattle.nio_plain.proofs.KeyChange.{part_put}
use Rattle.nio_plain.proofs.Parts.{state-row, same_row}
use Rattle.nio_plain.proofs.Places.{put_same}
use Rattle.nio_plain.specs.PlainState.{SelectorRow, KeyRow, state_from, free_in, next_by_row, next_in, with_key_added}
use Rattle.nio_plain.specs.Naming.{LetsThrough, Refuses}
use Rattle.nio_plain.specs.PlainState.{new_key_row}
use Rattle.nio_plain.specs.ScriptState.{ScriptState, with_shared, Pipe}
use Rattle.nio_plain.specs.Seq.Replies.{unchanged, replied}
use Rattle.nio_plain.specs.Seq.Modes.{key_of}
use Rattle.nio_plain.specs.Seq.Names.{with_named_channel}
use Rattle.nio_plain.specs.Seq.Registering.{register_call, registered, registered_new, next_by, next_key, with_new_key}
use Rattle.nio_plain.specs.Seq.Registering.{given_or_kept, given_or_none}

module _ (l : Limits) (st : ScriptState) (s : SelNo) (c : ChanId) (ops : ℕ) (att : Option ℕ) where
  pub register-no_selector : st.shared.selector s.0 ≡ false
      → register_call l st s c ops att ≡ unchanged st reply.NoSelector
  unfolding register_call
  register-no_selector h = rw h

  module _ (there : st.shared.selector s.0 ≡ true) where
    pub register-no_channel : (r : Reply) → Refuses st (with_named_channel st c) r
        → register_call l st s c ops att ≡ unchanged st r
    unfolding register_call
    register-no_channel r refused = rw there (refused _)

    -- x is the present channel of the number
    module _ (through : LetsThrough (with_named_channel st c)) (x : Chan) (e : st.shared.chan c.number.0 ≡ x) where
      pub register-illegal_ops : (bit_and ops (valid_operations x.kind) == ops) ≡ false
          → register_call l st s c ops att ≡ unchanged st reply.IllegalOps
      unfolding register_call
      register-illegal_ops h = rw there (through _ ∙ rw (e, h) refl)

      module _ (valid : (bit_and ops (valid_operations x.kind) == ops) ≡ true) where
        pub register-closed : is_open_channel x c.serial ≡ false
            → register_call l st s c ops att ≡ unchanged st reply.ClosedChannel
        unfolding register_call
        register-closed h = rw there (through _ ∙ rw (e, valid, h) refl)

        pub register-blocking : is_open_channel x c.serial ≡ true → x.blocking ≡ true
            → register_call l st s c ops att ≡ unchanged st reply.IllegalBlockingMode
        unfolding register_call
        register-blocking h k = rw there (through _ ∙ rw (e, valid, h, k) refl)

        pub register-passed : (o : Option KeyId) → is_open_channel x c.serial ≡ true → x.blocking ≡ false
            → key_of st.shared c.number.0 s.0 ≡ o
            → register_call l st s c ops att ≡ registered l st s.0 c.number.0 ops att o
        unfolding register_call
        register-passed o h k same =
            let passed : register_call l st s c ops att
            ≡ registered l st s.0 c.number.0 ops att (key_of st.shared c.number.0 s.0) =
            rw there (through _ ∙ rw (e, valid, h, k) refl) in
            passed ∙ ap (registered l st s.0 c.number.0 ops att) same

module _ (l : Limits) (st : ScriptState) (s c ops : ℕ) (att : Option ℕ) where
  module _ (k : KeyId) where
    pub registered-cancelled : (st.shared.key s k.index).cancelled ≡ true
        → registered l st s c ops att (Some k) ≡ unchanged st reply.CancelledKey
    registered-cancelled h = rw h

    pub registered-shut : (st.shared.key s k.index).cancelled ≡ false → (st.shared.gate s).shut ≡ true
        → registered l st s c ops att (Some k) ≡ unchanged st reply.ClosedSelector
    registered-shut h g = rw (h, g)

    pub registered-again : (st.shared.key s k.index).cancelled ≡ false → (st.shared.gate s).shut ≡ false
        → registered l st s c ops att (Some k) ≡ replied st (reply.Key k)
        (with_note (with_interest st.shared s k.index ops) s k.index (given_or_kept att (st.shared.note s k.index)))
    registered-again h g = rw (h, g)

  pub registered_new-shut : (st.shared.gate s).shut ≡ true
      → registered l st s c ops att None ≡ unchanged st reply.ClosedSelector
  registered_new-shut g = rw g

  pub registered-next : (next : Option KeyId) → (st.shared.gate s).shut ≡ false → next_key l st.shared s ≡ next
      → registered l st s c ops att None ≡ registered_new st s c ops (given_or_none att) next
  registered-next next g e =
      let opened : registered l st s c ops att None ≡ registered_new st s c ops (given_or_none att)
      (next_key l st.shared s) = rw g in
      opened ∙ ap (registered_new st s c ops (given_or_none att)) e

-- a change at one number of a part of two
enrolled_at : {A : Type 0} (f : ℕ → A) (s : ℕ) (b : Bool) (x : A)
    → put f s (cond b x (f s)) ≡ (λ t. cond (b && eqb t s) x (f t))
enrolled_at f s true x = refl
enrolled_at f s false x = put_same f s (f s) refl

module _ (group : Group) (pipes : List Pipe) (interrupted : ℕ → Bool) (mark : ℕ) (chan : ℕ → Chan)
    (row : ℕ → SelectorRow) (s : ℕ) where
  abbrev st : ScriptState
  st = state_from group pipes interrupted mark chan row

  -- the key that the selector gives next
  pub next-row : (l : Limits) → next_key l st.shared s ≡ next_in l.keys (row s)
  next-row l = by (free_in (row s))
    where
      by : (o : Option ℕ)
          → next_by l (state_from group pipes interrupted mark chan row).shared s o ≡ next_by_row l.keys (row s) o
      by None = refl
      by (Some i) = refl

  -- a selector with a new key
  pub state-new_key : (c ops att : ℕ) (k : KeyId)
      → state_from group pipes interrupted mark chan
      (put row s (with_key_added (row s) c k (new_key_row c k.serial ops att)))
      ≡ with_shared st (with_new_key st.shared s c k ops att)
  state-new_key c ops att k =
      let x = new_key_row c k.serial ops att in
      let r = with_key_added (row s) c k x in
      state-row group pipes interrupted mark chan s row r
      ∙ (ap (λ (m : ScriptState). with_shared m (record m.shared {
        enrolled = λ n. put (st.shared.enrolled n) s (r.enrolled n);
        keys_high = put st.shared.keys_high s r.keys_high;
        key = put st.shared.key s (λ i. (r.keys i).stage);
        interest = put st.shared.interest s (λ i. (r.keys i).interest);
        mark = put st.shared.mark s (λ i. (r.keys i).mark);
        note = put st.shared.note s (λ i. (r.keys i).note);
        free = put st.shared.free s (λ i. (r.keys i).free);
      })) (same_row group pipes interrupted mark chan s row)
      ∙ (λ j. with_shared st (record st.shared {
        enrolled = λ n. enrolled_at (λ t. (row t).enrolled n) s (eqb n c) (Some k) j;
        keys_high = put st.shared.keys_high s r.keys_high;
        key = part_put group pipes interrupted mark chan row s k.index x (λ (q : KeyRow). q.stage) j;
        interest = part_put group pipes interrupted mark chan row s k.index x (λ (q : KeyRow). q.interest) j;
        mark = part_put group pipes interrupted mark chan row s k.index x (λ (q : KeyRow). q.mark) j;
        note = part_put group pipes interrupted mark chan row s k.index x (λ (q : KeyRow). q.note) j;
        free = part_put group pipes interrupted mark chan row s k.index x (λ (q : KeyRow). q.free) j;
      })))

-- the attachment of a new key
pub given-unwrapped : (o : Option ℕ) → unwrap_or o 0 ≡ given_or_none o
given-unwrapped None = refl
given-unwrapped (Some att) = refl
