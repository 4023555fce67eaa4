-- Registering amounts to the documented call.
use Rattle.std.proofs.Common.{◌≡◌, ℕ, ◌==◌, nat_lt, Bool, true, false, cond, not, ◌&&◌, if◌then◌else◌, Option, Some}
use Rattle.std.proofs.Common.{None, Result, Ok, Err, refl, ap, sym, ◌∙◌}
use Rattle.std.proofs.lemmas.Bool.{both_ways, and_parts, not-true, not-false}
use Rattle.nio_base.specs.Kind.{valid_operations}
use Rattle.nio_base.specs.declared.limits.Limits.{Limits}
use Rattle.nio_base.specs.declared.numbers.CallerNo.{CallerNo}
use Rattle.nio_base.specs.declared.numbers.ChanId.{ChanId}
use Rattle.nio_base.specs.declared.numbers.KeyId.{KeyId}
use Rattle.nio_base.specs.declared.numbers.KeyNo.{KeyNo}
use Rattle.nio_base.specs.declared.numbers.SelNo.{SelNo}
use Rattle.nio_history.specs.Sets.{fits, in_key_set, is_in_key_set, is_valid_key, was_opened, is_open_channel}
use Rattle.nio_history.specs.State.{State, unmarked, put_at, with_hold, with_pin, with_interest, with_note, with_touched, with_amid}
use Rattle.nio_history.specs.declared.found.Mark.{Mark}
use Rattle.nio_history.specs.declared.found.Stage.{Stage}
use Rattle.nio_language.specs.declared.reply.Reply.{Reply}
use Rattle.nio_language.specs.declared.reply.Reply.TheVariants as reply
use Rattle.nio_plain.proofs.Naming.{channel-through, selector-through}
use Rattle.nio_plain.proofs.Places.{put_at_same}
use Rattle.nio_plain.specs.ScriptState.{ScriptState, with_shared}
use Rattle.nio_plain.specs.Seq.Replies.{Replied, unchanged, replied}
use Rattle.nio_plain.specs.Seq.Modes.{if_in_key_set}
use Rattle.nio_plain.specs.Seq.Registering.{given_or_none, given_or_kept, next_key, new_stage, with_new_key}
use Rattle.nio_plain.specs.Seq.Registering.{registered_new, registered, register_call}
use Rattle.nio_steps.proofs.PerformLaws.{perform_else, perform_then_on}
use Rattle.nio_steps.specs.ChannelCalls.{under_hold, update_key, register_enrolled, register_over, register_rest}
use Rattle.nio_steps.specs.ChannelCalls.{register_new, register_unblocked, register_held, try_register_plan}
use Rattle.nio_base.specs.Ops.{is_within}
use Rattle.nio_steps.specs.KeyCalls.{under_pin}
use Rattle.nio_steps.specs.Names.{key}
use Rattle.nio_steps.specs.Perform.{Performed, perform}
use Rattle.nio_steps.specs.Plan.{Plan, when, ◌>>=◌, ◌>>◌}
use Rattle.nio_steps.specs.Steps.{look_gate, swap_note}
use Rattle.nio_steps.specs.declared.refusal.ChannelError.{ChannelError}
use Rattle.nio_serial.proofs.Base.{put-back, put_at-under, pin-back, caller-back, caller-off, branch, unpinned, perform_pinned}
use Rattle.nio_serial.proofs.Base.{released, perform_held}
use Rattle.nio_serial.proofs.Making.{made, new-performed}
use Rattle.nio_serial.specs.Documented.{Progress, settled, settled_mark, settled_state, documented, amounts}
use Rattle.nio_serial.specs.Replies.{register_reply}

-- ---- a new key as a script sees it

new_mark : (b : Bool) (c q : ℕ) (k : Stage) (m : Mark)
    → settled_mark (cond b (new_stage c q) k) (cond b unmarked m) ≡ cond b unmarked (settled_mark k m)
new_mark true c q k m = refl
new_mark false c q k m = refl

settled-new : (st : State) (s c : ℕ) (k : KeyId) (ops att : ℕ)
    → settled_state (with_new_key st s c k ops att) ≡ with_new_key (settled_state st) s c k ops att
settled-new st s c k ops att = λ j. record (with_new_key (settled_state st) s c k ops att) {
  key = put_at-under (λ _ _ x. settled x) st.key s k.index (new_stage c k.serial) j;
  mark = λ t i. new_mark ((t == s) && (i == k.index)) c k.serial (st.key t i) (st.mark t i) j;
}

-- ---- what the plan does with the channel's key, on a state with the hold

module _ (l : Limits) (st : State) (me : CallerNo) (s : SelNo) (c : ChanId) (ops att : ℕ)
    (free : (i n : ℕ) → st.pinned s.0 i n ≡ false) (still : (i : ℕ) → st.amid s.0 i me.0 ≡ false)
    (untaken : (i : ℕ) → st.taker s.0 i ≡ None)
    (exact : (i : ℕ) → (st.key s.0 i).claimed ≡ nat_lt i (st.keys_high s.0))
    (fresh_mark : st.mark s.0 (st.keys_high s.0) ≡ unmarked) (fresh_free : st.free s.0 (st.keys_high s.0) ≡ false)
    (is_open : is_open_channel (st.chan c.number.0) c.serial ≡ true) where
  abbrev Over : Type 0
  Over = Performed (Option (Result KeyNo ChannelError))

  abbrev Done : Type 0
  Done = Performed (Result KeyNo ChannelError)

  -- the channel has a valid key
  abbrev updated : KeyId → Done
  updated k =
      record {
        answer = Ok (key s k);
        state = record (with_note (with_interest st s.0 k.index ops) s.0 k.index
            (if att == 0 then st.note s.0 k.index else att)) { touched = put_at st.touched s.0 k.index true };
      }

  module _ (k : KeyId) where
    abbrev stage : Stage
    stage = st.key s.0 k.index

    abbrev held : State
    held = with_pin st s.0 k.index me.0 true

    -- and after the touch
    abbrev touching : State
    touching = with_amid (with_touched held s.0 k.index true) s.0 k.index me.0 (held.pinned s.0 k.index me.0)

    -- how the plan goes on after its look at the gate
    abbrev opened : Bool → Bool → Plan (Option (Result KeyNo ChannelError))
    opened shut valid =
        if shut then Plan.reply (Some (Err ChannelError.ClosedSelector)) else
        (if valid then (update_key s k ops att >>= (λ answer. Plan.reply (Some answer))) else Plan.reply None)

    abbrev steps : Bool → Plan (Option (Result KeyNo ChannelError))
    steps cancelled =
        if cancelled then Plan.reply (Some (Err ChannelError.CancelledKey)) else
        (look_gate s >>= (λ gate. opened gate.shut (is_valid_key stage k.serial)))

    abbrev setting : Bool → Plan (Result KeyNo ChannelError)
    setting none = when (not none) (swap_note s k.index att) >> Plan.reply (Ok (key s k))

    abbrev Callers : Type 0
    Callers = ℕ → ℕ → ℕ → Bool

    -- the pins, and who is amid a change, are as before
    back : (a : Option (Result KeyNo ChannelError)) (F : Callers → Callers → State)
        → ◌≡◌ {A = Over} (record {
          answer = a;
          state = F (with_pin held s.0 k.index me.0 false).pinned (with_amid st s.0 k.index me.0 false).amid;
        })
        (record { answer = a; state = F st.pinned st.amid })
    back a F = λ j. record {
      answer = a;
      state = F (pin-back st.pinned s.0 k.index me.0 (free k.index me.0) j)
          (caller-off st.amid s.0 k.index me.0 (still k.index) j);
    }

    -- the same after the touch
    back_touched : (a : Option (Result KeyNo ChannelError)) (F : Callers → Callers → State)
        → ◌≡◌ {A = Over} (record {
          answer = a;
          state = F (with_pin held s.0 k.index me.0 false).pinned (with_amid touching s.0 k.index me.0 false).amid;
        })
        (record { answer = a; state = F st.pinned st.amid })
    back_touched a F = λ j. record {
      answer = a;
      state = F (pin-back st.pinned s.0 k.index me.0 (free k.index me.0) j)
          (caller-back st.amid s.0 k.index me.0 (held.pinned s.0 k.index me.0) (still k.index) j);
    }

    abbrev pub over_of : (cancelled shut valid : Bool) → Over
    over_of true shut valid = record { answer = Some (Err ChannelError.CancelledKey); state = st }
    over_of false true valid = record { answer = Some (Err ChannelError.ClosedSelector); state = st }
    over_of false false true = record { answer = Some (updated k).answer; state = (updated k).state }
    over_of false false false = record { answer = None; state = st }

    enrolled_att : (b : Bool) → ◌≡◌ {A = Done} (perform me (setting b) (with_interest touching s.0 k.index ops))
        (record {
          answer = Ok (key s k);
          state =
              with_note (with_interest touching s.0 k.index ops) s.0 k.index (if b then st.note s.0 k.index else att);
        })
    enrolled_att true =
        λ j. record {
          answer = Ok (key s k);
          state = record
              (with_interest touching s.0 k.index ops) {
                note = sym
                    (put_at_same st.note s.0 k.index (st.note s.0 k.index) refl) j;
              };
        }
    enrolled_att false = refl

    after_gate : (shut valid : Bool) → unpinned me s k.index (perform me (opened shut valid) held)
        ≡ over_of false shut valid
    after_gate true valid = back (Some (Err ChannelError.ClosedSelector)) (λ p a. record st { pinned = p; amid = a })
    after_gate false true =
        let done =
        with_note (with_interest touching s.0 k.index ops) s.0 k.index
        (if att == 0 then st.note s.0 k.index else att) in
        ap (unpinned me s k.index) (perform_then_on me (update_key s k ops att)
        (λ answer. Plan.reply (Some answer)) held (Ok (key s k)) done (enrolled_att (att == 0)))
        ∙ back_touched (Some (Ok (key s k))) (λ p a. record done { pinned = p; amid = a })
    after_gate false false = back None (λ p a. record st { pinned = p; amid = a })

    at_first : (b : Bool) → unpinned me s k.index (perform me (steps b) held)
        ≡ over_of b (st.gate s.0).shut (is_valid_key stage k.serial)
    at_first true = back (Some (Err ChannelError.CancelledKey)) (λ p a. record st { pinned = p; amid = a })
    at_first false = after_gate (st.gate s.0).shut (is_valid_key stage k.serial)

    over-performed : perform me (under_pin s k.index (register_enrolled s ops att k)) st
        ≡ over_of (is_in_key_set stage k.serial && stage.cancelled) (st.gate s.0).shut (is_valid_key stage k.serial)
    over-performed =
        perform_pinned me s k.index (register_enrolled s ops att k) st
        ∙ at_first (is_in_key_set stage k.serial && stage.cancelled)

-- ---- the call

valid_where : (f i c : Bool) → (f && i) ≡ true → c ≡ false → (f && (i && not c)) ≡ true
valid_where true true false in_set out = refl
valid_where true true true in_set out = absurd (both_ways true out refl)
valid_where true false c in_set out = absurd (both_ways false refl in_set)
valid_where false i c in_set out = absurd (both_ways false refl in_set)

not_valid : (f i c : Bool) → (f && i) ≡ false → (f && (i && not c)) ≡ false
not_valid true true c e = absurd (both_ways true e refl)
not_valid true false c e = refl
not_valid false i c e = refl

-- the attachment that a key has after it is registered again
kept-is : (given : Option ℕ) (n : ℕ) → given_or_kept given n
    ≡ (if given_or_none given == 0 then n else given_or_none given)
kept-is None n = refl
kept-is (Some a) n = refl

module _ (l : Limits) (st : State) (now : Progress) (me : CallerNo) (s : SelNo) (c : ChanId) (ops : ℕ)
    (given : Option ℕ)
    (unheld : st.hold c.number.0 ≡ None)
    (free : (i n : ℕ) → st.pinned s.0 i n ≡ false) (still : (i : ℕ) → st.amid s.0 i me.0 ≡ false)
    (untaken : (i : ℕ) → st.taker s.0 i ≡ None)
    (exact : (i : ℕ) → (st.key s.0 i).claimed ≡ nat_lt i (st.keys_high s.0))
    (fresh_mark : st.mark s.0 (st.keys_high s.0) ≡ unmarked) (fresh_free : st.free s.0 (st.keys_high s.0) ≡ false) where
  abbrev ds : ScriptState
  ds = documented st now

  abbrev att : ℕ
  att = given_or_none given

  abbrev holding : State
  holding = with_hold st c.number.0 (Some me)

  abbrev F : Performed (Result KeyNo ChannelError) → Replied
  F done = amounts register_reply (λ _. now) (released c.number done)

  -- the hold is as before
  freed : (G : (ℕ → Option CallerNo) → Replied) → G st.hold ≡ G (with_hold holding c.number.0 None).hold
  freed G = sym (ap G (put-back st.hold c.number.0 (Some me) None unheld))

  refused : (e : ChannelError) (r : Reply) → register_reply (Err e) ≡ r
      → unchanged ds r ≡ F (record { answer = Err e; state = holding })
  refused e r is =
      ap (unchanged ds) (sym is) ∙ freed (λ h. record {
        reply = register_reply (Err e);
        left = documented
            (record st { hold = h }) now;
      })

  module _ (is_open : is_open_channel (st.chan c.number.0) c.serial ≡ true) where
    newly : (st.gate s.0).shut ≡ false → registered_new ds s.0 c.number.0 ops att (next_key l ds.shared s.0)
        ≡ F (perform me (register_new l s c ops att) holding)
    newly not_shut =
        by_next (next_key l st s.0) ∙ sym
        (ap F (new-performed l holding me s c ops att free still untaken exact fresh_mark fresh_free not_shut is_open))
      where
        by_next : (o : Option KeyId) → registered_new ds s.0 c.number.0 ops att o
            ≡ F (made l holding me s c ops att free still untaken exact fresh_mark fresh_free not_shut is_open o)
        by_next None = refused ChannelError.Full reply.Full refl
        by_next (Some k) =
            (λ j. record {
              reply = reply.Key k;
              left = with_shared ds (sym (settled-new st s.0 c.number.0 k ops att) j);
            })
            ∙ freed (λ h. record {
              reply = reply.Key k;
              left =
                  documented (record (with_new_key st s.0 c.number.0 k ops att) { hold = h }) now;
            })

    unregistered : (b : Bool) → (st.gate s.0).shut ≡ b
        → cond b (unchanged ds reply.ClosedSelector)
        (registered_new ds s.0 c.number.0 ops att (next_key l ds.shared s.0))
        ≡ F (perform me (register_rest l s c ops att (if b then Some (Err ChannelError.ClosedSelector)
        else None)) holding)
    unregistered true shut = refused ChannelError.ClosedSelector reply.ClosedSelector refl
    unregistered false not_shut = newly not_shut

    module _ (k : KeyId) where
      abbrev enrolled_stage : Stage
      enrolled_stage = st.key s.0 k.index

      abbrev over : Bool → Bool → Bool → Performed (Option (Result KeyNo ChannelError))
      over = over_of l holding me s c ops att free still untaken exact fresh_mark fresh_free is_open k

      abbrev finish : Performed (Option (Result KeyNo ChannelError)) → Replied
      finish done = F (perform me (register_rest l s c ops att done.answer) done.state)

      by_key : (in_set : Bool) → is_in_key_set enrolled_stage k.serial ≡ in_set → (cancelled : Bool)
          → enrolled_stage.cancelled ≡ cancelled → (shut : Bool) → (st.gate s.0).shut ≡ shut
          → registered l ds s.0 c.number.0 ops given (cond in_set (Some k) None)
          ≡ finish (over (in_set && cancelled) shut (is_valid_key enrolled_stage k.serial))
      by_key true e cancelled e' shut e'' =
          let both = and_parts (fits enrolled_stage k.serial) (in_key_set enrolled_stage) e in
          let present : enrolled_stage.removed ≡ false =
          not-true enrolled_stage.removed (and_parts enrolled_stage.published (not enrolled_stage.removed) both.1).1 in
          (λ j. by_tests (not (present j) && e' j) (e'' j))
          ∙ with_key_there cancelled shut (λ out. valid_where (fits enrolled_stage k.serial)
          (in_key_set enrolled_stage) enrolled_stage.cancelled e (e' ∙ out))
        where
          done : Replied
          done = replied ds (reply.Key k) (with_note (with_interest ds.shared s.0 k.index ops) s.0 k.index
              (given_or_kept given (st.note s.0 k.index)))

          by_tests : Bool → Bool → Replied
          by_tests x y = cond x (unchanged ds reply.CancelledKey) (cond y (unchanged ds reply.ClosedSelector) done)

          with_key_there : (x y : Bool) → (x ≡ false → is_valid_key enrolled_stage k.serial ≡ true)
              → by_tests x y ≡ finish (over x y (is_valid_key enrolled_stage k.serial))
          with_key_there true y valid = refused ChannelError.CancelledKey reply.CancelledKey refl
          with_key_there false true valid = refused ChannelError.ClosedSelector reply.ClosedSelector refl
          with_key_there false false valid =
              ap (λ n. replied ds (reply.Key k) (with_note (with_interest ds.shared s.0 k.index ops) s.0 k.index n))
              (kept-is given (st.note s.0 k.index))
              ∙ (freed (λ h. record {
                reply = reply.Key k;
                left =
                    documented (record (with_note (with_interest st s.0 k.index ops) s.0 k.index
                    (if att == 0 then st.note s.0 k.index else att)) { hold = h }) now;
              })
              ∙ ap (λ v. finish (over false false v)) (sym (valid refl)))
      by_key false e cancelled e' true shut =
          ap (λ b. cond b (unchanged ds reply.ClosedSelector)
          (registered_new ds s.0 c.number.0 ops att (next_key l ds.shared s.0))) shut
          ∙ refused ChannelError.ClosedSelector reply.ClosedSelector refl
      by_key false e cancelled e' false not_shut =
          ap (λ b. cond b (unchanged ds reply.ClosedSelector)
          (registered_new ds s.0 c.number.0 ops att (next_key l ds.shared s.0))) not_shut
          ∙ (newly not_shut
          ∙ ap (λ v. finish (over false false v)) (sym (not_valid (fits enrolled_stage k.serial)
          (in_key_set enrolled_stage) enrolled_stage.cancelled e)))

    by_enrolled : (o : Option KeyId) → st.enrolled c.number.0 s.0 ≡ o
        → registered l ds s.0 c.number.0 ops given (if_in_key_set ds.shared s.0 o)
        ≡ F (perform me (register_over s ops att o >>= register_rest l s c ops att) holding)
    by_enrolled None is = unregistered (st.gate s.0).shut refl
    by_enrolled (Some k) is =
        let stage = st.key s.0 k.index in
        by_key k (is_in_key_set stage k.serial) refl stage.cancelled refl (st.gate s.0).shut refl
        ∙ sym (ap F (perform_then_on me (under_pin s k.index (register_enrolled s ops att k))
        (register_rest l s c ops att) holding _ _
        (over-performed l holding me s c ops att free still untaken exact fresh_mark fresh_free is_open k)))

  pub register-amounts : st.selector s.0 ≡ true → was_opened (st.chan c.number.0) c.serial ≡ true
      → register_call l ds s c ops given ≡ amounts register_reply (λ _. now)
      (perform me (try_register_plan l s c ops att) st)
  unfolding register_call try_register_plan
  register-amounts selector made_c =
      let chan = st.chan c.number.0 in
      let legal = is_within ops (valid_operations chan.kind) in
      let is_open = is_open_channel chan c.serial in
      let stays = amounts register_reply (λ _. now) in
      selector-through ds s selector _ ∙ (channel-through ds c made_c _
      ∙ branch stays me (Plan.reply (Err ChannelError.IllegalOps))
      (if not is_open then Plan.reply (Err ChannelError.ClosedChannel) else under_hold ChannelError.Busy c.number
      (register_held l s c ops att)) st _ _ (not legal) (not legal) refl
      (λ _. refl)
      (λ _. branch stays me (Plan.reply (Err ChannelError.ClosedChannel))
      (under_hold ChannelError.Busy c.number (register_held l s c ops att)) st _ _ (not is_open) (not is_open) refl
      (λ _. refl)
      (λ open_now. branch F me (Plan.reply (Err ChannelError.IllegalBlockingMode))
      (register_unblocked l s c ops att) holding _ _ chan.blocking chan.blocking refl
      (λ _. refused ChannelError.IllegalBlockingMode reply.IllegalBlockingMode refl)
      (λ _. by_enrolled (not-false is_open open_now) (st.enrolled c.number.0 s.0) refl)
      ∙ (ap F (sym (perform_else me (not is_open) (Plan.reply (Err ChannelError.ClosedChannel))
      (if chan.blocking then Plan.reply (Err ChannelError.IllegalBlockingMode)
      else register_unblocked l s c ops att) holding open_now))
      ∙ sym (ap stays (perform_held me ChannelError.Busy c.number (register_held l s c ops att) st unheld))))))
