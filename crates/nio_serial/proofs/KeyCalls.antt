-- The calls on a key amount to the documented ones.
use Rattle.std.proofs.Common.{◌≡◌, ℕ, Bool, true, false, cond, not, ◌&&◌, Result, Err, bit_and, bit_or, refl, ap, sym}
use Rattle.std.proofs.Common.{◌∙◌}
use Rattle.std.proofs.lemmas.Bool.{and_parts, both_ways, not-true}
use Rattle.nio_base.specs.Kind.{valid_operations}
use Rattle.nio_base.specs.declared.numbers.CallerNo.{CallerNo}
use Rattle.nio_base.specs.declared.numbers.KeyId.{KeyId}
use Rattle.nio_base.specs.declared.numbers.SelNo.{SelNo}
use Rattle.nio_history.specs.Sets.{fits, in_key_set, was_published, is_in_key_set, is_valid_key}
use Rattle.nio_history.specs.State.{State, with_pin, with_amid, with_key, with_mark, with_interest, with_note}
use Rattle.nio_history.specs.declared.found.Mark.{Mark}
use Rattle.nio_history.specs.declared.found.Stage.{Stage}
use Rattle.nio_language.specs.declared.reply.Reply.{Reply}
use Rattle.nio_language.specs.declared.reply.Reply.TheVariants as reply
use Rattle.nio_plain.proofs.Naming.{key-through}
use Rattle.nio_plain.proofs.Places.{put_at_same}
use Rattle.nio_plain.specs.ScriptState.{ScriptState}
use Rattle.nio_plain.specs.Seq.Replies.{Replied, unchanged, replied, yes_or_no}
use Rattle.nio_plain.specs.Seq.Cancelling.{cancel_call, cancelled_key}
use Rattle.nio_plain.specs.Seq.Keys.{with_valid_key, valid_call, interest_call, ready_call, iset_call, ior_call}
use Rattle.nio_plain.specs.Seq.Keys.{iand_call, unselect_call, attach_call, attachment_call, is_in_selected_set}
use Rattle.nio_plain.specs.Seq.Names.{with_named_key}
use Rattle.nio_steps.specs.KeyCalls.{under_pin, is_valid_plan, interest_plan, ready_plan, set_interest_plan}
use Rattle.nio_steps.specs.KeyCalls.{interest_or_plan, interest_and_plan, cancel_plan, unselect_plan, attach_plan}
use Rattle.nio_base.specs.Ops.{is_within}
use Rattle.nio_steps.specs.KeyCalls.{attachment_plan, on_valid, if_valid, look_set, look_ready, put_set}
use Rattle.nio_steps.specs.KeyCalls.{add_set, keep_set, on_supported, cancel_present, cancel_pinned, unselect_present, attach_present}
use Rattle.nio_steps.specs.KeyCalls.{attachment_present}
use Rattle.nio_steps.specs.Names.{key}
use Rattle.nio_steps.specs.Perform.{Performed, perform}
use Rattle.nio_steps.specs.Plan.{Plan, when}
use Rattle.nio_steps.specs.Steps.{unselect_bit, swap_note, look_note}
use Rattle.nio_steps.specs.declared.refusal.KeyError.{KeyError}
use Rattle.nio_serial.proofs.Base.{IsOff, pin-back, caller-back, caller-off, settled-valid_key, settled-key, settled-marked, in_set-is}
use Rattle.nio_serial.proofs.Base.{branch, branch_not, unpinned, perform_pinned}
use Rattle.nio_serial.specs.Documented.{Progress, settled, settled_mark, documented, amounts}
use Rattle.nio_serial.specs.Replies.{set_reply, put_reply}

neither : (f i x : Bool) → (f && i) ≡ false → (f && (i && x)) ≡ false
neither true true x e = absurd (both_ways true e refl)
neither true false x e = refl
neither false i x e = refl

module _ (st : State) (now : Progress) (me : CallerNo) (s : SelNo) (k : KeyId)
    (off : IsOff st.pinned st.amid s.0 k.index me.0)
    (made : st.selector s.0 ≡ true) (published : was_published (st.key s.0 k.index) k.serial ≡ true) where
  abbrev ds : ScriptState
  ds = documented st now

  abbrev stage : Stage
  stage = st.key s.0 k.index

  -- the state under the pin
  abbrev held : State
  held = with_pin st s.0 k.index me.0 true

  abbrev after : {R : Type 0} → (R → Reply) → Performed R → Replied
  after said done = amounts said (λ _. now) (unpinned me s k.index done)

  abbrev Callers : Type 0
  Callers = ℕ → ℕ → ℕ → Bool

  -- the pins, and who is amid a change, are as before
  back : (F : Callers → Callers → Replied)
      → F st.pinned st.amid ≡ F (with_pin held s.0 k.index me.0 false).pinned (with_amid st s.0 k.index me.0 false).amid
  back F = sym (λ j. F (pin-back st.pinned s.0 k.index me.0 off.unpinned j)
      (caller-off st.amid s.0 k.index me.0 off.unchanging j))

  -- the same after a touch
  abbrev touched : State
  touched = with_amid st s.0 k.index me.0 (held.pinned s.0 k.index me.0)

  back_touched : (F : Callers → Callers → Replied)
      → F st.pinned st.amid
      ≡ F (with_pin held s.0 k.index me.0 false).pinned (with_amid touched s.0 k.index me.0 false).amid
  back_touched F = sym (λ j. F (pin-back st.pinned s.0 k.index me.0 off.unpinned j)
      (caller-back st.amid s.0 k.index me.0 (held.pinned s.0 k.index me.0) off.unchanging j))

  -- what is done with a named key, and with a valid one
  on_named : {A : Type 0} (said : A → Reply) (steps : Stage → Plan A) (done : Replied)
      → done ≡ after said (perform me (steps stage) held)
      → with_named_key ds s k done ≡ amounts said (λ _. now) (perform me (under_pin s k.index steps) st)
  on_named said steps done is =
      key-through ds s k made published done
      ∙ (is ∙ sym (ap (amounts said (λ _. now)) (perform_pinned me s k.index steps st)))

  on_valid_key : {A : Type 0} (said : Result A KeyError → Reply) → said (Err KeyError.CancelledKey) ≡ reply.CancelledKey
      → (steps : Stage → Plan (Result A KeyError)) (done : Replied)
      → done ≡ after said (perform me (steps stage) held)
      → with_valid_key ds s k done ≡ amounts said (λ _. now) (perform me (on_valid (key s k) steps) st)
  on_valid_key said refuses steps done is =
      on_named said (if_valid (key s k) steps) _
      (branch_not (after said) me (steps stage) (Plan.reply (Err KeyError.CancelledKey)) held done
      (unchanged ds reply.CancelledKey)
      (is_valid_key (settled stage) k.serial) (is_valid_key stage k.serial) (settled-valid_key stage k.serial)
      (λ _. is)
      (λ _. back (λ p a. record { reply = reply.CancelledKey; left = documented (record st { pinned = p; amid = a }) now })
      ∙ ap (λ r. record { reply = r; left = documented (with_amid (with_pin held s.0 k.index me.0 false) s.0 k.index me.0 false) now }) (sym refuses)))

  pub valid-amounts : valid_call ds s k ≡ amounts yes_or_no (λ _. now) (perform me (is_valid_plan (key s k)) st)
  unfolding valid_call is_valid_plan
  valid-amounts =
      key-through ds s k made published _ ∙ ap (λ b. unchanged ds (yes_or_no b)) (settled-valid_key stage k.serial)

  pub interest-amounts : interest_call ds s k ≡ amounts set_reply (λ _. now) (perform me (interest_plan (key s k)) st)
  unfolding interest_call interest_plan
  interest-amounts =
      on_valid_key set_reply refl (λ _. look_set (key s k)) _
      (back (λ p a. record {
        reply = reply.Number (st.interest s.0 k.index);
        left = documented (record st { pinned = p; amid = a }) now;
      }))

  pub ready-amounts : ready_call ds s k ≡ amounts set_reply (λ _. now) (perform me (ready_plan (key s k)) st)
  unfolding ready_call ready_plan
  ready-amounts =
      on_valid_key set_reply refl (λ _. look_ready (key s k)) _
      (back (λ p a. record {
        reply = reply.Number (st.mark s.0 k.index).ready;
        left = documented (record st { pinned = p; amid = a }) now;
      }))

  -- operations that the key's channel has, or not
  on_supported_ops : {A : Type 0} (said : Result A KeyError → Reply) → said (Err KeyError.IllegalOps) ≡ reply.IllegalOps
      → (ops : ℕ) (steps : Plan (Result A KeyError)) (done : Replied)
      → done ≡ after said (perform me steps held)
      → cond (is_within ops (valid_operations (st.chan stage.chan.0).kind)) done (unchanged ds reply.IllegalOps)
      ≡ after said (perform me (on_supported ops steps stage) held)
  on_supported_ops said refuses ops steps done is =
      let test = is_within ops (valid_operations (st.chan stage.chan.0).kind) in
      branch_not (after said) me steps (Plan.reply (Err KeyError.IllegalOps)) held done
      (unchanged ds reply.IllegalOps) test test refl
      (λ _. is)
      (λ _. back (λ p a. record { reply = reply.IllegalOps; left = documented (record st { pinned = p; amid = a }) now })
      ∙ ap (λ r. record { reply = r; left = documented (with_amid (with_pin held s.0 k.index me.0 false) s.0 k.index me.0 false) now }) (sym refuses))

  pub iset-amounts : (ops : ℕ)
      → iset_call ds s k ops ≡ amounts put_reply (λ _. now) (perform me (set_interest_plan (key s k) ops) st)
  unfolding iset_call set_interest_plan
  iset-amounts ops =
      on_valid_key put_reply refl (on_supported ops (put_set (key s k) ops)) _
      (on_supported_ops put_reply refl ops (put_set (key s k) ops) _
      (back_touched (λ p a. record {
        reply = reply.«Ok»;
        left = documented (record (with_interest st s.0 k.index ops) { pinned = p; amid = a }) now;
      })))

  pub ior-amounts : (ops : ℕ)
      → ior_call ds s k ops ≡ amounts set_reply (λ _. now) (perform me (interest_or_plan (key s k) ops) st)
  unfolding ior_call interest_or_plan
  ior-amounts ops =
      let was = st.interest s.0 k.index in
      on_valid_key set_reply refl (on_supported ops (add_set (key s k) ops)) _
      (on_supported_ops set_reply refl ops (add_set (key s k) ops) _
      (back_touched (λ p a. record {
        reply = reply.Number was;
        left =
            documented (record (with_interest st s.0 k.index (bit_or was ops)) { pinned = p; amid = a }) now;
      })))

  pub iand-amounts : (ops : ℕ)
      → iand_call ds s k ops ≡ amounts set_reply (λ _. now) (perform me (interest_and_plan (key s k) ops) st)
  unfolding iand_call interest_and_plan
  iand-amounts ops =
      let was = st.interest s.0 k.index in
      on_valid_key set_reply refl (λ _. keep_set (key s k) ops) _
      (back_touched (λ p a. record {
        reply = reply.Number was;
        left =
            documented (record (with_interest st s.0 k.index (bit_and was ops)) { pinned = p; amid = a }) now;
      }))

  pub attach-amounts : (att : ℕ)
      → attach_call ds s k att ≡ amounts (λ before. reply.Number before) (λ _. now)
      (perform me (attach_plan (key s k) att) st)
  unfolding attach_call attach_plan
  attach-amounts att =
      let said : ℕ → Reply = λ before. reply.Number before in
      let test = fits stage k.serial in
      on_named said (attach_present (key s k) att) _
      (branch (after said) me (swap_note s k.index att) (Plan.reply 0) held _ _ test test refl
      (λ _. back
      (λ p a. record {
        reply = reply.Number (st.note s.0 k.index);
        left =
            documented (record (with_note st s.0 k.index att) { pinned = p; amid = a }) now;
      }))
      (λ _. back (λ p a. record { reply = reply.Number 0; left = documented (record st { pinned = p; amid = a }) now })))

  pub attachment-amounts : attachment_call ds s k ≡ amounts (λ att. reply.Number att) (λ _. now)
      (perform me (attachment_plan (key s k)) st)
  unfolding attachment_call attachment_plan
  attachment-amounts =
      let said : ℕ → Reply = λ att. reply.Number att in
      on_named said (attachment_present (key s k)) _ (by_fit (fits stage k.serial))
    where
      by_fit : (b : Bool)
          → unchanged ds (reply.Number (cond b (st.note s.0 k.index) 0)) ≡ after (λ att. reply.Number att)
          (perform me (cond b (look_note s k.index) (Plan.reply 0)) held)
      by_fit true =
          back (λ p a. record {
            reply = reply.Number (st.note s.0 k.index);
            left = documented (record st { pinned = p; amid = a }) now;
          })
      by_fit false = back (λ p a. record { reply = reply.Number 0; left = documented (record st { pinned = p; amid = a }) now })

  -- a key that the index has, and that isn't removed, is in the key set: each claimed index has a published key
  module _ (whole : stage.claimed ≡ stage.published) where
    pub cancel-amounts : cancel_call ds s k ≡ amounts (λ _. reply.«Ok») (λ _. now)
        (perform me (cancel_plan (key s k)) st)
    unfolding cancel_call cancel_plan
    cancel-amounts =
        on_named (λ _. reply.«Ok») (cancel_present (key s k)) _
        (by_set (fits stage k.serial && not stage.removed) refl (in_set-is stage k.serial whole))
      where
        by_set : (b : Bool) → (fits stage k.serial && not stage.removed) ≡ b → b ≡ is_in_key_set stage k.serial
            → replied ds reply.«Ok»
            (with_key ds.shared s.0 k.index
            (cond (is_in_key_set stage k.serial) (cancelled_key (settled stage)) (settled stage)))
            ≡ after (λ _. reply.«Ok») (perform me (when b (cancel_pinned s k.index)) held)
        by_set true e same =
            let present : stage.removed ≡ false = not-true stage.removed
            (and_parts (fits stage k.serial) (not stage.removed) e).1 in
            ap (λ b. replied ds reply.«Ok»
            (with_key ds.shared s.0 k.index (cond b (cancelled_key (settled stage)) (settled stage)))) (sym same)
            ∙ (ap (λ r. replied ds reply.«Ok» (with_key ds.shared s.0 k.index (record stage { cancelled = r })))
            (λ j. not (sym present j) && true)
            ∙ (ap (λ x. replied ds reply.«Ok» x) (sym (settled-key st s.0 k.index (cancelled_key stage) refl))
            ∙ back_touched (λ p a. record {
              reply = reply.«Ok»;
              left =
                  documented (record (with_key st s.0 k.index (cancelled_key stage)) { pinned = p; amid = a }) now;
            })))
        by_set false e same =
            ap (λ b. replied ds reply.«Ok»
            (with_key ds.shared s.0 k.index (cond b (cancelled_key (settled stage)) (settled stage)))) (sym same)
            ∙ (ap (λ f. replied ds reply.«Ok» (record ds.shared { key = f }))
            (put_at_same ds.shared.key s.0 k.index (settled stage) refl)
            ∙ back (λ p a. record { reply = reply.«Ok»; left = documented (record st { pinned = p; amid = a }) now }))

  pub unselect-amounts : unselect_call ds s k ≡ amounts yes_or_no (λ _. now) (perform me (unselect_plan (key s k)) st)
  unfolding unselect_call unselect_plan
  unselect-amounts = on_named yes_or_no (unselect_present (key s k)) _ (by_set (is_in_key_set stage k.serial) refl)
    where
      m : Mark
      m = st.mark s.0 k.index

      by_set : (b : Bool) → is_in_key_set stage k.serial ≡ b
          → cond (is_in_selected_set ds.shared s.0 k)
          (replied ds reply.Yes
          (with_mark ds.shared s.0 k.index (record (settled_mark stage m) { selected = false })))
          (unchanged ds reply.No)
          ≡ after yes_or_no (perform me (cond b (unselect_bit s k.index) (Plan.reply false)) held)
      by_set true e =
          let both = and_parts (fits stage k.serial) (in_key_set stage) e in
          let present : stage.removed ≡ false = not-true stage.removed
          (and_parts stage.published (not stage.removed) both.1).1 in
          let test : is_in_selected_set ds.shared s.0 k ≡ m.selected = λ j. both.0 j
          && (both.1 j && (not (present j) && m.selected)) in
          ap (λ b. cond b
          (replied ds reply.Yes
          (with_mark ds.shared s.0 k.index (record (settled_mark stage m) { selected = false })))
          (unchanged ds reply.No)) test
          ∙ (by_mark m.selected refl present
          ∙ back (λ p a. record {
            reply = yes_or_no m.selected;
            left =
                documented (record (with_mark st s.0 k.index (record m { selected = false })) { pinned = p; amid = a }) now;
          }))
        where
          by_mark : (b : Bool) → m.selected ≡ b → stage.removed ≡ false
              → cond b (replied ds reply.Yes
              (with_mark ds.shared s.0 k.index (record (settled_mark stage m) { selected = false })))
              (unchanged ds reply.No)
              ≡ record {
                reply = yes_or_no b;
                left =
                    documented (with_mark st s.0 k.index (record m { selected = false })) now;
              }
          by_mark true is present =
              ap (λ x. replied ds reply.Yes (with_mark ds.shared s.0 k.index (record m { selected = x })))
              (λ j. not (sym present j) && false)
              ∙ ap (λ x. replied ds reply.Yes x) (sym (settled-marked st s.0 k.index (record m { selected = false })))
          by_mark false is present =
              ap (λ f. record { reply = reply.No; left = documented (record st { mark = f }) now })
              (sym (put_at_same st.mark s.0 k.index (record m { selected = false })
              (λ j. record m { selected = is j })))
      by_set false e =
          ap (λ b. cond b
          (replied ds reply.Yes
          (with_mark ds.shared s.0 k.index (record (settled_mark stage m) { selected = false })))
          (unchanged ds reply.No))
          (neither (fits stage k.serial) (in_key_set stage) (settled_mark stage m).selected e)
          ∙ back (λ p a. record { reply = reply.No; left = documented (record st { pinned = p; amid = a }) now })
