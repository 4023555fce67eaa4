-- Setting a channel's mode amounts to the documented call.
use Rattle.std.proofs.Common.{◌≡◌, ℕ, Bool, true, false, cond, ◌&&◌, Option, Some, None, is_some, Result, Ok, Err, refl}
use Rattle.std.proofs.Common.{ap, sym, ◌∙◌}
use Rattle.nio_base.specs.declared.limits.Limits.{Limits}
use Rattle.nio_base.specs.declared.numbers.CallerNo.{CallerNo}
use Rattle.nio_base.specs.declared.numbers.ChanId.{ChanId}
use Rattle.nio_base.specs.declared.numbers.KeyNo.{KeyNo}
use Rattle.nio_history.specs.Sets.{was_opened, is_open_channel}
use Rattle.nio_history.specs.State.{State, with_chan, with_hold}
use Rattle.nio_language.specs.declared.reply.Reply.TheVariants as reply
use Rattle.nio_plain.proofs.Naming.{channel-through}
use Rattle.nio_plain.specs.ScriptState.{ScriptState}
use Rattle.nio_plain.specs.Seq.Replies.{Replied, unchanged, replied}
use Rattle.nio_plain.specs.Seq.Modes.{has_key, blocking_call}
use Rattle.nio_steps.proofs.PerformLaws.{perform_then, perform_then_on}
use Rattle.nio_steps.specs.ChannelCalls.{first_key, set_mode_clear, set_mode_open, set_mode_held, try_set_blocking_plan}
use Rattle.nio_steps.specs.ChannelCalls.{under_hold}
use Rattle.nio_steps.specs.Perform.{Performed, perform}
use Rattle.nio_steps.specs.Plan.{Plan, ◌>>=◌}
use Rattle.nio_steps.specs.Steps.{set_mode}
use Rattle.nio_steps.specs.declared.refusal.ChannelError.{ChannelError}
use Rattle.nio_serial.proofs.Base.{put-back, branch, branch_unless, released, perform_held}
use Rattle.nio_serial.proofs.Finding.{first_key-performed}
use Rattle.nio_serial.specs.Documented.{Progress, documented, amounts}
use Rattle.nio_serial.specs.Replies.{mode_reply}

module _ (l : Limits) (st : State) (now : Progress) (me : CallerNo) (c : ChanId)
    (unheld : st.hold c.number.0 ≡ None) where
  abbrev ds : ScriptState
  ds = documented st now

  abbrev held : State
  held = with_hold st c.number.0 (Some me)

  abbrev after : Performed (Result (Unit {0}) ChannelError) → Replied
  after done = amounts mode_reply (λ _. now) (released c.number done)

  -- the hold is as before
  back : (F : (ℕ → Option CallerNo) → Replied) → F st.hold ≡ F (with_hold held c.number.0 None).hold
  back F = sym (ap F (put-back st.hold c.number.0 (Some me) None unheld))

  -- the mode is set unless the number's channel is registered and blocking mode is asked for
  set : (on : Bool) (o : Option KeyNo) (b : Bool) → b ≡ is_some o
      → cond b (unchanged ds reply.IllegalBlockingMode)
      (replied ds reply.«Ok» (with_chan ds.shared c.number.0 (record (st.chan c.number.0) { blocking = on })))
      ≡ after (perform me (set_mode_clear c.number on o) held)
  set on o b same =
      branch after me (Plan.reply (Err ChannelError.IllegalBlockingMode))
      (set_mode c.number on >>= (λ _. Plan.reply (Ok tt))) held _ _ b (is_some o) same
      (λ _. back (λ h. record { reply = reply.IllegalBlockingMode; left = documented (record st { hold = h }) now }))
      (λ _. back
      (λ h. record {
        reply = reply.«Ok»;
        left =
            documented (record (with_chan st c.number.0 (record (st.chan c.number.0) { blocking = on })) { hold = h })
            now;
      }))

  opened : (on : Bool)
      → cond (on && has_key l st c.number.0) (unchanged ds reply.IllegalBlockingMode)
      (replied ds reply.«Ok» (with_chan ds.shared c.number.0 (record (st.chan c.number.0) { blocking = on })))
      ≡ after (perform me (set_mode_open l c.number on) held)
  opened true =
      let finds = first_key-performed l me c.number held in
      set true finds.found (has_key l st c.number.0) (sym finds.where_registered)
      ∙ sym (ap after
      (perform_then_on me (first_key l c.number) (set_mode_clear c.number true) held finds.found held finds.performed))
  opened false = set false None false refl

  pub blocking-amounts : (on : Bool) → was_opened (st.chan c.number.0) c.serial ≡ true
      → blocking_call l ds c on ≡ amounts mode_reply (λ _. now) (perform me (try_set_blocking_plan l c on) st)
  unfolding blocking_call try_set_blocking_plan
  blocking-amounts on made =
      channel-through ds c made _
      ∙ branch_unless (amounts mode_reply (λ _. now)) me
      (under_hold ChannelError.Busy c.number (set_mode_held l c on)) (Plan.reply (Err ChannelError.ClosedChannel)) st _
      _ _ (is_open_channel (st.chan c.number.0) c.serial) refl
      (λ is_open. opened on
      ∙ (ap after
      (sym (perform_then me (is_open_channel (st.chan c.number.0) c.serial) (set_mode_open l c.number on)
      (Plan.reply (Err ChannelError.ClosedChannel)) held is_open))
      ∙ sym (ap (amounts mode_reply (λ _. now))
      (perform_held me ChannelError.Busy c.number (set_mode_held l c on) st unheld))))
      (λ _. refl)
