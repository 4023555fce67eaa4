-- Reading and writing a pipe amount to the documented calls.
use Rattle.std.proofs.Common.{◌≡◌, ℕ, ◌<◌, ◌==◌, Bool, true, false, not, ◌&&◌, if◌then◌else◌, Some, Result, Ok, Err}
use Rattle.std.proofs.Common.{List, [], ◌∷◌, ◌++◌, length, take, refl, ap, sym, ◌∙◌}
use Rattle.std.proofs.lemmas.Bool.{not-false}
use Rattle.std.proofs.lemmas.List.{set-get_or}
use Rattle.nio_base.specs.declared.limits.Limits.{Limits}
use Rattle.nio_base.specs.declared.numbers.CallerNo.{CallerNo}
use Rattle.nio_base.specs.declared.numbers.ChanId.{ChanId}
use Rattle.nio_history.specs.Sets.{in_key_set, is_open_channel}
use Rattle.nio_history.specs.State.{State}
use Rattle.nio_language.specs.declared.reply.Reply.{Reply}
use Rattle.nio_language.specs.declared.reply.Reply.TheVariants as reply
use Rattle.nio_plain.specs.ScriptState.{Pipe, ScriptState}
use Rattle.nio_plain.specs.Seq.Replies.{Replied, unchanged, replied}
use Rattle.nio_plain.specs.Seq.Cancelling.{channel_closed}
use Rattle.nio_plain.specs.Seq.Pipes.{no_pipe, sealing, pipe_at}
use Rattle.nio_plain.specs.Seq.Piping.{not_now, read_first, read_from, room_for, write_first, write_to}
use Rattle.nio_steps.proofs.PerformLaws.{perform-bind, perform_then_on}
use Rattle.nio_steps.specs.ChannelCalls.{close_channel_plan}
use Rattle.nio_steps.specs.Perform.{Performed, perform}
use Rattle.nio_steps.specs.PipeCalls.{if_interrupted, if_open, try_read_plan, if_unbroken, try_write_plan}
use Rattle.nio_steps.specs.Plan.{Plan, ◌>>=◌}
use Rattle.nio_steps.specs.Steps.{look_interrupt}
use Rattle.nio_steps.specs.declared.refusal.PipeError.{PipeError}
use Rattle.nio_serial.proofs.Base.{IsOff}
use Rattle.nio_serial.proofs.ClosingChannels.{closed_left, closed-documented, close-open}
use Rattle.nio_serial.specs.Documented.{Progress, documented, amounts}
use Rattle.nio_serial.specs.PipeLines.{with_pipe, Piped, only_says, takes, read_gives, puts, write_gives}

module _ (l : Limits) (st : State) (now : Progress) (me : CallerNo) (c : ChanId)
    (off : (s i : ℕ) → IsOff st.pinned st.amid s i me.0) (whole : (s i : ℕ) → (st.key s i).claimed ≡ (st.key s i).published)
    (within : (s i : ℕ) → in_key_set (st.key s i) ≡ true → s < l.selectors) where
  abbrev ds : ScriptState
  ds = documented st now

  abbrev blocking : Bool
  blocking = (st.chan c.number.0).blocking

  abbrev is_open : Bool
  is_open = is_open_channel (st.chan c.number.0) c.serial

  abbrev ends : Result Bool PipeError → State → Performed (Result Bool PipeError)
  ends answer left = record { answer = answer; state = left }

  -- what the caller's looks at its own channel come to
  abbrev looked : Bool → Bool → Performed (Result Bool PipeError)
  looked closed interrupts =
      if closed then ends (Err PipeError.ClosedChannel) st
      else if interrupts then ends (Err PipeError.ClosedByInterrupt) (closed_left l st c.number)
      else ends (Ok blocking) st

  looks : perform me (if_open l c (st.chan c.number.0)) st ≡ looked (not is_open) (blocking && st.interrupted me.0)
  looks = by_closed (not is_open) refl
    where
      by_status : (b : Bool) → is_open ≡ true
          → perform me (if_interrupted l c b) st
          ≡ (if b then ends (Err PipeError.ClosedByInterrupt) (closed_left l st c.number) else ends (Ok true) st)
      by_status true opened =
          perform_then_on me (close_channel_plan l c) (λ _. Plan.reply (Err PipeError.ClosedByInterrupt)) st
          true (closed_left l st c.number) (close-open l st now me c off whole within opened)
      by_status false opened = refl

      by_mode : (b : Bool) → is_open ≡ true
          → perform me (if b then (look_interrupt >>= if_interrupted l c) else Plan.reply (Ok false)) st
          ≡ (if b && st.interrupted me.0 then ends (Err PipeError.ClosedByInterrupt) (closed_left l st c.number)
          else ends (Ok b) st)
      by_mode true opened = by_status (st.interrupted me.0) opened
      by_mode false opened = refl

      by_closed : (b : Bool) → not is_open ≡ b
          → perform me (if b then Plan.reply (Err PipeError.ClosedChannel)
          else (if blocking then (look_interrupt >>= if_interrupted l c) else Plan.reply (Ok false))) st
          ≡ looked b (blocking && st.interrupted me.0)
      by_closed true is = refl
      by_closed false is = by_mode blocking (not-false is_open is)

  module _ (i : ℕ) where
    abbrev p : Pipe
    p = pipe_at now.pipes i

    -- what stands at a place is put there
    same-pipes : with_pipe now i p ≡ now
    same-pipes = ap (λ (pipes : List Pipe). record now { pipes = pipes }) (set-get_or now.pipes i no_pipe)

    -- a call on the pipe, by what its plan answers
    abbrev gave : (Pipe → Result Bool PipeError → Piped) → Performed (Result Bool PipeError) → Replied
    gave gives done = amounts (λ answer. (gives p answer).reply) (λ answer. with_pipe now i (gives p answer).left) done

    abbrev left_as : State → Piped → Replied
    left_as left piped = record { reply = piped.reply; left = documented left (with_pipe now i piped.left) }

    only : (r : Reply) → unchanged ds r ≡ left_as st (only_says p r)
    only r = ap (λ (x : Progress). record { reply = r; left = documented st x }) (sym same-pipes)

    interrupts : replied ds reply.ClosedByInterrupt (channel_closed ds.shared c.number.0)
        ≡ record { reply = reply.ClosedByInterrupt; left = documented (closed_left l st c.number) now }
    interrupts = closed-documented l st now me c off whole within reply.ClosedByInterrupt

    module _ (n : ℕ) where
      taken : (mode : Bool) (waiting : List ℕ) (sealed : Bool)
          → read_first ds mode n i waiting sealed ≡ left_as st (takes p mode n waiting sealed)
      taken mode [] false = only (not_now mode)
      taken mode [] true = only reply.End
      taken mode (b ∷ bytes) sealed = refl

      read-some : (b : Bool)
          → (if b then unchanged ds (reply.Number 0) else read_first ds blocking n i p.waiting p.sealed)
          ≡ left_as st (if b then only_says p (reply.Number 0) else takes p blocking n p.waiting p.sealed)
      read-some true = only (reply.Number 0)
      read-some false = taken blocking p.waiting p.sealed

      read-is : (closed interrupted : Bool)
          → (if closed then unchanged ds reply.ClosedChannel
          else if interrupted then replied ds reply.ClosedByInterrupt (channel_closed ds.shared c.number.0)
          else if n == 0 then unchanged ds (reply.Number 0)
          else read_first ds blocking n i p.waiting p.sealed)
          ≡ gave (read_gives n) (looked closed interrupted)
      read-is true interrupted = only reply.ClosedChannel
      read-is false true =
          interrupts
          ∙ ap (λ (x : Progress). record {
            reply = reply.ClosedByInterrupt;
            left = documented (closed_left l st c.number) x;
          })
          (sym same-pipes)
      read-is false false = read-some (n == 0)

      pub read-amounts : read_from ds me c n (Some i) ≡ gave (read_gives n) (perform me (try_read_plan l c) st)
      unfolding try_read_plan
      read-amounts =
          read-is (not is_open) (blocking && st.interrupted me.0) ∙ sym (ap (gave (read_gives n)) looks)

    module _ (bytes : List ℕ) where
      abbrev readable : Bool
      readable = is_open_channel (st.chan p.source.number.0) p.source.serial

      room-is : (b : Bool) (n : ℕ)
          → (if b then unchanged ds (not_now blocking) else record {
            reply = reply.Number n;
            left = documented st (with_pipe now i (record p { waiting = p.waiting ++ take n bytes }));
          })
          ≡ left_as st (if b then only_says p (not_now blocking) else record {
            reply = reply.Number n;
            left = record p { waiting = p.waiting ++ take n bytes };
          })
      room-is true n = only (not_now blocking)
      room-is false n = refl

      empty-is : (b : Bool)
          → (if b then unchanged ds (reply.Number 0) else write_first ds blocking bytes i (room_for bytes p))
          ≡ left_as st (if b then only_says p (reply.Number 0) else puts p blocking bytes (room_for bytes p))
      empty-is true = only (reply.Number 0)
      empty-is false = room-is (room_for bytes p == 0) (room_for bytes p)

      broken-is : (b : Bool)
          → (if not b then unchanged ds reply.BrokenPipe
          else if length bytes == 0 then unchanged ds (reply.Number 0)
          else write_first ds blocking bytes i (room_for bytes p))
          ≡ gave (write_gives bytes) (ends (if b then Ok blocking else Err PipeError.BrokenPipe) st)
      broken-is false = only reply.BrokenPipe
      broken-is true = empty-is (length bytes == 0)

      -- the look at the source, after these
      abbrev and_source : Performed (Result Bool PipeError) → Performed (Result Bool PipeError)
      and_source done = perform me (if_unbroken p.source done.answer) done.state

      write-is : (closed interrupted : Bool)
          → (if closed then sealing (Some i) (unchanged ds reply.ClosedChannel)
          else if interrupted then
          sealing (Some i) (replied ds reply.ClosedByInterrupt (channel_closed ds.shared c.number.0))
          else if not readable then unchanged ds reply.BrokenPipe
          else if length bytes == 0 then unchanged ds (reply.Number 0)
          else write_first ds blocking bytes i (room_for bytes p))
          ≡ gave (write_gives bytes) (and_source (looked closed interrupted))
      write-is true interrupted = refl
      write-is false true = ap (sealing (Some i)) interrupts
      write-is false false = broken-is readable

      pub write-amounts : write_to ds me c bytes (Some i)
          ≡ gave (write_gives bytes) (perform me (try_write_plan l p.source c) st)
      unfolding try_write_plan
      write-amounts =
          write-is (not is_open) (blocking && st.interrupted me.0)
          ∙ sym (ap (gave (write_gives bytes))
          (perform-bind me (if_open l c (st.chan c.number.0)) (if_unbroken p.source) st ∙ ap and_source looks))
