-- Making a pipe amounts to the documented call.
use Rattle.std.proofs.Common.{◌≡◌, ℕ, ◌<◌, ◌==◌, true, false, Option, Some, None, Result, Err, refl, ap}
use Rattle.std.proofs.Common.{sym, ◌∙◌, eq-eqb}
use Rattle.std.proofs.lemmas.Bool.{and_from}
use Rattle.nio_base.specs.declared.kind.Kind.TheVariants.{Source, Sink}
use Rattle.nio_base.specs.declared.limits.Limits.{Limits}
use Rattle.nio_base.specs.declared.numbers.CallerNo.{CallerNo}
use Rattle.nio_base.specs.declared.numbers.ChanId.{ChanId}
use Rattle.nio_history.proofs.Put.{put-same}
use Rattle.nio_history.specs.Acts.{new_channel}
use Rattle.nio_history.specs.Sets.{in_key_set, is_open_channel}
use Rattle.nio_history.specs.State.{State}
use Rattle.nio_history.specs.declared.found.Chan.{Chan}
use Rattle.nio_language.specs.declared.reply.Reply.TheVariants as reply
use Rattle.nio_plain.specs.ScriptState.{ScriptState}
use Rattle.nio_plain.specs.Seq.Replies.{Replied}
use Rattle.nio_plain.specs.Seq.Opening.{next_channel, with_new_channel}
use Rattle.nio_plain.specs.Seq.Piping.{with_sink, with_source}
use Rattle.nio_plain.specs.declared.rules.Rules.TheVariants.{Now}
use Rattle.nio_steps.proofs.PerformLaws.{perform-bind, perform_then_on}
use Rattle.nio_steps.specs.ChannelCalls.{open_channel_plan, close_channel_plan}
use Rattle.nio_steps.specs.Perform.{Performed, perform}
use Rattle.nio_steps.specs.PipeCalls.{PipeEnds, with_sink as sink_for, with_source as ends_for, pipe_plan}
use Rattle.nio_steps.specs.Plan.{Plan, ◌>>=◌}
use Rattle.nio_steps.specs.declared.refusal.ChannelError.{ChannelError}
use Rattle.nio_steps.specs.declared.refusal.PipeMakeError.{PipeMakeError}
use Rattle.nio_serial.proofs.Base.{IsOff}
use Rattle.nio_serial.proofs.ClosingChannels.{closed_left, closed-documented, close-open}
use Rattle.nio_serial.proofs.NextChannel.{channels-next}
use Rattle.nio_serial.proofs.Opening.{opened, open-performed}
use Rattle.nio_serial.proofs.Resting.{ChannelsRest}
use Rattle.nio_serial.specs.Documented.{Progress, documented, amounts}
use Rattle.nio_serial.specs.PipeLines.{after_pipe}
use Rattle.nio_serial.specs.Replies.{ends_reply}

-- a channel that was opened just now is open
open_now : (st : State) (source : ChanId)
    → is_open_channel ((with_new_channel st Source source).chan source.number.0) source.serial ≡ true
open_now st source =
    ap (λ (x : Chan). is_open_channel x source.serial)
    (put-same st.chan source.number.0 (new_channel Source source.serial))
    ∙ and_from (source.serial == source.serial) true (eq-eqb source.serial source.serial refl) refl

module _ (l : Limits) (st : State) (now : Progress) (me target : CallerNo)
    (rest : ChannelsRest l st.channels_high st.chan) (unheld : (c : ℕ) → st.hold c ≡ None)
    (off : (s i : ℕ) → IsOff st.pinned st.amid s i me.0) (whole : (s i : ℕ) → (st.key s i).claimed ≡ (st.key s i).published)
    (within : (s i : ℕ) → in_key_set (st.key s i) ≡ true → s < l.selectors) where
  abbrev ds : ScriptState
  ds = documented st now

  abbrev gave : Performed (Result PipeEnds PipeMakeError) → Replied
  gave done = amounts ends_reply (after_pipe now me target) done

  -- how the plan goes on after the opening of the source, and after that of the sink
  abbrev sink_after : ChanId → Performed (Result ChanId ChannelError) → Performed (Result PipeEnds PipeMakeError)
  sink_after source done = perform me (sink_for l source done.answer) done.state

  abbrev ends_after : Performed (Result ChanId ChannelError) → Performed (Result PipeEnds PipeMakeError)
  ends_after done = perform me (ends_for l done.answer) done.state

  -- the source is opened
  module _ (source : ChanId) (is : next_channel Now l st Source ≡ Some source) where
    abbrev st1 : State
    st1 = with_new_channel st Source source

    abbrev ds1 : ScriptState
    ds1 = documented st1 now

    -- it is closed where there is no number for a sink
    by_sink : (o : Option ChanId) → with_sink ds1 me target source o ≡ gave (sink_after source (opened st1 Sink o))
    by_sink None =
        closed-documented l st1 now me source off whole within reply.ChannelsSpent
        ∙ sym (ap gave (perform_then_on me (close_channel_plan l source)
        (λ _. Plan.reply (Err PipeMakeError.ChannelsSpent)) st1 true (closed_left l st1 source.number)
        (close-open l st1 now me source off whole within (open_now st source))))
    by_sink (Some sink) = refl

    sink-opened : with_sink ds1 me target source (next_channel Now l ds1.shared Sink)
        ≡ gave (perform me (open_channel_plan l Sink >>= sink_for l source) st1)
    sink-opened =
        by_sink (next_channel Now l st1 Sink)
        ∙ sym (ap gave (perform-bind me (open_channel_plan l Sink) (sink_for l source) st1
        ∙ ap (sink_after source)
        (open-performed l st1 me (channels-next l st rest Source source is).made unheld Sink)))

  by_source : (o : Option ChanId) → next_channel Now l st Source ≡ o
      → with_source Now l ds me target o ≡ gave (ends_after (opened st Source o))
  by_source None is = refl
  by_source (Some source) is = sink-opened source is

  pub ends-amount : with_source Now l ds me target (next_channel Now l ds.shared Source)
      ≡ gave (perform me (pipe_plan l false) st)
  unfolding pipe_plan
  ends-amount =
      by_source (next_channel Now l st Source) refl
      ∙ sym (ap gave (perform-bind me (open_channel_plan l Source) (ends_for l) st
      ∙ ap ends_after (open-performed l st me rest.made unheld Source)))
