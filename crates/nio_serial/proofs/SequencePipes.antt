-- Calls on pipes, made between two calls: what they leave.
use Rattle.std.proofs.Common.{◌≡◌, Bool, true, false, not, if◌then◌else◌, Option, Some, None, Result, Ok, Err, List, []}
use Rattle.std.proofs.Common.{position, refl, ap, sym, ◌∙◌, subst}
use Rattle.nio_base.specs.Limits.{IsFit}
use Rattle.nio_base.specs.declared.kind.Kind.{Kind}
use Rattle.nio_base.specs.declared.kind.Kind.TheVariants.{Source, Sink}
use Rattle.nio_base.specs.declared.limits.Limits.{Limits}
use Rattle.nio_base.specs.declared.numbers.CallerNo.{CallerNo}
use Rattle.nio_base.specs.declared.numbers.ChanId.{ChanId}
use Rattle.nio_history.specs.Conditions.{IsCaller}
use Rattle.nio_history.specs.Acts.{new_channel}
use Rattle.nio_history.specs.Sets.{was_opened, is_open_channel}
use Rattle.nio_history.specs.State.{State}
use Rattle.nio_history.specs.declared.found.Chan.{Chan}
use Rattle.nio_language.specs.declared.call.Call.TheVariants as call
use Rattle.nio_language.specs.declared.reply.Reply.{Reply}
use Rattle.nio_language.specs.declared.reply.Reply.TheVariants as reply
use Rattle.nio_plain.proofs.ReachedPipes.{next_channel-is}
use Rattle.nio_plain.proofs.ReachedSound.{Sound}
use Rattle.nio_plain.specs.ScriptState.{Pipe, ScriptState}
use Rattle.nio_plain.specs.Seq.{call_of}
use Rattle.nio_plain.specs.Seq.Replies.{Replied}
use Rattle.nio_plain.specs.Seq.Opening.{next_channel, channel_made, channel_call}
use Rattle.nio_plain.specs.Seq.Pipes.{owns_sink, sealed_pipes, own_sink}
use Rattle.nio_plain.specs.declared.rules.Rules.TheVariants.{Now}
use Rattle.nio_serial.proofs.Calls.{made-is}
use Rattle.nio_serial.proofs.Facts.{sound}
use Rattle.nio_serial.proofs.Histories.{calls-stay, calls-amount}
use Rattle.nio_serial.proofs.WholePipes.{stays-next, just-opened, end-kept}
use Rattle.nio_serial.specs.Between.{IsBetween}
use Rattle.nio_serial.specs.Documented.{Progress, documented, amounts}
use Rattle.nio_serial.specs.Laws.{IsMadeChannel}
use Rattle.nio_serial.specs.Lines.{Said, makes, asks, call_plan}
use Rattle.nio_serial.specs.PipeLines.{with_seal}
use Rattle.nio_serial.specs.Replies.{channel_reply, closed_reply}
use Rattle.nio_steps.proofs.PerformLaws.{perform-bind}
use Rattle.nio_steps.specs.ChannelCalls.{open_channel_plan, close_channel_plan}
use Rattle.nio_steps.specs.Perform.{Performed, perform}
use Rattle.nio_steps.specs.PipeCalls.{PipeEnds, without_sink, with_sink, with_source, pipe_plan, if_interrupted}
use Rattle.nio_steps.specs.PipeCalls.{if_open, try_read_plan, if_unbroken, try_write_plan}
use Rattle.nio_steps.specs.Plan.{Plan, ◌>>=◌}
use Rattle.nio_steps.specs.Steps.{look_interrupt}
use Rattle.nio_steps.specs.declared.refusal.ChannelError.{ChannelError}
use Rattle.nio_steps.specs.declared.refusal.PipeError.{PipeError}
use Rattle.nio_steps.specs.declared.refusal.PipeMakeError.{PipeMakeError}

-- where there are no pipes of a script, a closed channel leaves what is in progress
pub unsealed : (now : Progress) (me : CallerNo) (c : ChanId) → now.pipes ≡ []
    → with_seal now (own_sink now.pipes me c) ≡ now
unsealed now me c no_pipes =
    ap (λ (pipes : List Pipe). record now { pipes = sealed_pipes (position (owns_sink me c) pipes) pipes }) no_pipes
    ∙ ap (λ (pipes : List Pipe). record now { pipes = pipes }) (sym no_pipes)

-- a channel that is opened was opened then, and what was opened before stays so
module _ (l : Limits) (ds : ScriptState) (kind : Kind) where
  opened_keeps : Sound Now l ds → (o : Option ChanId) → next_channel Now l ds.shared kind ≡ o → (n : ChanId)
      → IsMadeChannel ds.shared n → IsMadeChannel (channel_made ds kind o).left.shared n
  opened_keeps _ None is n made = made
  opened_keeps whole (Some c) is n made =
      (end-kept ds.shared.chan c.number.0 (new_channel kind c.serial)
      (stays-next ds.shared kind c (next_channel-is Now l ds whole kind c is)) n (ds.shared.chan n.number.0).kind
      (made, refl)).0

  opened_there : (o : Option ChanId) (c : ChanId) → (channel_made ds kind o).reply ≡ reply.Channel c
      → IsMadeChannel (channel_made ds kind o).left.shared c
  opened_there None c is = absurd (cc is)
  opened_there (Some m) c is =
      let same : m ≡ c = cc is in
      subst (λ (d : ChanId). IsMadeChannel (channel_made ds kind (Some m)).left.shared d) same
      (just-opened ds.shared kind m).0

module _ (l : Limits) (st : State) (now : Progress) (me : CallerNo) (fit : IsFit l) (by : IsCaller l me)
    (between : IsBetween l st now) (no_pipes : now.pipes ≡ []) where
  abbrev ds : ScriptState
  ds = documented st now

  -- a call that is a line leaves the state between two calls
  line-leaves : {R : Type 0} (plan : Plan R) (said : R → Reply)
      → IsBetween l (perform me (asks now plan said) st).state (perform me (asks now plan said) st).answer.left
      → IsBetween l (perform me plan st).state now
  line-leaves plan said there =
      subst (λ (p : Performed Said). IsBetween l p.state p.answer.left)
      (perform-bind me plan (λ answer. Plan.reply (record { reply = said answer; left = now })) st) there

  pub closes-leave : (c : ChanId) → IsMadeChannel st c → IsBetween l (perform me (close_channel_plan l c) st).state now
  unfolding call_plan
  closes-leave c made =
      line-leaves (close_channel_plan l c) closed_reply
      (subst (λ (x : Progress). IsBetween l (perform me (makes (close_channel_plan l c) closed_reply (λ _. x)) st).state
      (perform me (makes (close_channel_plan l c) closed_reply (λ _. x)) st).answer.left)
      (unsealed now me c no_pipes) (calls-stay l st now me (call.Closec c) fit by between made))

  pub opens-leave : (kind : Kind) → IsBetween l (perform me (open_channel_plan l kind) st).state now
  unfolding call_plan
  opens-leave kind =
      line-leaves (open_channel_plan l kind) channel_reply
      (calls-stay l st now me (call.Channel kind) fit by between tt)

  opens-is : (kind : Kind) → channel_call Now l ds kind
      ≡ amounts channel_reply (λ _. now) (perform me (open_channel_plan l kind) st)
  unfolding call_of call_plan
  opens-is kind =
      calls-amount l st now me (call.Channel kind) between tt
      ∙ sym (made-is me (open_channel_plan l kind) channel_reply (λ _. now) st)

  pub opens-keep : (kind : Kind) (c : ChanId) → IsMadeChannel st c
      → IsMadeChannel (perform me (open_channel_plan l kind) st).state c
  unfolding channel_call
  opens-keep kind c made =
      ap (λ (a : Replied). was_opened (a.left.shared.chan c.number.0) c.serial) (sym (opens-is kind))
      ∙ opened_keeps l ds kind (sound l st now between) _ refl c made

  pub opens-make : (kind : Kind) (c : ChanId) → (perform me (open_channel_plan l kind) st).answer ≡ Ok c
      → IsMadeChannel (perform me (open_channel_plan l kind) st).state c
  unfolding channel_call
  opens-make kind c is =
      ap (λ (a : Replied). was_opened (a.left.shared.chan c.number.0) c.serial) (sym (opens-is kind))
      ∙ opened_there l ds kind _ c (ap (λ (a : Replied). a.reply) (opens-is kind) ∙ ap channel_reply is)

  -- ---- reading and writing

  open-leaves : (c : ChanId) (found : Chan) → IsMadeChannel st c
      → IsBetween l (perform me (if_open l c found) st).state now
  open-leaves c found made = by_closed (not (is_open_channel found c.serial)) found.blocking
    where
      by_interrupted : (b : Bool) → IsBetween l (perform me (if_interrupted l c b) st).state now
      by_interrupted true =
          subst (λ (p : Performed (Result Bool PipeError)). IsBetween l p.state now)
          (sym (perform-bind me (close_channel_plan l c) (λ _. Plan.reply (Err PipeError.ClosedByInterrupt)) st))
          (closes-leave c made)
      by_interrupted false = between

      by_closed : (b k : Bool) → IsBetween l (perform me
          (if b then Plan.reply (Err PipeError.ClosedChannel)
          else (if k then (look_interrupt >>= if_interrupted l c) else Plan.reply (Ok false))) st).state now
      by_closed true k = between
      by_closed false true = by_interrupted (st.interrupted me.0)
      by_closed false false = between

  pub read-leaves : (c : ChanId) → IsMadeChannel st c → IsBetween l (perform me (try_read_plan l c) st).state now
  unfolding try_read_plan
  read-leaves c made = open-leaves c (st.chan c.number.0) made

  pub write-leaves : (source c : ChanId) → IsMadeChannel st c
      → IsBetween l (perform me (try_write_plan l source c) st).state now
  unfolding try_write_plan
  write-leaves source c made =
      let done = perform me (if_open l c (st.chan c.number.0)) st in
      subst (λ (p : Performed (Result Bool PipeError)). IsBetween l p.state now)
      (sym (perform-bind me (if_open l c (st.chan c.number.0)) (if_unbroken source) st))
      (subst (λ x. IsBetween l x now) (sym (same done.answer done.state)) (open-leaves c (st.chan c.number.0) made))
    where
      same : (a : Result Bool PipeError) (x : State) → (perform me (if_unbroken source a) x).state ≡ x
      same (Ok blocking) x = refl
      same (Err refusal) x = refl

-- ---- making a pipe

module _ (l : Limits) (now : Progress) (me : CallerNo) (fit : IsFit l) (by : IsCaller l me)
    (no_pipes : now.pipes ≡ []) where
  without-leaves : (st : State) (source : ChanId) → IsBetween l st now → IsMadeChannel st source
      → IsBetween l (perform me (without_sink l source) st).state now
  without-leaves st source between made =
      subst (λ (p : Performed (Result PipeEnds PipeMakeError)). IsBetween l p.state now)
      (sym (perform-bind me (close_channel_plan l source) (λ _. Plan.reply (Err PipeMakeError.ChannelsSpent)) st))
      (closes-leave l st now me fit by between no_pipes source made)

  sink-leaves : (st : State) (source : ChanId) (a : Result ChanId ChannelError) → IsBetween l st now
      → IsMadeChannel st source → IsBetween l (perform me (with_sink l source a) st).state now
  sink-leaves st source (Ok sink) between made = between
  sink-leaves st source (Err ChannelError.ChannelsSpent) between made = without-leaves st source between made
  sink-leaves st source (Err ChannelError.IllegalOps) between made = without-leaves st source between made
  sink-leaves st source (Err ChannelError.ClosedChannel) between made = without-leaves st source between made
  sink-leaves st source (Err ChannelError.Busy) between made = without-leaves st source between made
  sink-leaves st source (Err ChannelError.IllegalBlockingMode) between made = without-leaves st source between made
  sink-leaves st source (Err ChannelError.CancelledKey) between made = without-leaves st source between made
  sink-leaves st source (Err ChannelError.ClosedSelector) between made = without-leaves st source between made
  sink-leaves st source (Err ChannelError.Full) between made = without-leaves st source between made

  source-leaves : (st : State) (a : Result ChanId ChannelError) → IsBetween l st now
      → ((c : ChanId) → a ≡ Ok c → IsMadeChannel st c) → IsBetween l (perform me (with_source l a) st).state now
  source-leaves st (Ok source) between made =
      let done = perform me (open_channel_plan l Sink) st in
      subst (λ (p : Performed (Result PipeEnds PipeMakeError)). IsBetween l p.state now)
      (sym (perform-bind me (open_channel_plan l Sink) (with_sink l source) st))
      (sink-leaves done.state source done.answer (opens-leave l st now me fit by between no_pipes Sink)
      (opens-keep l st now me fit by between no_pipes Sink source (made source refl)))
  source-leaves st (Err ChannelError.ChannelsSpent) between made = between
  source-leaves st (Err ChannelError.IllegalOps) between made = between
  source-leaves st (Err ChannelError.ClosedChannel) between made = between
  source-leaves st (Err ChannelError.Busy) between made = between
  source-leaves st (Err ChannelError.IllegalBlockingMode) between made = between
  source-leaves st (Err ChannelError.CancelledKey) between made = between
  source-leaves st (Err ChannelError.ClosedSelector) between made = between
  source-leaves st (Err ChannelError.Full) between made = between

  pub pipe-leaves : (st : State) (lacks : Bool) → IsBetween l st now
      → IsBetween l (perform me (pipe_plan l lacks) st).state now
  unfolding pipe_plan
  pipe-leaves st true between = between
  pipe-leaves st false between =
      let done = perform me (open_channel_plan l Source) st in
      subst (λ (p : Performed (Result PipeEnds PipeMakeError)). IsBetween l p.state now)
      (sym (perform-bind me (open_channel_plan l Source) (with_source l) st))
      (source-leaves done.state done.answer (opens-leave l st now me fit by between no_pipes Source)
      (opens-make l st now me fit by between no_pipes Source))
