-- What a call may change: a call refuses or only tells, or it makes the one change of its word. So a fact of all
-- calls is shown once for each change.
use Rattle.std.proofs.Common.{◌≡◌, ℕ, ◌<◌, ◌==◌, Bool, true, false, not, ◌&&◌, ◌||◌, Option, Some, None, is_some}
use Rattle.std.proofs.Common.{List, [], ◌∷◌, ◌++◌, take, drop, bit_and, bit_or}
use Rattle.nio_base.specs.declared.kind.Kind.{Kind}
use Rattle.nio_base.specs.declared.kind.Kind.TheVariants.{Sink, Source}
use Rattle.nio_base.specs.declared.limits.Limits.{Limits}
use Rattle.nio_base.specs.declared.numbers.CallerNo.{CallerNo}
use Rattle.nio_base.specs.declared.numbers.ChanId.{ChanId}
use Rattle.nio_base.specs.declared.numbers.KeyId.{KeyId}
use Rattle.nio_base.specs.declared.numbers.SelNo.{SelNo}
use Rattle.nio_group.specs.Run as step
use Rattle.nio_group.specs.Run.{IsCallOf}
use Rattle.nio_history.specs.Sets.{is_open_channel, was_opened}
use Rattle.nio_history.specs.State.{with_interrupted, with_chan, with_gate, with_key, with_interest, with_mark}
use Rattle.nio_history.specs.State.{with_note, with_closer, with_entered}
use Rattle.nio_history.specs.declared.found.Mode.{Mode}
use Rattle.nio_history.specs.declared.why.Why.{Why}
use Rattle.nio_language.specs.declared.call.Call.{Call}
use Rattle.nio_language.specs.declared.call.Call.TheVariants as call
use Rattle.nio_language.specs.declared.call.Waiting.{Waiting}
use Rattle.nio_language.specs.declared.group_call.GroupCall.{GroupCall}
use Rattle.nio_language.specs.declared.group_call.GroupCall.TheVariants as asked
use Rattle.nio_language.specs.declared.reply.Reply.{Reply}
use Rattle.nio_language.specs.declared.reply.Reply.TheVariants as reply
use Rattle.nio_plain.specs.ScriptState.{ScriptState, Selection, with_shared, with_selection}
use Rattle.nio_plain.specs.Seq.Replies.{Replied, unchanged, replied, yes_or_no}
use Rattle.nio_plain.specs.Seq.Cancelling.{channel_closed, cancelled_in_set}
use Rattle.nio_plain.specs.Seq.Closing.{without_keys}
use Rattle.nio_plain.specs.Seq.Grouping.{lacks_a_number, replied_by_group, stepped}
use Rattle.nio_plain.specs.Seq.Modes.{has_key, key_of}
use Rattle.nio_plain.specs.Seq.Opening.{channel_made, next_channel, selector_made, with_new_channel}
use Rattle.nio_plain.specs.Seq.Pipes.{own_source, own_sink, pipe_at, with_pipe, sealing}
use Rattle.nio_plain.specs.Seq.Piping.{room_for, with_sink}
use Rattle.nio_plain.specs.Seq.Registering.{next_key, with_new_key}
use Rattle.nio_plain.specs.Seq.Removing.{unselected}
use Rattle.nio_plain.specs.Seq.Selections.{selection_begun, selection_ended, own_selection, left_selection}
use Rattle.nio_plain.specs.declared.rules.Rules.{Rules}

-- a selection that ended in a `told`
abbrev pub told_ended : Rules → ScriptState → ℕ → List (KeyId × ℕ) → Selection → ℕ → Why → Replied
told_ended rules st s pairs selection count why = record {
  reply = reply.Selected count why;
  left = with_selection (with_shared st (selection_ended rules st.shared s selection pairs)) s None;
}

-- so many of the bytes went into the pipe at the place
abbrev pub written : ScriptState → List ℕ → ℕ → ℕ → Replied
written st bytes i n = record {
  reply = reply.Number n;
  left = with_pipe st i (record (pipe_at st.pipes i) { waiting = (pipe_at st.pipes i).waiting ++ take n bytes });
}

-- the step of the group that a call makes; the two that only ask make none
abbrev pub step_of : GroupCall → Option step.Call
step_of (asked.Gopen kind) = Some (step.open_channel kind)
step_of (asked.Gbind g) = Some (step.bind g)
step_of (asked.Start g kind len) = Some (step.start g kind len)
step_of (asked.Report n outcome) = Some (step.report n outcome)
step_of asked.Take = Some step.take
step_of (asked.Done n) = Some (step.finish n)
step_of (asked.Gclose g) = Some (step.close_channel g)
step_of asked.Shutdown = Some step.shutdown
step_of asked.ShutdownNow = Some step.shutdown_now
step_of asked.IsShutdown = None
step_of asked.Terminated = None

-- a call whose caller may leave the seal of its sink
abbrev may_seal : Call → Bool
may_seal (call.Closec c) = true
may_seal (call.Pwrite c bytes) = true
may_seal _ = false

-- the replies of calls that change nothing; some of them are also those of calls that do
abbrev pub may_keep : Call → Reply → Bool
may_keep c (reply.Selector s) = false
may_keep c (reply.Channel k) = false
may_keep c (reply.Number n) = not (may_seal c) || (n == 0)
may_keep c (reply.Looked pairs) = false
may_keep c (reply.Selected count why) = false
may_keep c reply.«Ok» = false
may_keep c reply.Left = false
may_keep c reply.Already = not (may_seal c)
may_keep c reply.Closing = false
may_keep c reply.Closed = false
may_keep c reply.ClosedChannel = not (may_seal c)
may_keep c (reply.Ends source sink) = false
may_keep c (reply.Bytes bytes) = false
may_keep c reply.End = false
may_keep c reply.ClosedByInterrupt = false
may_keep c reply.AsyncClose = false
may_keep c _ = true

-- a registration of a channel that has no key in the selector, with this new one
pub record MayRegister (l : Limits) (st : ScriptState) (s c : ℕ) (k : KeyId) : Type 0 where
  pub next : next_key l st.shared s ≡ Some k
  pub none : key_of st.shared c s ≡ None
  pub selector : st.shared.selector s ≡ true
  pub not_shut : (st.shared.gate s).shut ≡ false
  pub made : (st.shared.chan c).made ≡ true
  pub is_open : (st.shared.chan c).closed ≡ false
  pub non_blocking : (st.shared.chan c).blocking ≡ false

-- the channel is the source, or the sink, of the pipe at the place, and the caller's own
pub record IsOwnSource (st : ScriptState) (me : CallerNo) (c : ChanId) (i : ℕ) : Type 0 where
  pub opened : was_opened (st.shared.chan c.number.0) c.serial ≡ true
  pub own : own_source st.pipes me c ≡ Some i

pub record IsOwnSink (st : ScriptState) (me : CallerNo) (c : ChanId) (i : ℕ) : Type 0 where
  pub opened : was_opened (st.shared.chan c.number.0) c.serial ≡ true
  pub own : own_sink st.pipes me c ≡ Some i

-- a call, and what it replies and leaves
pub data Change (rules : Rules) (l : Limits) (st : ScriptState) (me : CallerNo) : Call → Replied → Type 0 where
  nothing : (c : Call) (r : Reply) → may_keep c r ≡ true → Change rules l st me c (unchanged st r)
  selector : (s : ℕ) → s < l.selectors → Change rules l st me call.Selector (selector_made st (Some s))
  channel : (kind : Kind) (c : ChanId) → next_channel rules l st.shared kind ≡ Some c
      → Change rules l st me (call.Channel kind) (channel_made st kind (Some c))
  blocking : (c : ChanId) (on : Bool) → is_open_channel (st.shared.chan c.number.0) c.serial ≡ true
      → (on && has_key l st.shared c.number.0) ≡ false
      → Change rules l st me (call.Blocking c on)
      (replied st reply.«Ok»
      (with_chan st.shared c.number.0 (record (st.shared.chan c.number.0) { blocking = on })))
  register : (s : SelNo) (c : ChanId) (ops : ℕ) (att : Option ℕ) (k : KeyId) (note : ℕ)
      → MayRegister l st s.0 c.number.0 k
      → Change rules l st me (call.Register s c ops att)
      (replied st (reply.Key k) (with_new_key st.shared s.0 c.number.0 k ops note))
  register_again : (s : SelNo) (c : ChanId) (ops : ℕ) (att : Option ℕ) (k : KeyId) (note : ℕ)
      → Change rules l st me (call.Register s c ops att)
      (replied st (reply.Key k) (with_note (with_interest st.shared s.0 k.index ops) s.0 k.index note))
  closec : (c : ChanId) → is_open_channel (st.shared.chan c.number.0) c.serial ≡ true
      → Change rules l st me (call.Closec c)
      (sealing (own_sink st.pipes me c) (replied st reply.«Ok» (channel_closed st.shared c.number.0)))
  closec_again : (c : ChanId) → was_opened (st.shared.chan c.number.0) c.serial ≡ true
      → is_open_channel (st.shared.chan c.number.0) c.serial ≡ false
      → Change rules l st me (call.Closec c) (sealing (own_sink st.pipes me c) (unchanged st reply.Already))
  cancel : (s : SelNo) (k : KeyId)
      → Change rules l st me (call.Cancel s k)
      (replied st reply.«Ok»
      (with_key st.shared s.0 k.index (cancelled_in_set (st.shared.key s.0 k.index) k.serial)))
  iset : (s : SelNo) (k : KeyId) (ops : ℕ)
      → Change rules l st me (call.Iset s k ops) (replied st reply.«Ok» (with_interest st.shared s.0 k.index ops))
  ior : (s : SelNo) (k : KeyId) (ops : ℕ)
      → Change rules l st me (call.Ior s k ops)
      (replied st (reply.Number (st.shared.interest s.0 k.index))
      (with_interest st.shared s.0 k.index (bit_or (st.shared.interest s.0 k.index) ops)))
  iand : (s : SelNo) (k : KeyId) (ops : ℕ)
      → Change rules l st me (call.Iand s k ops)
      (replied st (reply.Number (st.shared.interest s.0 k.index))
      (with_interest st.shared s.0 k.index (bit_and (st.shared.interest s.0 k.index) ops)))
  unselect : (s : SelNo) (k : KeyId)
      → Change rules l st me (call.Unselect s k)
      (replied st reply.Yes (with_mark st.shared s.0 k.index (unselected (st.shared.mark s.0 k.index))))
  attach : (s : SelNo) (k : KeyId) (att : ℕ)
      → Change rules l st me (call.Attach s k att)
      (replied st (reply.Number (st.shared.note s.0 k.index)) (with_note st.shared s.0 k.index att))
  begin : (s : SelNo) (waiting : Waiting) (how : Mode) → is_some (st.shared.turn s.0) ≡ false
      → Change rules l st me (call.Begin s waiting) (selection_begun rules st me s.0 how)
  told : (s : SelNo) (elapsed : Bool) (pairs : List (KeyId × ℕ)) (selection : Selection) (count : ℕ) (why : Why)
      → own_selection st me s.0 ≡ Some selection
      → Change rules l st me (call.Told s elapsed pairs) (told_ended rules st s.0 pairs selection count why)
  failed : (s : SelNo) (selection : Selection) → own_selection st me s.0 ≡ Some selection
      → Change rules l st me (call.Failed s) (left_selection st s.0 (Some selection))
  wakeup : (s : SelNo)
      → Change rules l st me (call.Wakeup s)
      (replied st reply.«Ok» (with_gate st.shared s.0 (record (st.shared.gate s.0) { woken = true })))
  close : (s : SelNo)
      → Change rules l st me (call.Close s)
      (replied st reply.Closing
      (with_closer (with_gate st.shared s.0 (record (st.shared.gate s.0) { shut = true })) s.0 (Some me)))
  close_end : (s : SelNo) → is_some (st.shared.closer s.0) ≡ true → is_some (st.shared.turn s.0) ≡ false
      → Change rules l st me (call.CloseEnd s)
      (replied st reply.Closed (with_entered (without_keys st.shared s.0) s.0 true))
  interrupt : (target : CallerNo)
      → Change rules l st me (call.Interrupt target) (replied st reply.«Ok» (with_interrupted st.shared target.0 true))
  pipe : (target : CallerNo) (source sink : ChanId) → target.0 < l.callers
      → next_channel rules l st.shared Source ≡ Some source
      → next_channel rules l (with_new_channel st.shared Source source) Sink ≡ Some sink
      → Change rules l st me (call.Pipe target)
      (with_sink (channel_made st Source (Some source)).left me target source (Some sink))
  pipe_spent : (target : CallerNo) (source : ChanId) → next_channel rules l st.shared Source ≡ Some source
      → Change rules l st me (call.Pipe target)
      (with_sink (channel_made st Source (Some source)).left me target source None)
  pread : (c : ChanId) (n i b : ℕ) (bytes : List ℕ) → IsOwnSource st me c i
      → (pipe_at st.pipes i).waiting ≡ b ∷ bytes
      → Change rules l st me (call.Pread c n)
      (record {
        reply = reply.Bytes (take n (b ∷ bytes));
        left =
            with_pipe st i (record (pipe_at st.pipes i) { waiting = drop n (b ∷ bytes) });
      })
  pread_end : (c : ChanId) (n i : ℕ) → IsOwnSource st me c i → (pipe_at st.pipes i).waiting ≡ []
      → (pipe_at st.pipes i).sealed ≡ true → Change rules l st me (call.Pread c n) (unchanged st reply.End)
  pread_interrupted : (c : ChanId) (n : ℕ) → is_open_channel (st.shared.chan c.number.0) c.serial ≡ true
      → Change rules l st me (call.Pread c n)
      (replied st reply.ClosedByInterrupt (channel_closed st.shared c.number.0))
  pwrite : (c : ChanId) (bytes : List ℕ) (i : ℕ) → IsOwnSink st me c i
      → is_open_channel (st.shared.chan c.number.0) c.serial ≡ true
      → Change rules l st me (call.Pwrite c bytes) (written st bytes i (room_for bytes (pipe_at st.pipes i)))
  pwrite_closed : (c : ChanId) (bytes : List ℕ) (i : ℕ) → IsOwnSink st me c i
      → is_open_channel (st.shared.chan c.number.0) c.serial ≡ false
      → Change rules l st me (call.Pwrite c bytes) (sealing (Some i) (unchanged st reply.ClosedChannel))
  pwrite_interrupted : (c : ChanId) (bytes : List ℕ) (i : ℕ) → IsOwnSink st me c i
      → is_open_channel (st.shared.chan c.number.0) c.serial ≡ true
      → Change rules l st me (call.Pwrite c bytes)
      (sealing (Some i) (replied st reply.ClosedByInterrupt (channel_closed st.shared c.number.0)))
  group : (g : GroupCall) (s : step.Call) → step_of g ≡ Some s → lacks_a_number rules st.group g ≡ false
      → IsCallOf st.group s → Change rules l st me (call.Group g) (replied_by_group st (stepped st.group s))
  interrupted : Change rules l st me call.Interrupted
      (replied st (yes_or_no (st.shared.interrupted me.0)) (with_interrupted st.shared me.0 false))
