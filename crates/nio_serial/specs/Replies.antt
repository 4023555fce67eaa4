-- The reply of a script's line to what a call on the table answers.
use Rattle.std.specs.Prelude.{ℕ, Bool, true, false, Option, Some, None, Result, Ok, Err, List, map}
use Rattle.nio_base.specs.declared.numbers.ChanId.{ChanId}
use Rattle.nio_base.specs.declared.numbers.KeyId.{KeyId}
use Rattle.nio_base.specs.declared.numbers.KeyNo.{KeyNo}
use Rattle.nio_base.specs.declared.numbers.SelNo.{SelNo}
use Rattle.nio_language.specs.declared.reply.Reply.{Reply}
use Rattle.nio_language.specs.declared.reply.Reply.TheVariants as reply
use Rattle.nio_plain.specs.Seq.Listing.{names_or_none}
use Rattle.nio_steps.specs.PipeCalls.{PipeEnds}
use Rattle.nio_steps.specs.SelectCalls.{Selection, ToldReply, done, again, ShutReply, closing, already_closed}
use Rattle.nio_steps.specs.SelectCalls.{FinishReply, closed, busy}
use Rattle.nio_steps.specs.declared.refusal.BeginError.{BeginError}
use Rattle.nio_steps.specs.declared.refusal.ChannelError.{ChannelError}
use Rattle.nio_steps.specs.declared.refusal.KeyError.{KeyError}
use Rattle.nio_steps.specs.declared.refusal.ListError.{ListError}
use Rattle.nio_steps.specs.declared.refusal.PipeError.{PipeError}
use Rattle.nio_steps.specs.declared.refusal.PipeMakeError.{PipeMakeError}
use Rattle.nio_steps.specs.declared.refusal.SelectorsSpent.{SelectorsSpent}
use Rattle.nio_serial.specs.Documented.{shown}

-- ---- refusals

abbrev pub key_refusal : KeyError → Reply
key_refusal KeyError.CancelledKey = reply.CancelledKey
key_refusal KeyError.IllegalOps = reply.IllegalOps

abbrev pub channel_refusal : ChannelError → Reply
channel_refusal ChannelError.ChannelsSpent = reply.ChannelsSpent
channel_refusal ChannelError.IllegalOps = reply.IllegalOps
channel_refusal ChannelError.ClosedChannel = reply.ClosedChannel
channel_refusal ChannelError.Busy = reply.Busy
channel_refusal ChannelError.IllegalBlockingMode = reply.IllegalBlockingMode
channel_refusal ChannelError.CancelledKey = reply.CancelledKey
channel_refusal ChannelError.ClosedSelector = reply.ClosedSelector
channel_refusal ChannelError.Full = reply.Full

abbrev pub pipe_refusal : PipeError → Reply
pipe_refusal PipeError.ClosedChannel = reply.ClosedChannel
pipe_refusal PipeError.ClosedByInterrupt = reply.ClosedByInterrupt
pipe_refusal PipeError.AsynchronousClose = reply.AsyncClose
pipe_refusal PipeError.BrokenPipe = reply.BrokenPipe

-- Want of memory has no reply. The plans of lines are those of calls that have memory, and never answer it.

abbrev pub begin_refusal : BeginError → Reply
begin_refusal BeginError.ClosedSelector = reply.ClosedSelector
begin_refusal BeginError.Busy = reply.Busy
begin_refusal BeginError.Memory = reply.Busy

abbrev pub list_refusal : ListError → Reply
list_refusal ListError.ClosedSelector = reply.ClosedSelector
list_refusal ListError.Memory = reply.Busy

abbrev pub make_refusal : PipeMakeError → Reply
make_refusal PipeMakeError.ChannelsSpent = reply.ChannelsSpent
make_refusal PipeMakeError.Memory = reply.ChannelsSpent

-- ---- keys

abbrev pub key_id : KeyNo → KeyId
key_id k = record { index = k.index; serial = k.serial }

abbrev pub set_reply : Result ℕ KeyError → Reply
set_reply (Ok ops) = reply.Number ops
set_reply (Err refusal) = key_refusal refusal

abbrev pub put_reply : Result (Unit {0}) KeyError → Reply
put_reply (Ok _) = reply.«Ok»
put_reply (Err refusal) = key_refusal refusal

abbrev pub find_reply : Option KeyNo → Reply
find_reply None = reply.None
find_reply (Some k) = reply.Key (key_id k)

-- ---- channels

abbrev pub channel_reply : Result ChanId ChannelError → Reply
channel_reply (Ok c) = reply.Channel c
channel_reply (Err refusal) = channel_refusal refusal

abbrev pub mode_reply : Result (Unit {0}) ChannelError → Reply
mode_reply (Ok _) = reply.«Ok»
mode_reply (Err refusal) = channel_refusal refusal

abbrev pub register_reply : Result KeyNo ChannelError → Reply
register_reply (Ok k) = reply.Key (key_id k)
register_reply (Err refusal) = channel_refusal refusal

-- whether the call closed it
abbrev pub closed_reply : Bool → Reply
closed_reply true = reply.«Ok»
closed_reply false = reply.Already

abbrev pub ends_reply : Result PipeEnds PipeMakeError → Reply
ends_reply (Ok ends) = reply.Ends ends.source ends.sink
ends_reply (Err refusal) = make_refusal refusal

-- ---- selectors

abbrev pub selector_reply : Result SelNo SelectorsSpent → Reply
selector_reply (Ok s) = reply.Selector s
selector_reply (Err _) = reply.SelectorsSpent

abbrev pub begin_reply : Result Selection BeginError → Reply
begin_reply (Ok x) = reply.Looked (shown x).looked
begin_reply (Err refusal) = begin_refusal refusal

abbrev pub told_reply : ToldReply → Reply
told_reply (done answer) = reply.Selected answer.count answer.why
told_reply (again x) = reply.Again

abbrev pub shut_reply : ShutReply → Reply
shut_reply closing = reply.Closing
shut_reply already_closed = reply.Already

abbrev pub finish_reply : FinishReply → Reply
finish_reply closed = reply.Closed
finish_reply busy = reply.Busy

abbrev pub list_reply : Result (List KeyNo) ListError → Reply
list_reply (Ok keys) = names_or_none (map key_id keys)
list_reply (Err refusal) = list_refusal refusal
