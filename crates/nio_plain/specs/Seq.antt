-- The documented system: the sequential selector, as the specification of java.nio.channels says it.
-- Each call has one reply and leaves one state, over whole sets of keys and without steps. What a call
-- does stands with its subject, in the files of Seq/; here each call word finds its own.
--
-- A refusal changes nothing, but for some calls on pipes. Refusals are tested in the order in which they
-- stand: first the caller, then the names of the line, then the call's own.
--
-- It replies by one of two rules. They differ in four words: `comes_back`, which only the beginning and the end of a
-- selection cite, `number_comes_back`, which only the opening of a channel and of a pipe cites, `goes_at_end`, which
-- only the end of a selection cites, and `lacks_a_number`, which only `group_call` cites.
pub mod Replies
pub mod Names
pub mod Pipes
pub mod Opening
pub mod Modes
pub mod Removing
pub mod Registering
pub mod Cancelling
pub mod Keys
pub mod Selections
pub mod Wakeups
pub mod Closing
pub mod Listing
pub mod Grouping
pub mod Piping
use Rattle.std.specs.Prelude.{nat_lt, if◌then◌else◌}
use Rattle.nio_base.specs.declared.limits.Limits.{Limits}
use Rattle.nio_base.specs.declared.numbers.CallerNo.{CallerNo}
use Rattle.nio_language.specs.declared.call.Call.{Call}
use Rattle.nio_language.specs.declared.call.Call.TheVariants as call
use Rattle.nio_language.specs.declared.reply.Reply.TheVariants as reply
use Rattle.nio_plain.specs.ScriptState.{ScriptState}
use Rattle.nio_plain.specs.Seq.Replies.{Replied, unchanged}
use Rattle.nio_plain.specs.Seq.Cancelling.{closec_call, cancel_call}
use Rattle.nio_plain.specs.Seq.Closing.{close_call, close_end_call}
use Rattle.nio_plain.specs.Seq.Grouping.{group_call}
use Rattle.nio_plain.specs.Seq.Keys.{valid_call, interest_call, ready_call, iset_call, ior_call, iand_call}
use Rattle.nio_plain.specs.Seq.Keys.{unselect_call, attach_call, attachment_call}
use Rattle.nio_plain.specs.Seq.Listing.{keys_call, selected_call}
use Rattle.nio_plain.specs.Seq.Modes.{blocking_call, is_blocking_call, is_open_call, is_registered_call, key_for_call}
use Rattle.nio_plain.specs.Seq.Opening.{selector_call, channel_call}
use Rattle.nio_plain.specs.Seq.Piping.{pipe_call, pread_call, pwrite_call}
use Rattle.nio_plain.specs.Seq.Registering.{register_call}
use Rattle.nio_plain.specs.Seq.Selections.{begin_call, told_call, failed_call}
use Rattle.nio_plain.specs.Seq.Wakeups.{wakeup_call, interrupt_call, interrupted_call}
use Rattle.nio_plain.specs.declared.rules.Rules.{Rules}

-- every call, by its word
unfoldable pub call_of : Rules → Limits → ScriptState → CallerNo → Call → Replied
call_of rules l st me call.Selector = selector_call l st
call_of rules l st me (call.Channel kind) = channel_call rules l st kind
call_of rules l st me (call.Blocking c on) = blocking_call l st c on
call_of rules l st me (call.IsBlocking c) = is_blocking_call st c
call_of rules l st me (call.IsOpen c) = is_open_call st c
call_of rules l st me (call.IsRegistered c) = is_registered_call l st c
call_of rules l st me (call.KeyFor c s) = key_for_call st c s
call_of rules l st me (call.Register s c ops att) = register_call l st s c ops att
call_of rules l st me (call.Closec c) = closec_call st me c
call_of rules l st me (call.Valid s k) = valid_call st s k
call_of rules l st me (call.Interest s k) = interest_call st s k
call_of rules l st me (call.Ready s k) = ready_call st s k
call_of rules l st me (call.Iset s k ops) = iset_call st s k ops
call_of rules l st me (call.Ior s k ops) = ior_call st s k ops
call_of rules l st me (call.Iand s k ops) = iand_call st s k ops
call_of rules l st me (call.Cancel s k) = cancel_call st s k
call_of rules l st me (call.Unselect s k) = unselect_call st s k
call_of rules l st me (call.Attach s k att) = attach_call st s k att
call_of rules l st me (call.Attachment s k) = attachment_call st s k
call_of rules l st me (call.Begin s waiting) = begin_call rules st me s waiting
call_of rules l st me (call.Told s elapsed pairs) = told_call rules st me s elapsed pairs
call_of rules l st me (call.Failed s) = failed_call st me s
call_of rules l st me (call.Wakeup s) = wakeup_call st s
call_of rules l st me (call.Close s) = close_call st me s
call_of rules l st me (call.CloseEnd s) = close_end_call st me s
call_of rules l st me (call.Keys s) = keys_call st s
call_of rules l st me (call.Selected s) = selected_call st s
call_of rules l st me (call.Interrupt target) = interrupt_call l st target
call_of rules l st me call.Interrupted = interrupted_call st me
call_of rules l st me (call.Pipe target) = pipe_call rules l st me target
call_of rules l st me (call.Pwrite c bytes) = pwrite_call st me c bytes
call_of rules l st me (call.Pread c n) = pread_call st me c n
call_of rules l st me (call.Group g) = group_call rules st g

unfoldable pub seq : Rules → Limits → ScriptState → CallerNo → Call → Replied
seq rules l st me call =
    if nat_lt me.0 l.callers then call_of rules l st me call else unchanged st reply.NoCaller
