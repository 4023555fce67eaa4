-- The number of each status, and which status says what a call refuses.
use Rattle.std.specs.Prelude.{ℕ, Bool, true, false, Result, Ok, Err}
use Rattle.nio_caller.specs.declared.refusal.CallError.{CallError}
use Rattle.nio_caller.specs.declared.refusal.CallError.TheVariants as call
use Rattle.nio_caller.specs.declared.refusal.NotSelecting.{NotSelecting}
use Rattle.nio_caller.specs.declared.refusal.SplitError.{SplitError}
use Rattle.nio_caller.specs.declared.refusal.SplitError.TheVariants as split
use Rattle.nio_steps.specs.declared.refusal.BeginError.{BeginError}
use Rattle.nio_steps.specs.declared.refusal.BeginError.TheVariants as begin
use Rattle.nio_steps.specs.declared.refusal.ChannelError.{ChannelError}
use Rattle.nio_steps.specs.declared.refusal.ChannelError.TheVariants as channel
use Rattle.nio_steps.specs.declared.refusal.KeyError.{KeyError}
use Rattle.nio_steps.specs.declared.refusal.KeyError.TheVariants as key
use Rattle.nio_steps.specs.declared.refusal.ListError.{ListError}
use Rattle.nio_steps.specs.declared.refusal.ListError.TheVariants as list
use Rattle.nio_steps.specs.declared.refusal.ReopenError.{ReopenError}
use Rattle.nio_steps.specs.declared.refusal.ReopenError.TheVariants as reopen
use Rattle.nio_steps.specs.declared.refusal.SelectorsSpent.{SelectorsSpent}
use Rattle.nio_c.specs.declared.leaving.TakeBackError.{TakeBackError}
use Rattle.nio_c.specs.declared.leaving.TakeBackError.TheVariants as take_back
use Rattle.nio_c.specs.declared.status.Status.{Status}
use Rattle.nio_c.specs.declared.status.Status.TheVariants as status

abbrev pub code : Status → ℕ
code status.Done = 0
code status.Again = 1
code status.EmptyHandle = 2
code status.FullHandle = 3
code status.NoMemory = 4
code status.NoRoom = 5
code status.IllegalArgument = 6
code status.NotHeld = 7
code status.NoSuchSelector = 8
code status.NoSuchChannel = 9
code status.NoSuchKey = 10
code status.NoSuchCaller = 11
code status.Busy = 12
code status.Spent = 13
code status.IllegalOps = 14
code status.ClosedChannel = 15
code status.IllegalBlockingMode = 16
code status.CancelledKey = 17
code status.ClosedSelector = 18
code status.SelectorFull = 19
code status.NotSelecting = 20
code status.NotClosing = 21
code status.Lost = 22
code status.Open = 23
code status.SerialsSpent = 24
code status.Registered = 25

-- ---- refusals

abbrev pub key_refusal : KeyError → Status
key_refusal key.CancelledKey = status.CancelledKey
key_refusal key.IllegalOps = status.IllegalOps

abbrev pub channel_refusal : ChannelError → Status
channel_refusal channel.ChannelsSpent = status.Spent
channel_refusal channel.IllegalOps = status.IllegalOps
channel_refusal channel.ClosedChannel = status.ClosedChannel
channel_refusal channel.Busy = status.Busy
channel_refusal channel.IllegalBlockingMode = status.IllegalBlockingMode
channel_refusal channel.CancelledKey = status.CancelledKey
channel_refusal channel.ClosedSelector = status.ClosedSelector
channel_refusal channel.Full = status.SelectorFull

abbrev pub reopen_refusal : ReopenError → Status
reopen_refusal reopen.Lost = status.Lost
reopen_refusal reopen.Open = status.Open
reopen_refusal reopen.SerialsSpent = status.SerialsSpent
reopen_refusal reopen.Busy = status.Busy
reopen_refusal reopen.Registered = status.Registered

abbrev pub begin_refusal : BeginError → Status
begin_refusal begin.ClosedSelector = status.ClosedSelector
begin_refusal begin.Busy = status.Busy
begin_refusal begin.Memory = status.NoMemory

abbrev pub list_refusal : ListError → Status
list_refusal list.ClosedSelector = status.ClosedSelector
list_refusal list.Memory = status.NoMemory

abbrev pub split_refusal : SplitError → Status
split_refusal split.NotHeld = status.NotHeld
split_refusal split.NoHandle = status.NoMemory

abbrev pub take_back_refusal : TakeBackError → Status
take_back_refusal take_back.NoneLeft = status.Spent
take_back_refusal take_back.Memory = status.NoMemory

abbrev pub spent_refusal : SelectorsSpent → Status
spent_refusal spent = status.Spent

abbrev pub selecting_refusal : NotSelecting → Status
selecting_refusal error = status.NotSelecting

-- a name that was never made, or what the call itself refuses
abbrev pub call_refusal : {E : Type 0} → (E → Status) → CallError E → Status
call_refusal refusal call.NoSuchSelector = status.NoSuchSelector
call_refusal refusal call.NoSuchChannel = status.NoSuchChannel
call_refusal refusal call.NoSuchKey = status.NoSuchKey
call_refusal refusal (call.Refused error) = refusal error

-- ---- answers

-- the call may refuse
abbrev pub status_of : {A E : Type 0} → (E → Status) → Result A E → Status
status_of refusal (Ok value) = status.Done
status_of refusal (Err error) = refusal error

-- the call says whether it found what was named
abbrev pub status_found : Status → Bool → Status
status_found missing true = status.Done
status_found missing false = missing

-- the call always succeeds
abbrev pub done : {A : Type 0} → A → Status
done answer = status.Done
