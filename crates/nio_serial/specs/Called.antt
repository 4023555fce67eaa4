-- Which call of the documented system a call on the table is: its word with what it was given, and its reply.
use Rattle.std.specs.Prelude.{pos, suc, Bool, false, Some, ⊤, List, [], ◌∷◌}
use Rattle.nio_base.specs.declared.limits.Limits.{Limits}
use Rattle.nio_history.specs.Conditions.{IsCaller}
use Rattle.nio_history.specs.State.{State}
use Rattle.nio_history.specs.declared.found.Mode.{Mode}
use Rattle.nio_language.specs.declared.call.Call.{Call}
use Rattle.nio_language.specs.declared.call.Call.TheVariants as call
use Rattle.nio_language.specs.declared.call.Waiting.{Waiting}
use Rattle.nio_language.specs.declared.call.Waiting.TheVariants as waiting
use Rattle.nio_language.specs.declared.reply.Reply.{Reply}
use Rattle.nio_language.specs.declared.reply.Reply.TheVariants as reply
use Rattle.nio_orderly.specs.Made.{Made, draw, table_call, waiting_call}
use Rattle.nio_orderly.specs.Orderly.{MadeBy}
use Rattle.nio_plain.specs.Seq.Replies.{yes_or_no}
use Rattle.nio_serial.specs.Laws.{IsMadeSelector, IsMadeChannel, IsMadeKey, by_key}
use Rattle.nio_serial.specs.Replies.{key_id, find_reply, set_reply, put_reply, channel_reply, mode_reply}
use Rattle.nio_serial.specs.Replies.{register_reply, closed_reply, selector_reply, begin_reply, told_reply, shut_reply}
use Rattle.nio_serial.specs.Replies.{finish_reply, list_reply}
use Rattle.nio_steps.specs.TableCalls.{Name, the_selector, the_channel, the_key, row_of, wait_row_of, find_selector}
use Rattle.nio_steps.specs.TableCalls.{find_channel, find, is_valid, interest, set_interest, interest_or, interest_and}
use Rattle.nio_steps.specs.TableCalls.{ready, cancel, unselect, attach, attachment, open_channel, reopen_channel}
use Rattle.nio_steps.specs.TableCalls.{is_open, is_blocking, is_registered, key_for, try_set_blocking, try_register}
use Rattle.nio_steps.specs.TableCalls.{close_channel}
use Rattle.nio_steps.specs.TableCalls.{open_selector, take_list, try_begin, told, leave, shut, try_finish, keys, selected_keys}
use Rattle.nio_steps.specs.TableCalls.{wakeup, interrupt, interrupted, pipe, try_read, try_write, set_blocking}
use Rattle.nio_steps.specs.TableCalls.{register, select, close, read, write}

-- ---- the documented call

-- what the documented system has for a call on the table
pub data Scripted : Type 0 where
  -- this call, with this reply
  as_call : Call → Reply → Scripted
  -- nothing: the call draws, only looks a name up, or takes a selector's list
  unseen : Scripted
  -- no call: it opens a closed number again, it is on a pipe, or it is a whole selection or closing, which is several
  -- calls
  unscripted : Scripted

-- how long a selection waits, as a line says it
abbrev pub waiting_of : Mode → Waiting
waiting_of Mode.Now = waiting.Now
waiting_of Mode.Wait = waiting.Wait
waiting_of (Mode.For ms) = waiting.For (pos (suc ms.after_the_first))

abbrev pub script_call : Made → Scripted
script_call (draw n) = unseen
script_call (table_call (find_selector n) answer) = unseen
script_call (table_call (find_channel n serial) answer) = unseen
script_call (table_call (find s i serial) answer) = unseen
script_call (table_call (is_valid k) answer) = as_call (call.Valid k.sel (key_id k)) (yes_or_no answer)
script_call (table_call (interest k) answer) = as_call (call.Interest k.sel (key_id k)) (set_reply answer)
script_call (table_call (set_interest k ops) answer) = as_call (call.Iset k.sel (key_id k) ops) (put_reply answer)
script_call (table_call (interest_or k ops) answer) = as_call (call.Ior k.sel (key_id k) ops) (set_reply answer)
script_call (table_call (interest_and k ops) answer) = as_call (call.Iand k.sel (key_id k) ops) (set_reply answer)
script_call (table_call (ready k) answer) = as_call (call.Ready k.sel (key_id k)) (set_reply answer)
script_call (table_call (cancel k) answer) = as_call (call.Cancel k.sel (key_id k)) reply.«Ok»
script_call (table_call (unselect k) answer) = as_call (call.Unselect k.sel (key_id k)) (yes_or_no answer)
script_call (table_call (attach k att) answer) = as_call (call.Attach k.sel (key_id k) att) (reply.Number answer)
script_call (table_call (attachment k) answer) = as_call (call.Attachment k.sel (key_id k)) (reply.Number answer)
script_call (table_call (open_channel kind) answer) = as_call (call.Channel kind) (channel_reply answer)
script_call (table_call (reopen_channel c) answer) = unscripted
script_call (table_call (is_open c) answer) = as_call (call.IsOpen c) (yes_or_no answer)
script_call (table_call (is_blocking c) answer) = as_call (call.IsBlocking c) (yes_or_no answer)
script_call (table_call (is_registered c) answer) = as_call (call.IsRegistered c) (yes_or_no answer)
script_call (table_call (key_for c s) answer) = as_call (call.KeyFor c s) (find_reply answer)
script_call (table_call (try_set_blocking c on) answer) = as_call (call.Blocking c on) (mode_reply answer)
script_call (table_call (try_register s c ops att) answer) =
    as_call (call.Register s c ops (Some att)) (register_reply answer)
script_call (table_call (close_channel c) answer) = as_call (call.Closec c) (closed_reply answer)
script_call (table_call open_selector answer) = as_call call.Selector (selector_reply answer)
script_call (table_call (take_list s) answer) = unseen
-- with the selector's list or without it
script_call (table_call (try_begin s mode known) answer) = as_call (call.Begin s (waiting_of mode)) (begin_reply answer)
script_call (table_call (told selection poll) answer) =
    as_call (call.Told selection.selector poll.elapsed (by_key selection poll.pairs)) (told_reply answer)
script_call (table_call (leave selection) answer) = as_call (call.Failed selection.selector) reply.Left
script_call (table_call (shut s) answer) = as_call (call.Close s) (shut_reply answer)
script_call (table_call (try_finish s) answer) = as_call (call.CloseEnd s) (finish_reply answer)
script_call (table_call (keys s) answer) = as_call (call.Keys s) (list_reply answer)
script_call (table_call (selected_keys s) answer) = as_call (call.Selected s) (list_reply answer)
script_call (table_call (wakeup s) answer) = as_call (call.Wakeup s) reply.«Ok»
script_call (table_call (interrupt n) answer) = as_call (call.Interrupt n) reply.«Ok»
script_call (table_call interrupted answer) = as_call call.Interrupted (yes_or_no answer)
script_call (table_call pipe answer) = unscripted
script_call (table_call (try_read source) answer) = unscripted
script_call (table_call (try_write source sink) answer) = unscripted
script_call (waiting_call (set_blocking c on) answer) = as_call (call.Blocking c on) (mode_reply answer)
script_call (waiting_call (register s c ops att) answer) =
    as_call (call.Register s c ops (Some att)) (register_reply answer)
script_call (waiting_call (select s mode known polls) outcome) = unscripted
script_call (waiting_call (close s) answer) = unscripted
script_call (waiting_call (read source none) answer) = unscripted
script_call (waiting_call (write source sink none) answer) = unscripted

-- the call's reply is that there was no memory
abbrev pub lacks_memory : Made → Bool
lacks_memory (draw n) = false
lacks_memory (table_call call answer) = (row_of call).lacks_memory answer
lacks_memory (waiting_call call answer) = (wait_row_of call).lacks_memory answer

-- ---- the names of a call

-- the selector is made, the channel was opened, or the key was published
abbrev pub IsPresent : State → Name → Type 0
IsPresent st (the_selector s) = IsMadeSelector st s
IsPresent st (the_channel c) = IsMadeChannel st c
IsPresent st (the_key k) = IsMadeKey st k.sel (key_id k)

abbrev pub ArePresent : State → List Name → Type 0
ArePresent st [] = ⊤
ArePresent st (name ∷ []) = IsPresent st name
ArePresent st (name ∷ next ∷ later) = IsPresent st name × ArePresent st (next ∷ later)

-- what the call names is there
abbrev pub HasNames : State → Made → Type 0
HasNames st (draw n) = ⊤
HasNames st (table_call call answer) = ArePresent st (row_of call).names
HasNames st (waiting_call call answer) = ArePresent st (wait_row_of call).names

-- the call is of one of the table's callers, and what it names is there
pub record IsNamedCall (l : Limits) (st : State) (made : MadeBy) : Type 0 where
  pub by : IsCaller l made.caller
  pub names : HasNames st made.call
