-- How the line of a script is made on the table: its look-ups, the plan of its call, and its reply.
use Rattle.nio_plain.specs.Seq.Pipes.{own_source, own_sink, pipe_at}
use Rattle.std.specs.Prelude.{ℕ, ◌==◌, nat_lt, Bool, false, if◌then◌else◌, Option, Some, None, is_some, Result, Ok, Err}
use Rattle.std.specs.Prelude.{List, map, filter}
use Rattle.nio_base.specs.declared.limits.Limits.{Limits}
use Rattle.nio_base.specs.declared.numbers.CallerNo.{CallerNo}
use Rattle.nio_base.specs.declared.numbers.ChanId.{ChanId}
use Rattle.nio_base.specs.declared.numbers.KeyId.{KeyId}
use Rattle.nio_base.specs.declared.numbers.SelNo.{SelNo}
use Rattle.nio_history.specs.State.{put}
use Rattle.nio_history.specs.declared.found.Mode.{Mode}
use Rattle.nio_language.specs.WordRows.{by_names, word_row}
use Rattle.nio_language.specs.declared.call.Call.{Call}
use Rattle.nio_language.specs.declared.call.Call.TheVariants as call
use Rattle.nio_language.specs.declared.group_call.GroupCall.{GroupCall}
use Rattle.nio_language.specs.declared.reply.Reply.{Reply}
use Rattle.nio_language.specs.declared.reply.Reply.TheVariants as reply
use Rattle.nio_language.specs.declared.word_row.LineName.{LineName}
use Rattle.nio_language.specs.declared.word_row.LineName.TheVariants.{Caller, Selector, Channel, Key}
use Rattle.nio_plain.specs.ScriptState.{Pipe}
use Rattle.nio_plain.specs.Seq.Replies.{Replied, yes_or_no}
use Rattle.nio_plain.specs.Seq.Grouping.{group_reply, group_left}
use Rattle.nio_plain.specs.Seq.Registering.{given_or_none}
use Rattle.nio_plain.specs.Seq.Selections.{mode_of, is_looked, is_caller}
use Rattle.nio_steps.specs.ChannelCalls.{open_channel_plan, is_open_plan, is_blocking_plan, is_registered_plan}
use Rattle.nio_steps.specs.ChannelCalls.{key_for_plan, try_set_blocking_plan, try_register_plan, close_channel_plan}
use Rattle.nio_steps.specs.KeyCalls.{find_selector_plan, find_channel_plan, find_plan, is_valid_plan, interest_plan}
use Rattle.nio_steps.specs.KeyCalls.{set_interest_plan, interest_or_plan, interest_and_plan, ready_plan, cancel_plan}
use Rattle.nio_steps.specs.KeyCalls.{unselect_plan, attach_plan, attachment_plan}
use Rattle.nio_steps.specs.Names.{key}
use Rattle.nio_steps.specs.Perform.{Performed}
use Rattle.nio_steps.specs.PipeCalls.{pipe_plan, try_read_plan, try_write_plan}
use Rattle.nio_steps.specs.Plan.{Plan, ◌>>=◌}
use Rattle.nio_steps.specs.SelectCalls.{Selection, open_selector_plan, try_begin_plan, told_plan, ToldReply, done}
use Rattle.nio_steps.specs.SelectCalls.{again, leave_plan, shut_plan, ShutReply, closing, already_closed}
use Rattle.nio_steps.specs.SelectCalls.{try_finish_plan, FinishReply, closed, busy, keys_plan, selected_keys_plan}
use Rattle.nio_steps.specs.SelectCalls.{wakeup_plan, interrupt_plan, interrupted_plan}
use Rattle.nio_steps.specs.declared.refusal.BeginError.{BeginError}
use Rattle.nio_steps.specs.declared.refusal.PipeError.{PipeError}
use Rattle.nio_serial.specs.Documented.{Progress, Selecting, shown, amounts}
use Rattle.nio_serial.specs.PipeLines.{with_pipe, with_seal, after_pipe, Piped, read_gives, write_gives}
use Rattle.nio_serial.specs.Replies.{find_reply, set_reply, put_reply, channel_reply, mode_reply, register_reply}
use Rattle.nio_serial.specs.Replies.{closed_reply, ends_reply, selector_reply, begin_reply, told_reply, shut_reply}
use Rattle.nio_serial.specs.Replies.{finish_reply, list_reply}

-- what a line replies, and what is in progress after it
pub record Said : Type 0 where
  pub reply : Reply
  pub left : Progress

abbrev pub comes_to : Performed Said → Replied
comes_to performed = amounts (λ said. said.reply) (λ said. said.left) performed

-- a line that makes this call
abbrev pub makes : {R : Type 0} → Plan R → (R → Reply) → (R → Progress) → Plan Said
makes plan said left = plan >>= (λ answer. Plan.reply (record { reply = said answer; left = left answer }))

-- one that begins and ends nothing
abbrev pub asks : {R : Type 0} → Progress → Plan R → (R → Reply) → Plan Said
asks now plan said = makes plan said (λ _. now)

-- one that makes no step
abbrev pub refused : Progress → Reply → Plan Said
refused now r = Plan.reply (record { reply = r; left = now })

-- ---- what is in progress

abbrev pub with_selection : Progress → SelNo → Option Selecting → Progress
with_selection now s x = record now { selection = put now.selection s.0 x }

abbrev pub with_closing : Progress → SelNo → Option CallerNo → Progress
with_closing now s x = record now { closing = put now.closing s.0 x }

abbrev pub if_own : CallerNo → Option Selecting → Option Selection
if_own me None = None
if_own me (Some x) = if x.caller.0 == me.0 then Some x.selection else None

-- the caller's own selection on the selector
abbrev pub own_selection : Progress → CallerNo → SelNo → Option Selection
own_selection now me s = if_own me (now.selection s.0)

abbrev pub after_begin : Progress → CallerNo → SelNo → Result Selection BeginError → Progress
after_begin now me s (Ok x) = with_selection now s (Some (record { caller = me; selection = x }))
after_begin now me s (Err _) = now

abbrev pub after_told : Progress → SelNo → ToldReply → Progress
after_told now s (done answer) = with_selection now s None
after_told now s (again x) = now

abbrev pub after_shut : Progress → CallerNo → SelNo → ShutReply → Progress
after_shut now me s closing = with_closing now s (Some me)
after_shut now me s already_closed = now

abbrev pub after_finish : Progress → SelNo → FinishReply → Progress
after_finish now s closed = with_closing now s None
after_finish now s busy = now

-- ---- the calls

-- a line begins a selection without the list
abbrev pub begin_line : Progress → CallerNo → SelNo → Option Mode → Plan Said
begin_line now me s None = refused now reply.NegativeTimeout
begin_line now me s (Some mode) = makes (try_begin_plan s mode None false) begin_reply (after_begin now me s)

-- the told pairs of keys that the selection looks at, by their indexes. A key of another serial is none of them
abbrev pub by_index : Selection → List (KeyId × ℕ) → List (ℕ × ℕ)
by_index x pairs = map (λ p. (p.0.index, p.1)) (filter (λ p. is_looked (shown x).looked p.0) pairs)

abbrev pub told_line : Progress → SelNo → Bool → List (KeyId × ℕ) → Option Selection → Plan Said
told_line now s elapsed pairs None = refused now reply.NotSelecting
told_line now s elapsed pairs (Some x) = makes (told_plan x (by_index x pairs) elapsed) told_reply (after_told now s)

abbrev pub failed_line : Progress → SelNo → Option Selection → Plan Said
failed_line now s None = refused now reply.NotSelecting
failed_line now s (Some x) = makes (leave_plan x) (λ _. reply.Left) (λ _. with_selection now s None)

abbrev pub close_end_line : Progress → CallerNo → SelNo → Plan Said
close_end_line now me s =
    if is_caller me (now.closing s.0) then makes (try_finish_plan s) finish_reply (after_finish now s)
    else refused now reply.NotClosing

-- a call on the group makes no step on the table: its reply and the group that it leaves follow from the group alone
abbrev pub group_line : Progress → GroupCall → Plan Said
group_line now g = Plan.reply (record {
  reply = group_reply now.group g;
  left = record now { group = group_left now.group g };
})

-- a read or a write on the pipe at a place
abbrev pub on_pipe : Progress → ℕ → Plan (Result Bool PipeError) → (Pipe → Result Bool PipeError → Piped) → Plan Said
on_pipe now i plan gives =
    makes plan (λ answer. (gives (pipe_at now.pipes i) answer).reply)
    (λ answer. with_pipe now i (gives (pipe_at now.pipes i) answer).left)

-- of the caller's own pipe
abbrev pub read_line : Limits → Progress → ChanId → ℕ → Option ℕ → Plan Said
read_line l now c n None = refused now reply.NotOwner
read_line l now c n (Some i) = on_pipe now i (try_read_plan l c) (read_gives n)

abbrev pub write_line : Limits → Progress → ChanId → List ℕ → Option ℕ → Plan Said
write_line l now c bytes None = refused now reply.NotOwner
write_line l now c bytes (Some i) = on_pipe now i (try_write_plan l (pipe_at now.pipes i).source c) (write_gives bytes)

-- each call, once the line's names are found
unfoldable pub call_plan : Limits → Progress → CallerNo → Call → Plan Said
call_plan l now me call.Selector = asks now (open_selector_plan l) selector_reply
call_plan l now me (call.Channel kind) = asks now (open_channel_plan l kind) channel_reply
call_plan l now me (call.Blocking c on) = asks now (try_set_blocking_plan l c on) mode_reply
call_plan l now me (call.IsBlocking c) = asks now (is_blocking_plan c) yes_or_no
call_plan l now me (call.IsOpen c) = asks now (is_open_plan c) yes_or_no
call_plan l now me (call.IsRegistered c) = asks now (is_registered_plan l c) yes_or_no
call_plan l now me (call.KeyFor c s) = asks now (key_for_plan c s) find_reply
call_plan l now me (call.Register s c ops att) =
    asks now (try_register_plan l s c ops (given_or_none att)) register_reply
call_plan l now me (call.Closec c) =
    makes (close_channel_plan l c) closed_reply (λ _. with_seal now (own_sink now.pipes me c))
call_plan l now me (call.Valid s k) = asks now (is_valid_plan (key s k)) yes_or_no
call_plan l now me (call.Interest s k) = asks now (interest_plan (key s k)) set_reply
call_plan l now me (call.Ready s k) = asks now (ready_plan (key s k)) set_reply
call_plan l now me (call.Iset s k ops) = asks now (set_interest_plan (key s k) ops) put_reply
call_plan l now me (call.Ior s k ops) = asks now (interest_or_plan (key s k) ops) set_reply
call_plan l now me (call.Iand s k ops) = asks now (interest_and_plan (key s k) ops) set_reply
call_plan l now me (call.Cancel s k) = asks now (cancel_plan (key s k)) (λ _. reply.«Ok»)
call_plan l now me (call.Unselect s k) = asks now (unselect_plan (key s k)) yes_or_no
call_plan l now me (call.Attach s k att) = asks now (attach_plan (key s k) att) (λ before. reply.Number before)
call_plan l now me (call.Attachment s k) = asks now (attachment_plan (key s k)) (λ att. reply.Number att)
call_plan l now me (call.Begin s waiting) = begin_line now me s (mode_of waiting)
call_plan l now me (call.Told s elapsed pairs) = told_line now s elapsed pairs (own_selection now me s)
call_plan l now me (call.Failed s) = failed_line now s (own_selection now me s)
call_plan l now me (call.Wakeup s) = asks now (wakeup_plan s) (λ _. reply.«Ok»)
call_plan l now me (call.Close s) = makes (shut_plan s) shut_reply (after_shut now me s)
call_plan l now me (call.CloseEnd s) = close_end_line now me s
call_plan l now me (call.Keys s) = asks now (keys_plan s false) list_reply
call_plan l now me (call.Selected s) = asks now (selected_keys_plan s false) list_reply
call_plan l now me (call.Interrupt target) = asks now (interrupt_plan target) (λ _. reply.«Ok»)
call_plan l now me call.Interrupted = asks now interrupted_plan yes_or_no
call_plan l now me (call.Pipe target) = makes (pipe_plan l false) ends_reply (after_pipe now me target)
call_plan l now me (call.Pwrite c bytes) = write_line l now c bytes (own_sink now.pipes me c)
call_plan l now me (call.Pread c n) = read_line l now c n (own_source now.pipes me c)
call_plan l now me (call.Group g) = group_line now g

-- ---- the names of a line

abbrev pub if_caller : Limits → Progress → CallerNo → Plan Said → Plan Said
if_caller l now n plan = if nat_lt n.0 l.callers then plan else refused now reply.NoCaller

-- how a line goes on after a look-up
abbrev pub if_found : {A : Type 0} → Progress → Reply → Plan Said → Option A → Plan Said
if_found now r plan found = if is_some found then plan else refused now r

abbrev pub if_selector : Limits → Progress → SelNo → Plan Said → Plan Said
if_selector l now s plan = find_selector_plan l s.0 >>= if_found now reply.NoSelector plan

abbrev pub if_channel : Limits → Progress → ChanId → Plan Said → Plan Said
if_channel l now c plan = find_channel_plan l c.number.0 c.serial >>= if_found now reply.NoChannel plan

abbrev pub if_key : Limits → Progress → SelNo → KeyId → Plan Said → Plan Said
if_key l now s k plan = if_selector l now s (find_plan l s k.index k.serial >>= if_found now reply.NoKey plan)

abbrev pub if_name : Limits → Progress → LineName → Plan Said → Plan Said
if_name l now (Caller n) plan = if_caller l now n plan
if_name l now (Selector s) plan = if_selector l now s plan
if_name l now (Channel c) plan = if_channel l now c plan
if_name l now (Key s k) plan = if_key l now s k plan

-- the names of a line are looked up in their order
unfoldable pub if_named : Limits → Progress → Call → Plan Said → Plan Said
if_named l now word plan = by_names (if_name l now) (word_row word).names plan

-- a line of a script
unfoldable pub line_plan : Limits → Progress → CallerNo → Call → Plan Said
line_plan l now me word = if_caller l now me (if_named l now word (call_plan l now me word))
