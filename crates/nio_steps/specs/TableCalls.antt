-- The calls on the table, each once: what it is given, its plan, and what else is true of it.
use Rattle.std.specs.Prelude.{◌≡◌, ℕ, Bool, false, IsTrue, Option, Some, None, Result, Ok, Err, List, [], ◌∷◌, ⊤}
use Rattle.nio_base.specs.declared.kind.Kind.{Kind}
use Rattle.nio_base.specs.declared.limits.Limits.{Limits}
use Rattle.nio_base.specs.declared.numbers.CallerNo.{CallerNo}
use Rattle.nio_base.specs.declared.numbers.ChanId.{ChanId}
use Rattle.nio_base.specs.declared.numbers.KeyNo.{KeyNo}
use Rattle.nio_base.specs.declared.numbers.SelNo.{SelNo}
use Rattle.nio_history.specs.declared.act.Act.{Act}
use Rattle.nio_history.specs.declared.found.Mode.{Mode}
use Rattle.nio_steps.specs.ChannelCalls.{open_channel_plan, reopen_channel_plan, is_open_plan, is_blocking_plan}
use Rattle.nio_steps.specs.ChannelCalls.{is_registered_plan}
use Rattle.nio_steps.specs.ChannelCalls.{key_for_plan, try_set_blocking_plan, try_register_plan, close_channel_plan}
use Rattle.nio_steps.specs.ChannelCalls.{SetsBlocking, Registers}
use Rattle.nio_steps.specs.KeyCalls.{find_selector_plan, find_channel_plan, find_plan, is_valid_plan, interest_plan}
use Rattle.nio_steps.specs.KeyCalls.{set_interest_plan, interest_or_plan, interest_and_plan, ready_plan, cancel_plan}
use Rattle.nio_steps.specs.KeyCalls.{unselect_plan, attach_plan, attachment_plan}
use Rattle.nio_steps.specs.Ongoing.{Ongoing, Change, no_change, selection_ends, begin_change, take_list_change, told_change, shut_change}
use Rattle.nio_steps.specs.Ongoing.{finish_change, select_change, close_change}
use Rattle.nio_steps.specs.PipeCalls.{pipe_plan, pipe_lacks_memory, try_read_plan, try_write_plan, Reads, Writes}
use Rattle.nio_steps.specs.Plan.{Plan}
use Rattle.nio_steps.specs.SelectCalls.{Selection, open_selector_plan, take_list_plan, try_begin_plan, begin_lacks_memory, Poll}
use Rattle.nio_steps.specs.SelectCalls.{told_plan, leave_plan, shut_plan, try_finish_plan, keys_plan}
use Rattle.nio_steps.specs.SelectCalls.{selected_keys_plan, list_lacks_memory, wakeup_plan, interrupt_plan}
use Rattle.nio_steps.specs.SelectCalls.{interrupted_plan, HasSelectOutcome, select_lacks_memory, ClosesSelector}
use Rattle.nio_steps.specs.declared.looked.LookedKey.{LookedKey}
use Rattle.nio_steps.specs.declared.refusal.ChannelError.{ChannelError}

-- ---- the calls that don't wait

-- a call that doesn't wait, with what it is given
pub data TableCall : Type 0 where
  find_selector : ℕ → TableCall
  find_channel : ℕ → ℕ → TableCall
  find : SelNo → ℕ → ℕ → TableCall
  is_valid : KeyNo → TableCall
  interest : KeyNo → TableCall
  set_interest : KeyNo → ℕ → TableCall
  interest_or : KeyNo → ℕ → TableCall
  interest_and : KeyNo → ℕ → TableCall
  ready : KeyNo → TableCall
  cancel : KeyNo → TableCall
  unselect : KeyNo → TableCall
  attach : KeyNo → ℕ → TableCall
  attachment : KeyNo → TableCall
  open_channel : Kind → TableCall
  reopen_channel : ChanId → TableCall
  is_open : ChanId → TableCall
  is_blocking : ChanId → TableCall
  is_registered : ChanId → TableCall
  key_for : ChanId → SelNo → TableCall
  try_set_blocking : ChanId → Bool → TableCall
  try_register : SelNo → ChanId → ℕ → ℕ → TableCall
  close_channel : ChanId → TableCall
  open_selector : TableCall
  take_list : SelNo → TableCall
  -- with the selector's list, or without it
  try_begin : SelNo → Mode → Option (List LookedKey) → TableCall
  told : Selection → Poll → TableCall
  leave : Selection → TableCall
  shut : SelNo → TableCall
  try_finish : SelNo → TableCall
  keys : SelNo → TableCall
  selected_keys : SelNo → TableCall
  wakeup : SelNo → TableCall
  interrupt : CallerNo → TableCall
  interrupted : TableCall
  pipe : TableCall
  -- a read of a pipe's source, and a write by a source and its sink
  try_read : ChanId → TableCall
  try_write : ChanId → ChanId → TableCall

-- a selector, a channel or a key that a call is given
pub data Name : Type 0 where
  the_selector : SelNo → Name
  the_channel : ChanId → Name
  the_key : KeyNo → Name

-- what is true of a call: its row
pub record Row : Type 1 where
  pub names : List Name
  pub Reply : Type 0
  -- by the limits of the table, and by whether there is no memory
  pub plan : Limits → Bool → Plan Reply
  -- the reply is that there was no memory
  pub lacks_memory : Reply → Bool
  -- the selector and the channel, where the call registered a channel
  pub registers : Reply → List (SelNo × ChanId)
  -- the one selector whose turn the call may give back, and whose keys it may mark or remove
  pub works_on : Option SelNo
  -- the call may come next, by what its caller has in progress
  pub may_come : Ongoing → Type 0
  -- what it changes of what its caller has in progress
  pub change : Reply → Change

abbrev pub row : {R : Type 0} → List Name → (Limits → Bool → Plan R) → (R → Bool) → (R → List (SelNo × ChanId))
    → Option SelNo → (Ongoing → Type 0) → (R → Change) → Row
row {R} names plan lacks_memory registers works_on may_come change = record {
  names = names;
  Reply = R;
  plan = plan;
  lacks_memory = lacks_memory;
  registers = registers;
  works_on = works_on;
  may_come = may_come;
  change = change;
}

-- the usual answers

abbrev pub never_lacks : {R : Type 0} → R → Bool
never_lacks _ = false

abbrev pub registers_nothing : {R : Type 0} → R → List (SelNo × ChanId)
registers_nothing _ = []

abbrev pub at_any_time : Ongoing → Type 0
at_any_time _ = ⊤

abbrev pub changes_nothing : {R : Type 0} → R → Change
changes_nothing _ = no_change

-- what a registration that answers so registered
abbrev pub registered : {A : Type 0} → SelNo → ChanId → Result A ChannelError → List (SelNo × ChanId)
registered s c (Ok answer) = (s, c) ∷ []
registered s c (Err refusal) = []

-- the caller has this selection in progress on the selection's selector
abbrev pub HasSelection : Selection → Ongoing → Type 0
HasSelection selection now = now.selection selection.selector.0 ≡ Some selection

-- a list that the caller gives is the one that it has for the selector
abbrev pub IsItsList : SelNo → Option (List LookedKey) → Ongoing → Type 0
IsItsList s None now = ⊤
IsItsList s (Some known) now = now.list s.0 ≡ Some known

abbrev pub row_of : TableCall → Row
row_of (find_selector n) =
    row [] (λ l _. find_selector_plan l n) never_lacks registers_nothing None at_any_time changes_nothing
row_of (find_channel n serial) =
    row [] (λ l _. find_channel_plan l n serial) never_lacks registers_nothing None at_any_time changes_nothing
row_of (find s i serial) =
    row (the_selector s ∷ []) (λ l _. find_plan l s i serial)
    never_lacks registers_nothing None at_any_time changes_nothing
row_of (is_valid k) =
    row (the_key k ∷ []) (λ _ _. is_valid_plan k) never_lacks registers_nothing None at_any_time changes_nothing
row_of (interest k) =
    row (the_key k ∷ []) (λ _ _. interest_plan k) never_lacks registers_nothing None at_any_time changes_nothing
row_of (set_interest k ops) =
    row (the_key k ∷ []) (λ _ _. set_interest_plan k ops) never_lacks registers_nothing None at_any_time changes_nothing
row_of (interest_or k ops) =
    row (the_key k ∷ []) (λ _ _. interest_or_plan k ops) never_lacks registers_nothing None at_any_time changes_nothing
row_of (interest_and k ops) =
    row (the_key k ∷ []) (λ _ _. interest_and_plan k ops) never_lacks registers_nothing None at_any_time changes_nothing
row_of (ready k) =
    row (the_key k ∷ []) (λ _ _. ready_plan k) never_lacks registers_nothing None at_any_time changes_nothing
row_of (cancel k) =
    row (the_key k ∷ []) (λ _ _. cancel_plan k) never_lacks registers_nothing None at_any_time changes_nothing
row_of (unselect k) =
    row (the_key k ∷ []) (λ _ _. unselect_plan k) never_lacks registers_nothing None at_any_time changes_nothing
row_of (attach k att) =
    row (the_key k ∷ []) (λ _ _. attach_plan k att) never_lacks registers_nothing None at_any_time changes_nothing
row_of (attachment k) =
    row (the_key k ∷ []) (λ _ _. attachment_plan k) never_lacks registers_nothing None at_any_time changes_nothing
row_of (open_channel kind) =
    row [] (λ l _. open_channel_plan l kind) never_lacks registers_nothing None at_any_time changes_nothing
row_of (reopen_channel c) =
    row (the_channel c ∷ []) (λ l _. reopen_channel_plan l c)
    never_lacks registers_nothing None at_any_time changes_nothing
row_of (is_open c) =
    row (the_channel c ∷ []) (λ _ _. is_open_plan c) never_lacks registers_nothing None at_any_time changes_nothing
row_of (is_blocking c) =
    row (the_channel c ∷ []) (λ _ _. is_blocking_plan c) never_lacks registers_nothing None at_any_time changes_nothing
row_of (is_registered c) =
    row (the_channel c ∷ []) (λ l _. is_registered_plan l c)
    never_lacks registers_nothing None at_any_time changes_nothing
row_of (key_for c s) =
    row (the_channel c ∷ the_selector s ∷ []) (λ _ _. key_for_plan c s)
    never_lacks registers_nothing None at_any_time changes_nothing
row_of (try_set_blocking c on) =
    row (the_channel c ∷ []) (λ l _. try_set_blocking_plan l c on)
    never_lacks registers_nothing None at_any_time changes_nothing
row_of (try_register s c ops att) =
    row (the_selector s ∷ the_channel c ∷ []) (λ l _. try_register_plan l s c ops att)
    never_lacks (registered s c) None at_any_time changes_nothing
row_of (close_channel c) =
    row (the_channel c ∷ []) (λ l _. close_channel_plan l c)
    never_lacks registers_nothing None at_any_time changes_nothing
row_of open_selector =
    row [] (λ l _. open_selector_plan l) never_lacks registers_nothing None at_any_time changes_nothing
row_of (take_list s) =
    row (the_selector s ∷ []) (λ _ _. take_list_plan s) never_lacks registers_nothing None at_any_time (take_list_change s)
row_of (try_begin s mode known) =
    row (the_selector s ∷ []) (λ _ lacks. try_begin_plan s mode known lacks)
    begin_lacks_memory registers_nothing (Some s) (IsItsList s known) (begin_change s)
row_of (told selection poll) =
    row (the_selector selection.selector ∷ []) (λ _ _. told_plan selection poll.pairs poll.elapsed)
    never_lacks registers_nothing (Some selection.selector) (HasSelection selection) (told_change selection.selector)
row_of (leave selection) =
    row (the_selector selection.selector ∷ []) (λ _ _. leave_plan selection)
    never_lacks registers_nothing (Some selection.selector) (HasSelection selection)
    (λ _. selection_ends selection.selector)
row_of (shut s) =
    row (the_selector s ∷ []) (λ _ _. shut_plan s) never_lacks registers_nothing None at_any_time (shut_change s)
row_of (try_finish s) =
    row (the_selector s ∷ []) (λ _ _. try_finish_plan s)
    never_lacks registers_nothing (Some s) (λ now. IsTrue (now.closes s.0)) (finish_change s)
row_of (keys s) =
    row (the_selector s ∷ []) (λ _ lacks. keys_plan s lacks)
    list_lacks_memory registers_nothing None at_any_time changes_nothing
row_of (selected_keys s) =
    row (the_selector s ∷ []) (λ _ lacks. selected_keys_plan s lacks)
    list_lacks_memory registers_nothing None at_any_time changes_nothing
row_of (wakeup s) =
    row (the_selector s ∷ []) (λ _ _. wakeup_plan s) never_lacks registers_nothing None at_any_time changes_nothing
row_of (interrupt target) =
    row [] (λ _ _. interrupt_plan target) never_lacks registers_nothing None at_any_time changes_nothing
row_of interrupted = row [] (λ _ _. interrupted_plan) never_lacks registers_nothing None at_any_time changes_nothing
row_of pipe = row [] pipe_plan pipe_lacks_memory registers_nothing None at_any_time changes_nothing
-- the reply to each of these: a refusal, or the mode that was found
row_of (try_read source) =
    row (the_channel source ∷ []) (λ l _. try_read_plan l source)
    never_lacks registers_nothing None at_any_time changes_nothing
row_of (try_write source sink) =
    row (the_channel source ∷ the_channel sink ∷ []) (λ l _. try_write_plan l source sink)
    never_lacks registers_nothing None at_any_time changes_nothing

-- ---- the calls that wait

-- What a call is given. A selection is given what the poller answered; a call that reads or writes, whether there were
-- no bytes, or no room, at last.
pub data WaitCall : Type 0 where
  set_blocking : ChanId → Bool → WaitCall
  register : SelNo → ChanId → ℕ → ℕ → WaitCall
  -- with the selector's list, or without it
  select : SelNo → Mode → Option (List LookedKey) → List Poll → WaitCall
  close : SelNo → WaitCall
  read : ChanId → Bool → WaitCall
  write : ChanId → ChanId → Bool → WaitCall

pub record WaitRow : Type 1 where
  pub names : List Name
  pub Reply : Type 0
  -- whether a caller that makes the call may do these acts and have this reply
  pub Shape : Limits → List Act → Reply → Type 0
  -- the reply is that there was no memory
  pub lacks_memory : Reply → Bool
  -- the selector and the channel, where the call registered a channel
  pub registers : Reply → List (SelNo × ChanId)
  -- the call may come next, by what its caller has in progress
  pub may_come : Ongoing → Type 0
  -- what it changes of what its caller has in progress
  pub change : Reply → Change

abbrev pub wait_row : {R : Type 0} → List Name → (Limits → List Act → R → Type 0) → (R → Bool)
    → (R → List (SelNo × ChanId)) → (Ongoing → Type 0) → (R → Change) → WaitRow
wait_row {R} names Shape lacks_memory registers may_come change = record {
  names = names;
  Reply = R;
  Shape = Shape;
  lacks_memory = lacks_memory;
  registers = registers;
  may_come = may_come;
  change = change;
}

abbrev pub wait_row_of : WaitCall → WaitRow
wait_row_of (set_blocking c on) =
    wait_row (the_channel c ∷ []) (λ l. SetsBlocking l c on)
    never_lacks registers_nothing at_any_time changes_nothing
wait_row_of (register s c ops att) =
    wait_row (the_selector s ∷ the_channel c ∷ []) (λ l. Registers l s c ops att)
    never_lacks (registered s c) at_any_time changes_nothing
wait_row_of (select s mode known polls) =
    wait_row (the_selector s ∷ []) (λ _. HasSelectOutcome s mode known polls)
    (λ outcome. select_lacks_memory outcome.answer) registers_nothing (IsItsList s known)
    (λ outcome. select_change s outcome.begun)
wait_row_of (close s) =
    wait_row (the_selector s ∷ []) (λ _. ClosesSelector s)
    never_lacks registers_nothing at_any_time (close_change s)
wait_row_of (read source none) =
    wait_row (the_channel source ∷ []) (λ l. Reads l source none)
    never_lacks registers_nothing at_any_time changes_nothing
wait_row_of (write source sink none) =
    wait_row (the_channel source ∷ the_channel sink ∷ []) (λ l. Writes l source sink none)
    never_lacks registers_nothing at_any_time changes_nothing
