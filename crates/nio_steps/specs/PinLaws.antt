-- Each call gives back the pins that it takes: a caller that has no pin when it calls has none when the call
-- returns.
use Rattle.std.specs.Prelude.{ℕ, Bool, IsFalse, Option, List}
use Rattle.nio_base.specs.declared.kind.Kind.{Kind}
use Rattle.nio_base.specs.declared.limits.Limits.{Limits}
use Rattle.nio_base.specs.declared.numbers.CallerNo.{CallerNo}
use Rattle.nio_base.specs.declared.numbers.ChanId.{ChanId}
use Rattle.nio_base.specs.declared.numbers.KeyNo.{KeyNo}
use Rattle.nio_base.specs.declared.numbers.SelNo.{SelNo}
use Rattle.nio_history.specs.OwnEvents.{keeps_pin}
use Rattle.nio_history.specs.declared.act.Act.{Act}
use Rattle.nio_history.specs.declared.found.Mode.{Mode}
use Rattle.nio_steps.specs.ChannelCalls.{open_channel_plan, reopen_channel_plan, is_open_plan, is_blocking_plan}
use Rattle.nio_steps.specs.ChannelCalls.{is_registered_plan}
use Rattle.nio_steps.specs.ChannelCalls.{key_for_plan, try_set_blocking_plan, try_register_plan, close_channel_plan}
use Rattle.nio_steps.specs.ChannelCalls.{SetsBlocking, Registers}
use Rattle.nio_steps.specs.KeyCalls.{find_selector_plan, find_channel_plan, find_plan, is_valid_plan, interest_plan}
use Rattle.nio_steps.specs.KeyCalls.{set_interest_plan, interest_or_plan, interest_and_plan, ready_plan, cancel_plan}
use Rattle.nio_steps.specs.KeyCalls.{unselect_plan, attach_plan, attachment_plan}
use Rattle.nio_steps.specs.PipeCalls.{pipe_plan, try_read_plan, try_write_plan, Reads, Writes}
use Rattle.nio_steps.specs.Runs.{Completes}
use Rattle.nio_steps.specs.SelectCalls.{Selection, open_selector_plan, take_list_plan, try_begin_plan, told_plan}
use Rattle.nio_steps.specs.SelectCalls.{leave_plan, shut_plan}
use Rattle.nio_steps.specs.SelectCalls.{try_finish_plan, keys_plan, selected_keys_plan, wakeup_plan, interrupt_plan}
use Rattle.nio_steps.specs.SelectCalls.{interrupted_plan, Poll, MakesSelection, ClosesSelector}
use Rattle.nio_steps.specs.TableCalls.{TableCall, WaitCall, row_of, wait_row_of}
use Rattle.nio_steps.specs.declared.looked.LookedKey.{LookedKey}

-- after a call of this shape the caller keeps no pin that it took in the call
abbrev pub GivesPinsBack : {R : Type 0} → (List Act → R → Type 0) → Type 0
GivesPinsBack {R} Shape = (acts : List Act) (answer : R) → Shape acts answer → (s i : ℕ) → IsFalse (keeps_pin s i acts)

pub record PinsAreGivenBack : Type 0 where
  -- each call, and each that waits
  pub each : (l : Limits) (lacks : Bool) (call : TableCall) → GivesPinsBack (Completes ((row_of call).plan l lacks))
  pub each_waiting : (l : Limits) (call : WaitCall) → GivesPinsBack ((wait_row_of call).Shape l)
  -- so each of them by its plan
  pub find_selector : (l : Limits) (n : ℕ) → GivesPinsBack (Completes (find_selector_plan l n))
  pub find_channel : (l : Limits) (n serial : ℕ) → GivesPinsBack (Completes (find_channel_plan l n serial))
  pub find : (l : Limits) (s : SelNo) (i serial : ℕ) → GivesPinsBack (Completes (find_plan l s i serial))
  pub is_valid : (k : KeyNo) → GivesPinsBack (Completes (is_valid_plan k))
  pub interest : (k : KeyNo) → GivesPinsBack (Completes (interest_plan k))
  pub set_interest : (k : KeyNo) (ops : ℕ) → GivesPinsBack (Completes (set_interest_plan k ops))
  pub interest_or : (k : KeyNo) (ops : ℕ) → GivesPinsBack (Completes (interest_or_plan k ops))
  pub interest_and : (k : KeyNo) (ops : ℕ) → GivesPinsBack (Completes (interest_and_plan k ops))
  pub ready : (k : KeyNo) → GivesPinsBack (Completes (ready_plan k))
  pub cancel : (k : KeyNo) → GivesPinsBack (Completes (cancel_plan k))
  pub unselect : (k : KeyNo) → GivesPinsBack (Completes (unselect_plan k))
  pub attach : (k : KeyNo) (att : ℕ) → GivesPinsBack (Completes (attach_plan k att))
  pub attachment : (k : KeyNo) → GivesPinsBack (Completes (attachment_plan k))
  pub open_channel : (l : Limits) (kind : Kind) → GivesPinsBack (Completes (open_channel_plan l kind))
  pub reopen_channel : (l : Limits) (c : ChanId) → GivesPinsBack (Completes (reopen_channel_plan l c))
  pub is_open : (c : ChanId) → GivesPinsBack (Completes (is_open_plan c))
  pub is_blocking : (c : ChanId) → GivesPinsBack (Completes (is_blocking_plan c))
  pub is_registered : (l : Limits) (c : ChanId) → GivesPinsBack (Completes (is_registered_plan l c))
  pub key_for : (c : ChanId) (s : SelNo) → GivesPinsBack (Completes (key_for_plan c s))
  pub try_set_blocking : (l : Limits) (c : ChanId) (on : Bool)
      → GivesPinsBack (Completes (try_set_blocking_plan l c on))
  pub try_register : (l : Limits) (s : SelNo) (c : ChanId) (ops att : ℕ)
      → GivesPinsBack (Completes (try_register_plan l s c ops att))
  pub close_channel : (l : Limits) (c : ChanId) → GivesPinsBack (Completes (close_channel_plan l c))
  pub open_selector : (l : Limits) → GivesPinsBack (Completes (open_selector_plan l))
  pub take_list : (s : SelNo) → GivesPinsBack (Completes (take_list_plan s))
  pub try_begin : (s : SelNo) (mode : Mode) (known : Option (List LookedKey)) (lacks : Bool)
      → GivesPinsBack (Completes (try_begin_plan s mode known lacks))
  pub told : (selection : Selection) (pairs : List (ℕ × ℕ)) (elapsed : Bool)
      → GivesPinsBack (Completes (told_plan selection pairs elapsed))
  pub leave : (selection : Selection) → GivesPinsBack (Completes (leave_plan selection))
  pub shut : (s : SelNo) → GivesPinsBack (Completes (shut_plan s))
  pub try_finish : (s : SelNo) → GivesPinsBack (Completes (try_finish_plan s))
  pub keys : (s : SelNo) (lacks : Bool) → GivesPinsBack (Completes (keys_plan s lacks))
  pub selected_keys : (s : SelNo) (lacks : Bool) → GivesPinsBack (Completes (selected_keys_plan s lacks))
  pub wakeup : (s : SelNo) → GivesPinsBack (Completes (wakeup_plan s))
  pub interrupt : (target : CallerNo) → GivesPinsBack (Completes (interrupt_plan target))
  pub interrupted : GivesPinsBack (Completes interrupted_plan)
  pub pipe : (l : Limits) (lacks : Bool) → GivesPinsBack (Completes (pipe_plan l lacks))
  pub try_read : (l : Limits) (source : ChanId) → GivesPinsBack (Completes (try_read_plan l source))
  pub try_write : (l : Limits) (source sink : ChanId) → GivesPinsBack (Completes (try_write_plan l source sink))
  -- the calls that wait
  pub set_blocking : (l : Limits) (c : ChanId) (on : Bool) → GivesPinsBack (SetsBlocking l c on)
  pub register : (l : Limits) (s : SelNo) (c : ChanId) (ops att : ℕ) → GivesPinsBack (Registers l s c ops att)
  pub select : (s : SelNo) (mode : Mode) (known : Option (List LookedKey)) (polls : List Poll)
      → GivesPinsBack (MakesSelection s mode known polls)
  pub close : (s : SelNo) → GivesPinsBack (ClosesSelector s)
  pub read : (l : Limits) (source : ChanId) (none : Bool) → GivesPinsBack (Reads l source none)
  pub write : (l : Limits) (source sink : ChanId) (none : Bool) → GivesPinsBack (Writes l source sink none)
