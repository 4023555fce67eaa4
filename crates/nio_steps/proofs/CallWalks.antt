-- The walk over the plan of each call on the table.
use Rattle.std.proofs.Common.{◌≡◌, ℕ, Bool, false, not, Option, Some, None, Result, Ok, Err, List, [], refl}
use Rattle.nio_steps.specs.SelectCalls.{take_list_plan}
use Rattle.std.proofs.Common.{true, false}
use Rattle.nio_base.specs.Kind.{valid_operations}
use Rattle.nio_base.specs.declared.kind.Kind.{Kind}
use Rattle.nio_base.specs.declared.kind.Kind.TheVariants.{Source, Sink}
use Rattle.nio_base.specs.declared.limits.Limits.{Limits}
use Rattle.nio_base.specs.declared.numbers.ChanId.{ChanId}
use Rattle.nio_base.specs.declared.numbers.ChanNo.{ChanNo}
use Rattle.nio_base.specs.declared.numbers.KeyId.{KeyId}
use Rattle.nio_base.specs.declared.numbers.KeyNo.{KeyNo}
use Rattle.nio_base.specs.declared.numbers.SelNo.{SelNo}
use Rattle.nio_history.specs.Questions.{Question}
use Rattle.nio_history.specs.Sets.{is_open_channel}
use Rattle.nio_history.specs.declared.found.Chan.{Chan}
use Rattle.nio_history.specs.declared.found.Mark.{Mark as KeyMark}
use Rattle.nio_history.specs.declared.found.Mode.{Mode}
use Rattle.nio_history.specs.declared.found.Stage.{Stage}
use Rattle.nio_steps.proofs.PlanWalks.{Walk, Walks, walks_reply, walks_calm, walks_ask, walks_bind, walks_if}
use Rattle.nio_steps.proofs.PlanWalks.{walks_sweep, walks_seek, walks_under_pin, walking, IsCalmOn, IsCalmListing}
use Rattle.nio_steps.proofs.PlanWalks.{MayList}
use Rattle.nio_steps.specs.ChannelCalls.{open_channel_plan, opened_channel, reopen_channel_plan, reopens_number}
use Rattle.nio_steps.specs.ChannelCalls.{reopened, reopen_found, reopen_clear, is_open_plan, is_blocking_plan}
use Rattle.nio_steps.specs.ChannelCalls.{is_registered_plan, enrolled_in_set, enrolled_key, first_key, key_of_channel}
use Rattle.nio_steps.specs.ChannelCalls.{key_for_plan, under_hold, set_mode_held}
use Rattle.nio_steps.specs.ChannelCalls.{try_set_blocking_plan, register_enrolled, register_over, make_key}
use Rattle.nio_steps.specs.ChannelCalls.{register_new, register_rest, register_held, try_register_plan, cancel_at}
use Rattle.nio_steps.specs.ChannelCalls.{cancel_keys, close_once_more, close_found, close_channel_plan, claim_taken}
use Rattle.nio_steps.specs.ChannelCalls.{claim_free, claim_in_word, search_free, claim_new, make_claimed}
use Rattle.nio_steps.specs.ChannelCalls.{register_first, register_next}
use Rattle.nio_steps.specs.Sweeps.{seek_to}
use Rattle.nio_base.specs.Ops.{is_within}
use Rattle.nio_steps.specs.KeyCalls.{find_selector_plan, find_channel_plan, find_plan, is_valid_plan}
use Rattle.nio_steps.specs.KeyCalls.{on_valid, if_valid, on_supported, look_set, put_set, add_set, keep_set, look_ready}
use Rattle.nio_steps.specs.KeyCalls.{interest_plan, set_interest_plan, interest_or_plan, interest_and_plan, ready_plan}
use Rattle.nio_steps.specs.KeyCalls.{cancel_plan, cancel_present, unselect_plan, unselect_present, attach_plan}
use Rattle.nio_steps.specs.KeyCalls.{attach_present, attachment_plan, attachment_present}
use Rattle.nio_steps.specs.Names.{selector, channel}
use Rattle.nio_steps.specs.PipeCalls.{pipe_plan, without_sink, with_sink, with_source, if_interrupted, if_open}
use Rattle.nio_steps.specs.PipeCalls.{if_unbroken, try_read_plan, try_write_plan}
use Rattle.nio_steps.specs.Plan.{Plan, reply, ◌>>=◌, when}
use Rattle.nio_steps.specs.SelectCalls.{Selection, open_selector_plan, try_begin_plan, begin_below}
use Rattle.nio_steps.specs.SelectCalls.{told_plan, mark_entry, mark_again}
use Rattle.nio_steps.specs.Looking.{look_over, list_on, list_over, list_taken, list_word, look_at_keys, remove_if_cancelled}
use Rattle.nio_steps.specs.Looking.{remove_below}
use Rattle.nio_steps.specs.SelectCalls.{remove_all_cancelled, after_marks, leave_plan}
use Rattle.nio_steps.specs.SelectCalls.{shut_plan, try_finish_plan, keys_plan, list_selected, list_present}
use Rattle.nio_steps.specs.SelectCalls.{selected_keys_plan, wakeup_plan, interrupt_plan, interrupted_plan}
use Rattle.nio_steps.specs.Steps.{cancel_key, flag_in, channel_in, number_in, enrolled_in}
use Rattle.nio_steps.specs.TableCalls.{TableCall, take_list, find_selector, find_channel, find, is_valid, interest, set_interest}
use Rattle.nio_steps.specs.TableCalls.{interest_or, interest_and, ready, cancel, unselect, attach, attachment}
use Rattle.nio_steps.specs.TableCalls.{open_channel, reopen_channel, is_open, is_blocking, is_registered, key_for}
use Rattle.nio_steps.specs.TableCalls.{try_set_blocking}
use Rattle.nio_steps.specs.TableCalls.{try_register, close_channel, open_selector, try_begin, told, leave, shut}
use Rattle.nio_steps.specs.TableCalls.{try_finish, keys, selected_keys, wakeup, interrupt, interrupted, pipe, try_read}
use Rattle.nio_steps.specs.TableCalls.{try_write, row_of}
use Rattle.nio_steps.specs.declared.looked.LookedKey.{LookedKey}
use Rattle.nio_steps.specs.declared.refusal.ChannelError.{ChannelError}
use Rattle.nio_steps.specs.declared.refusal.KeyError.{KeyError}
use Rattle.nio_steps.specs.declared.refusal.PipeError.{PipeError}
use Rattle.nio_steps.specs.declared.refusal.ReopenError.{ReopenError}

-- ---- keys

on_valid-walks : {A : Type 0} {w : Walk} (k : KeyNo) (steps : Stage → Plan (Result A KeyError))
    → ((stage : Stage) → Walks w (steps stage)) → Walks w (on_valid k steps)
on_valid-walks k steps each =
    walks_under_pin k.sel k.index (if_valid k steps)
    (λ stage. walks_if _ _ (steps stage) (walks_reply _) (each stage))

cancel-walks : {w : Walk} (k : KeyNo) → Walks w (cancel_plan k)
unfolding cancel_plan
cancel-walks k = walks_under_pin k.sel k.index (cancel_present k) (λ stage. search walking depth 12)

-- ---- channels

in_set-walks : {w : Walk} (s : SelNo) (enrolled : Option KeyId) → Walks w (enrolled_in_set s enrolled)
in_set-walks s None = search walking
in_set-walks s (Some k) = search walking

enrolled-walks : {w : Walk} (c : ChanNo) (s : SelNo) → Walks w (enrolled_key c s)
enrolled-walks c s = walks_ask _ _ refl (λ answer. in_set-walks s (enrolled_in answer))

first_key-walks : {w : Walk} (l : Limits) (c : ChanNo) → Walks w (first_key l c)
first_key-walks l c = walks_seek l.selectors 0 (λ s. enrolled_key c (selector s)) (λ s. enrolled-walks c (selector s))

under_hold-walks : {A E : Type 0} {w : Walk} (busy : E) (c : ChanNo) (steps : Plan (Result A E)) → Walks w steps
    → Walks w (under_hold busy c steps)
under_hold-walks busy c steps here =
    walks_ask _ _ refl
    (λ answer. walks_if _ _ _ (walks_reply _)
    (walks_bind steps _ here (λ a. walks_ask _ _ refl (λ _. walks_reply a))))

reopen_found-walks : {w : Walk} (l : Limits) (c : ChanNo) (from : Chan) → Walks w (reopen_found l c from)
reopen_found-walks l c from =
    under_hold-walks ReopenError.Busy c (first_key l c >>= reopen_clear c from)
    (walks_bind (first_key l c) (reopen_clear c from) (first_key-walks l c) (λ registered. search walking depth 12))

reopened-walks : {w : Walk} (answer : Result ChanId ReopenError) → Walks w (reopened answer)
reopened-walks (Ok c) = walks_reply _
reopened-walks (Err ReopenError.Lost) = walks_reply _
reopened-walks (Err ReopenError.Open) = walks_reply _
reopened-walks (Err ReopenError.SerialsSpent) = walks_reply _
reopened-walks (Err ReopenError.Busy) = walks_reply _
reopened-walks (Err ReopenError.Registered) = walks_reply _

number-walks : {w : Walk} (l : Limits) (kind : Kind) (c : ChanNo) → Walks w (reopens_number l kind c)
number-walks l kind c =
    walks_ask _ _ refl
    (λ answer. let found = channel_in answer in
    walks_if _ _ _ (walks_bind (reopen_found l c found) reopened (reopen_found-walks l c found) reopened-walks)
    (walks_reply None))

opened_channel-walks : {w : Walk} (l : Limits) (kind : Kind) (made : Option ChanNo)
    → Walks w (opened_channel l kind made)
opened_channel-walks l kind None =
    walks_bind _ _
    (walks_seek l.channels 0 (λ n. reopens_number l kind (channel n)) (λ n. number-walks l kind (channel n)))
    (λ again. walks_reply _)
opened_channel-walks l kind (Some c) = search walking

open_channel-walks : {w : Walk} (l : Limits) (kind : Kind) → Walks w (open_channel_plan l kind)
unfolding open_channel_plan
open_channel-walks l kind = search (walking, opened_channel-walks) depth 12

reopen_channel-walks : {w : Walk} (l : Limits) (c : ChanId) → Walks w (reopen_channel_plan l c)
unfolding reopen_channel_plan
reopen_channel-walks l c = search (walking, reopen_found-walks) depth 12

of_channel-walks : {w : Walk} (c : ChanId) (found : Option KeyNo) → Walks w (key_of_channel c found)
of_channel-walks c None = walks_reply None
of_channel-walks c (Some k) = search walking depth 12

key_for-walks : {w : Walk} (c : ChanId) (s : SelNo) → Walks w (key_for_plan c s)
unfolding key_for_plan
key_for-walks c s =
    walks_bind (enrolled_key c.number s) (key_of_channel c) (enrolled-walks c.number s) (of_channel-walks c)

is_registered-walks : {w : Walk} (l : Limits) (c : ChanId) → Walks w (is_registered_plan l c)
unfolding is_registered_plan
is_registered-walks l c = search (walking, enrolled-walks) depth 12

mode_held-walks : {w : Walk} (l : Limits) (c : ChanId) (on : Bool) → Walks w (set_mode_held l c on)
mode_held-walks l c on = search (walking, first_key-walks) depth 12

over-walks : {w : Walk} (s : SelNo) (ops att : ℕ) (enrolled : Option KeyId) → Walks w (register_over s ops att enrolled)
over-walks s ops att None = search walking depth 12
over-walks s ops att (Some k) =
    walks_under_pin s k.index (register_enrolled s ops att k) (λ stage. search walking depth 16)

cancel_at-walks : {w : Walk} (c : ChanId) (s : SelNo) (enrolled : Option KeyId) → Walks w (cancel_at c s enrolled)
cancel_at-walks c s None = walks_reply tt
cancel_at-walks c s (Some k) = search (walking, cancel-walks) depth 12

-- ---- selections

module _ {w : Walk} (s : SelNo) (calm : IsCalmOn w s) where
  look_over-walks : (i : ℕ) (looked : List LookedKey) → Walks w (look_over s i looked)
  look_over-walks i looked = search (walking, walks_calm, calm.removes) depth 16

  list_on-walks : (i : ℕ) (known : List LookedKey) (stage : Stage) → Walks w (list_on s i known stage)
  list_on-walks i known stage = search (walking, walks_calm, calm.removes) depth 16

  module _ (lists : IsCalmListing w s) where
    list_over-walks : (i : ℕ) (known : List LookedKey) → Walks w (list_over s i known)
    list_over-walks i known = search (walking, walks_calm, lists.looks, list_on-walks) depth 12

    list_taken-walks : (j : ℕ) (known : List LookedKey) → Walks w (list_taken s j known)
    list_taken-walks j known = search (walking, walks_calm, lists.takes, list_over-walks) depth 12

    list_word-walks : (j : ℕ) (known : List LookedKey) → Walks w (list_word s j known)
    list_word-walks j known = search (walking, list_taken-walks) depth 12

  keys-walks : (known : Option (List LookedKey)) → MayList w s known → (bound : ℕ)
      → Walks w (look_at_keys s bound known)
  keys-walks None may bound = search (walking, look_over-walks) depth 12
  keys-walks (Some known) may bound = search (walking, list_word-walks may) depth 12

  below-walks : (mode : Mode) (known : Option (List LookedKey)) → MayList w s known → (bound : ℕ) (lacks : Bool)
      → Walks w (begin_below s mode known bound lacks)
  below-walks mode known may bound lacks =
      search (walking, walks_calm, calm.gives, keys-walks known may) depth 12

  begin-walks : (mode : Mode) (known : Option (List LookedKey)) → MayList w s known → (lacks : Bool)
      → Walks w (try_begin_plan s mode known lacks)
  unfolding try_begin_plan
  begin-walks mode known may lacks =
      search (walking, walks_calm, calm.gives, below-walks mode known may) depth 16

  again-walks : (i bits : ℕ) (found : Result (Unit {0}) KeyMark) → Walks w (mark_again s i bits found)
  again-walks i bits (Ok u) = search walking
  again-walks i bits (Err stands) = search (walking, walks_calm, calm.marks)

  entry-walks : (pairs : List (ℕ × ℕ)) (entry : LookedKey) (count : ℕ) → Walks w (mark_entry s pairs entry count)
  entry-walks pairs entry count = search (walking, walks_calm, calm.marks, again-walks) depth 16

module _ {w : Walk} (selection : Selection) (calm : IsCalmOn w selection.selector) where
  removed-walks : (i : ℕ) → Walks w (remove_if_cancelled selection.selector i)
  removed-walks i = search (walking, walks_calm, calm.removes) depth 12

  below_removed-walks : (mark : ℕ) (listed : Bool) → Walks w (remove_below selection.selector mark listed)
  below_removed-walks mark false = search (walking, removed-walks) depth 12
  below_removed-walks mark true = search (walking, removed-walks) depth 12

  all_removed-walks : Walks w (remove_all_cancelled selection.selector selection.listed)
  all_removed-walks = search (walking, below_removed-walks) depth 12

  marked-walks : (elapsed : Bool) (count : ℕ) → Walks w (after_marks selection elapsed count)
  marked-walks elapsed count = search (walking, walks_calm, calm.gives, all_removed-walks) depth 20

  told-walks : (pairs : List (ℕ × ℕ)) (elapsed : Bool) → Walks w (told_plan selection pairs elapsed)
  unfolding told_plan
  told-walks pairs elapsed = search (walking, entry-walks selection.selector calm, marked-walks) depth 12

  leave-walks : Walks w (leave_plan selection)
  unfolding leave_plan
  leave-walks = search (walking, walks_calm, calm.gives)

list_selected-walks : {w : Walk} (s : SelNo) (i : ℕ) (listed : List KeyNo) → Walks w (list_selected s i listed)
list_selected-walks s i listed = walks_under_pin s i (list_present s i listed) (λ stage. search walking depth 12)

selected_keys-walks : {w : Walk} (s : SelNo) (lacks : Bool) → Walks w (selected_keys_plan s lacks)
unfolding selected_keys_plan
selected_keys-walks s lacks =
    walks_ask _ _ refl
    (λ gate. walks_if _ _ _ (walks_reply _) (walks_ask _ _ refl (λ bound. walks_if _ _ _ (walks_reply _)
    (walks_bind _ _
    (walks_sweep (number_in bound) 0 (list_selected s) [] (λ i listed. list_selected-walks s i listed))
    (λ listed. walks_reply _)))))

-- ---- pipes

module _ {w : Walk} (l : Limits) (closes : (c : ChanId) → Walks w (close_channel_plan l c)) where
  without_sink-walks : (source : ChanId) → Walks w (without_sink l source)
  without_sink-walks source = walks_bind (close_channel_plan l source) _ (closes source) (λ _. walks_reply _)

  sink-walks : (source : ChanId) (made : Result ChanId ChannelError) → Walks w (with_sink l source made)
  sink-walks source (Ok sink) = walks_reply _
  sink-walks source (Err ChannelError.ChannelsSpent) = without_sink-walks source
  sink-walks source (Err ChannelError.IllegalOps) = without_sink-walks source
  sink-walks source (Err ChannelError.ClosedChannel) = without_sink-walks source
  sink-walks source (Err ChannelError.Busy) = without_sink-walks source
  sink-walks source (Err ChannelError.IllegalBlockingMode) = without_sink-walks source
  sink-walks source (Err ChannelError.CancelledKey) = without_sink-walks source
  sink-walks source (Err ChannelError.ClosedSelector) = without_sink-walks source
  sink-walks source (Err ChannelError.Full) = without_sink-walks source

  source-walks : (made : Result ChanId ChannelError) → Walks w (with_source l made)
  source-walks (Ok source) =
      walks_bind (open_channel_plan l Sink) (with_sink l source) (open_channel-walks l Sink) (sink-walks source)
  source-walks (Err ChannelError.ChannelsSpent) = walks_reply _
  source-walks (Err ChannelError.IllegalOps) = walks_reply _
  source-walks (Err ChannelError.ClosedChannel) = walks_reply _
  source-walks (Err ChannelError.Busy) = walks_reply _
  source-walks (Err ChannelError.IllegalBlockingMode) = walks_reply _
  source-walks (Err ChannelError.CancelledKey) = walks_reply _
  source-walks (Err ChannelError.ClosedSelector) = walks_reply _
  source-walks (Err ChannelError.Full) = walks_reply _

  pipe-walks : (lacks : Bool) → Walks w (pipe_plan l lacks)
  unfolding pipe_plan
  pipe-walks lacks =
      walks_if lacks _ _ (walks_reply _)
      (walks_bind (open_channel_plan l Source) (with_source l) (open_channel-walks l Source) source-walks)

  interrupted_there-walks : (c : ChanId) (found : Bool) → Walks w (if_interrupted l c found)
  interrupted_there-walks c found =
      walks_if found _ _ (walks_bind (close_channel_plan l c) _ (closes c) (λ _. walks_reply _)) (walks_reply _)

  open-walks : (c : ChanId) (found : Chan) → Walks w (if_open l c found)
  open-walks c found =
      walks_if (not (is_open_channel found c.serial)) _ _ (walks_reply _)
      (walks_if found.blocking _ _ (walks_ask _ _ refl (λ answer. interrupted_there-walks c (flag_in answer)))
      (walks_reply _))

  try_read-walks : (source : ChanId) → Walks w (try_read_plan l source)
  unfolding try_read_plan
  try_read-walks source = walks_ask _ _ refl (λ answer. open-walks source (channel_in answer))

  unbroken-walks : (source : ChanId) (found : Result Bool PipeError) → Walks w (if_unbroken source found)
  unbroken-walks source (Ok blocking) = walks_ask _ _ refl (λ answer. walks_reply _)
  unbroken-walks source (Err refusal) = walks_reply _

  try_write-walks : (source sink : ChanId) → Walks w (try_write_plan l source sink)
  unfolding try_write_plan
  try_write-walks source sink =
      walks_ask _ _ refl
      (λ answer. walks_bind (if_open l sink (channel_in answer)) (if_unbroken source)
      (open-walks sink (channel_in answer)) (unbroken-walks source))

-- ---- each call

-- the calls that a law may mind: registering, closing a channel, and finishing the closing of a selector
pub record Blocks (w : Walk) (l : Limits) : Type 0 where
  pub registers : (s : SelNo) (c : ChanId) (ops att : ℕ) → Walks w (try_register_plan l s c ops att)
  pub closes : (c : ChanId) → Walks w (close_channel_plan l c)
  pub finishes : (s : SelNo) → IsCalmOn w s → Walks w (try_finish_plan s)

pub each_call : {w : Walk} (l : Limits) (lacks : Bool) (call : TableCall) → Blocks w l
    → ((s : SelNo) → (row_of call).works_on ≡ Some s → IsCalmOn w s)
    → ((s : SelNo) (mode : Mode) (known : List LookedKey) → call ≡ try_begin s mode (Some known) → IsCalmListing w s)
    → Walks w ((row_of call).plan l lacks)
unfolding find_selector_plan find_channel_plan find_plan is_valid_plan interest_plan set_interest_plan
    interest_or_plan interest_and_plan ready_plan unselect_plan attach_plan attachment_plan is_open_plan
    is_blocking_plan is_registered_plan try_set_blocking_plan open_selector_plan shut_plan keys_plan wakeup_plan
    interrupt_plan interrupted_plan take_list_plan
each_call l lacks (find_selector n) blocks calm lists = search walking depth 12
each_call l lacks (find_channel n serial) blocks calm lists = search walking depth 12
each_call l lacks (find s i serial) blocks calm lists = search walking depth 12
each_call l lacks (is_valid k) blocks calm lists = search walking depth 12
each_call l lacks (interest k) blocks calm lists = on_valid-walks k (λ _. look_set k) (λ stage. search walking depth 12)
each_call l lacks (set_interest k ops) blocks calm lists =
    on_valid-walks k (on_supported ops (put_set k ops)) (λ stage. search walking depth 12)
each_call l lacks (interest_or k ops) blocks calm lists =
    on_valid-walks k (on_supported ops (add_set k ops)) (λ stage. search walking depth 12)
each_call l lacks (interest_and k ops) blocks calm lists =
    on_valid-walks k (λ _. keep_set k ops) (λ stage. search walking depth 12)
each_call l lacks (ready k) blocks calm lists = on_valid-walks k (λ _. look_ready k) (λ stage. search walking depth 12)
each_call l lacks (cancel k) blocks calm lists = cancel-walks k
each_call l lacks (unselect k) blocks calm lists =
    walks_under_pin k.sel k.index (unselect_present k) (λ stage. search walking depth 12)
each_call l lacks (attach k att) blocks calm lists =
    walks_under_pin k.sel k.index (attach_present k att) (λ stage. search walking depth 12)
each_call l lacks (attachment k) blocks calm lists =
    walks_under_pin k.sel k.index (attachment_present k) (λ stage. search walking depth 12)
each_call l lacks (open_channel kind) blocks calm lists = open_channel-walks l kind
each_call l lacks (reopen_channel c) blocks calm lists = reopen_channel-walks l c
each_call l lacks (is_open c) blocks calm lists = search walking depth 12
each_call l lacks (is_blocking c) blocks calm lists = search walking depth 12
each_call l lacks (is_registered c) blocks calm lists = is_registered-walks l c
each_call l lacks (key_for c s) blocks calm lists = key_for-walks c s
each_call l lacks (try_set_blocking c on) blocks calm lists =
    walks_ask _ _ refl
    (λ answer. walks_if _ _ _
    (under_hold-walks ChannelError.Busy c.number (set_mode_held l c on) (mode_held-walks l c on))
    (walks_reply _))
each_call l lacks (try_register s c ops att) blocks calm lists = blocks.registers s c ops att
each_call l lacks (close_channel c) blocks calm lists = blocks.closes c
each_call l lacks open_selector blocks calm lists = search walking depth 12
each_call l lacks (take_list s) blocks calm lists = walks_ask _ _ refl (λ answer. walks_reply _)
each_call l lacks (try_begin s mode None) blocks calm lists = begin-walks s (calm s refl) mode None tt lacks
each_call l lacks (try_begin s mode (Some known)) blocks calm lists =
    begin-walks s (calm s refl) mode (Some known) (lists s mode known refl) lacks
each_call l lacks (told selection poll) blocks calm lists =
    told-walks selection (calm selection.selector refl) poll.pairs poll.elapsed
each_call l lacks (leave selection) blocks calm lists = leave-walks selection (calm selection.selector refl)
each_call l lacks (shut s) blocks calm lists = search walking
each_call l lacks (try_finish s) blocks calm lists = blocks.finishes s (calm s refl)
each_call l lacks (keys s) blocks calm lists = search walking depth 12
each_call l lacks (selected_keys s) blocks calm lists = selected_keys-walks s lacks
each_call l lacks (wakeup s) blocks calm lists = search walking
each_call l lacks (interrupt target) blocks calm lists = search walking
each_call l lacks interrupted blocks calm lists = search walking
each_call l lacks pipe blocks calm lists = pipe-walks l blocks.closes lacks
each_call l lacks (try_read source) blocks calm lists = try_read-walks l blocks.closes source
each_call l lacks (try_write source sink) blocks calm lists = try_write-walks l blocks.closes source sink

-- ---- where the calls that a law may mind are calm, or partly so

pub close_channel-walks : {w : Walk} (l : Limits) (c : ChanId)
    → ((from : Chan) → w.Calm (Question.close_bit c.number from)) → Walks w (close_channel_plan l c)
unfolding close_channel_plan
close_channel-walks {w = w} l c calm =
    walks_ask _ _ refl (λ answer. walks_if _ _ _ (found-walks (channel_in answer)) (walks_reply false))
  where
    keys-walks : Walks w (cancel_keys l c)
    keys-walks = search (walking, cancel_at-walks) depth 12

    more-walks : (from : Chan) → Walks w (close_once_more l c from)
    more-walks from =
        walks_calm _ _ (calm from) (λ answer. walks_if _ _ _ keys-walks (walks_reply false))

    found-walks : (from : Chan) → Walks w (close_found l c from)
    found-walks from =
        walks_calm _ _ (calm from) (λ answer. walks_if _ _ _ keys-walks
        (walks_if _ _ _ (more-walks (channel_in answer)) (walks_reply false)))

pub finish-walks : {w : Walk} (s : SelNo) → w.Calm (Question.enter s) → IsCalmOn w s → Walks w (try_finish_plan s)
unfolding try_finish_plan
finish-walks s enters calm = walks_calm _ _ enters (λ answer. search (walking, walks_calm, calm.removes) depth 12)

pub make_key-walks : {w : Walk} (s : SelNo) (c : ChanId) (ops att : ℕ) (k : KeyId)
    → w.Calm (Question.publish s k.index) → Walks w (make_key s c ops att k)
make_key-walks s c ops att k calm =
    walks_ask _ _ refl (λ gate. walks_if _ _ _ (walks_reply _)
    (walks_ask _ _ refl
    (λ _. walks_ask _ _ refl
    (λ _. walks_ask _ _ refl
    (λ _. walks_ask _ _ refl (λ _. walks_calm _ _ calm (λ before. walks_if _ _ _ (walks_reply _)
    (walks_ask _ _ refl
    (λ found. walks_bind (when (not (is_open_channel (channel_in found) c.serial)) (cancel_key s k.index)) _
    (search walking)
    (λ _. walks_reply _))))))))))

rest-walks : {w : Walk} (l : Limits) (s : SelNo) (c : ChanId) (ops att : ℕ)
    → Walks w (register_new l s c ops att)
    → (over : Option (Result KeyNo ChannelError)) → Walks w (register_rest l s c ops att over)
rest-walks l s c ops att makes None = makes
rest-walks l s c ops att makes (Some answer) = walks_reply answer

-- where a new key may be made
pub register-walks : {w : Walk} (l : Limits) (s : SelNo) (c : ChanId) (ops att : ℕ)
    → Walks w (register_new l s c ops att) → Walks w (try_register_plan l s c ops att)
unfolding try_register_plan
register-walks {w = w} l s c ops att makes =
    walks_ask _ _ refl (λ answer.
    let found = channel_in answer in
    walks_if (not (is_within ops (valid_operations found.kind))) (reply (Err ChannelError.IllegalOps)) _
    (walks_reply (Err ChannelError.IllegalOps))
    (walks_if (not (is_open_channel found c.serial)) (reply (Err ChannelError.ClosedChannel))
    (under_hold ChannelError.Busy c.number (register_held l s c ops att))
    (walks_reply (Err ChannelError.ClosedChannel))
    (under_hold-walks ChannelError.Busy c.number (register_held l s c ops att) held)))
  where
    held : Walks w (register_held l s c ops att)
    held = search (walking, over-walks, rest-walks l s c ops att makes) depth 12

-- ---- where claims and publishing are calm

-- an index may be claimed and its key published at any time, and the pin of a claim taken off
pub record IsCalmClaiming (w : Walk) : Type 0 where
  pub claims : (s : SelNo) (i : ℕ) (c : ChanNo) → w.Calm (Question.claim s i c)
  pub claims_again : (s : SelNo) (i : ℕ) (c : ChanNo) (from : Stage) → w.Calm (Question.claim_again s i c from)
  pub unpins : (s : SelNo) (i : ℕ) → w.Calm (Question.unpin s i)
  pub publishes : (s : SelNo) (i : ℕ) → w.Calm (Question.publish s i)

module _ {w : Walk} (calm : IsCalmClaiming w) where
  taken-walks : (s : SelNo) (c : ChanNo) (i : ℕ) → Walks w (claim_taken s c i)
  taken-walks s c i = search (walking, walks_calm, calm.claims_again) depth 12

  free-walks : (s : SelNo) (c : ChanNo) (i : ℕ) → Walks w (claim_free s c i)
  free-walks s c i = search (walking, taken-walks) depth 12

  word-walks : (s : SelNo) (c : ChanNo) (mark j : ℕ) → Walks w (claim_in_word s c mark j)
  word-walks s c mark j = search (walking, free-walks) depth 12

  claimed-walks : (s : SelNo) (c : ChanId) (ops att : ℕ) (k : KeyId) → Walks w (make_claimed s c ops att k)
  claimed-walks s c ops att k =
      walks_bind (make_key s c ops att k) _ (make_key-walks s c ops att k (calm.publishes s k.index))
      (λ answer. walks_calm _ _ (calm.unpins s k.index) (λ _. walks_reply answer))

  first-walks : (s : SelNo) (c : ChanId) (ops att : ℕ) (found : Option KeyId)
      → Walks w (register_first s c ops att found)
  first-walks s c ops att None = walks_reply _
  first-walks s c ops att (Some k) = walks_ask _ _ refl (λ _. claimed-walks s c ops att k)

  next-walks : (l : Limits) (s : SelNo) (c : ChanId) (ops att mark : ℕ) (found : Option KeyId)
      → Walks w (register_next l s c ops att mark found)
  next-walks l s c ops att mark None =
      walks_bind (seek_to l.keys mark (claim_new s c.number)) (register_first s c ops att)
      (search (walking, walks_calm, calm.claims) depth 12) (first-walks s c ops att)
  next-walks l s c ops att mark (Some k) = walks_ask _ _ refl (λ _. claimed-walks s c ops att k)

  pub new-walks : (l : Limits) (s : SelNo) (c : ChanId) (ops att : ℕ) → Walks w (register_new l s c ops att)
  new-walks l s c ops att =
      walks_ask _ _ refl (λ look. let mark = number_in look in
      walks_bind (search_free s c.number mark) (register_next l s c ops att mark)
      (search (walking, word-walks) depth 12) (next-walks l s c ops att mark))
