-- Worked cases: calls one after the other, from the opening state, and what each of them answers.
use Rattle.std.proofs.Common.{◌≡◌, ℕ, true, false, Some, None, Result, Ok, Err, [], ◌∷◌, refl}
use Rattle.nio_base.specs.declared.kind.Kind.{Kind}
use Rattle.nio_base.specs.declared.kind.Kind.TheVariants.{Stream, Source}
use Rattle.nio_base.specs.declared.limits.Limits.{Limits}
use Rattle.nio_base.specs.declared.numbers.CallerNo.{CallerNo}
use Rattle.nio_base.specs.declared.numbers.ChanId.{ChanId}
use Rattle.nio_base.specs.declared.numbers.KeyNo.{KeyNo}
use Rattle.nio_base.specs.declared.numbers.SelNo.{SelNo}
use Rattle.nio_history.specs.Answers.{bits_below, count_below}
use Rattle.nio_base.specs.Numbers.{last_serial}
use Rattle.nio_history.specs.State.{State, opening, with_chan}
use Rattle.nio_history.specs.declared.found.Mode.{Mode}
use Rattle.nio_history.specs.declared.found.Mode.TheVariants.{Now as WithoutWaiting, Wait, For}
use Rattle.nio_history.specs.declared.found.Stage.{Stage}
use Rattle.nio_history.specs.declared.why.Why.TheVariants.{Ready, Closed, Now, Woken, Interrupted, Elapsed}
use Rattle.nio_steps.specs.ChannelCalls.{open_channel_plan, reopen_channel_plan, is_open_plan, is_blocking_plan}
use Rattle.nio_steps.specs.ChannelCalls.{is_registered_plan}
use Rattle.nio_steps.specs.ChannelCalls.{key_for_plan, try_set_blocking_plan, try_register_plan, close_channel_plan}
use Rattle.nio_steps.specs.KeyCalls.{find_selector_plan, find_channel_plan, find_plan, is_valid_plan, interest_plan}
use Rattle.nio_steps.specs.KeyCalls.{set_interest_plan, interest_or_plan, interest_and_plan, ready_plan, cancel_plan}
use Rattle.nio_steps.specs.KeyCalls.{unselect_plan, attach_plan, attachment_plan}
use Rattle.nio_steps.specs.Names.{selector, channel, channel_of}
use Rattle.nio_steps.specs.Perform.{perform}
use Rattle.nio_steps.specs.PipeCalls.{PipeEnds, pipe_plan, try_read_plan, try_write_plan}
use Rattle.nio_steps.specs.Plan.{Plan}
use Rattle.nio_steps.specs.SelectCalls.{open_selector_plan, try_begin_plan, told_plan, leave_plan, shut_plan}
use Rattle.nio_steps.specs.SelectCalls.{try_finish_plan, keys_plan, selected_keys_plan, wakeup_plan, interrupt_plan}
use Rattle.nio_steps.specs.SelectCalls.{interrupted_plan, done, again, closing, already_closed, closed, busy, Selection}
use Rattle.nio_steps.specs.Looking.{not_free}
use Rattle.nio_steps.specs.Steps.{pin, unpin, try_hold_bit, release}
use Rattle.nio_steps.specs.Sweeps.{sweep, seek, sweep_over}
use Rattle.nio_steps.specs.declared.refusal.BeginError.{BeginError}
use Rattle.nio_steps.specs.declared.refusal.ChannelError.{ChannelError}
use Rattle.nio_steps.specs.declared.refusal.KeyError.{KeyError}
use Rattle.nio_steps.specs.declared.refusal.ListError.{ListError}
use Rattle.nio_steps.specs.declared.refusal.PipeError.{PipeError}
use Rattle.nio_steps.specs.declared.refusal.PipeMakeError.{PipeMakeError}
use Rattle.nio_steps.specs.declared.refusal.ReopenError.{ReopenError}
use Rattle.nio_steps.specs.declared.refusal.ReopenError.TheVariants.{Lost, Open, SerialsSpent, Registered}

-- all that the cases compute with
plans : Unit {0}
unfolding not_free count_below pipe_plan try_read_plan try_write_plan open_channel_plan is_open_plan is_blocking_plan
    reopen_channel_plan is_registered_plan key_for_plan try_set_blocking_plan try_register_plan close_channel_plan
    find_selector_plan find_channel_plan find_plan is_valid_plan interest_plan set_interest_plan interest_or_plan
    interest_and_plan ready_plan cancel_plan unselect_plan attach_plan attachment_plan open_selector_plan try_begin_plan
    told_plan leave_plan shut_plan try_finish_plan keys_plan selected_keys_plan wakeup_plan interrupt_plan
    interrupted_plan sweep seek sweep_over bits_below
plans = tt

-- ---- names

abbrev limits : Limits
limits = record { callers = 4; selectors = 2; channels = 4; keys = 4 }

abbrev t1 : CallerNo
t1 = record { 0 = 1 }

abbrev t2 : CallerNo
t2 = record { 0 = 2 }

abbrev s0 : SelNo
s0 = selector 0

-- the channel of this number with this serial
abbrev c : ℕ → ℕ → ChanId
c n serial = channel_of (channel n) serial

abbrev c0 : ChanId
c0 = c 0 0

-- the key of selector 0 with this index and serial
abbrev k : ℕ → ℕ → KeyNo
k i serial = record { sel = s0; index = i; serial = serial }

abbrev k0 : KeyNo
k0 = k 0 0

-- the call answers so, and after it goes what is said later
abbrev Says : {R : Type 0} → CallerNo → Plan R → R → (State → Type 0) → State → Type 0
Says me plan answer later st = ((perform me plan st).answer ≡ answer) × later (perform me plan st).state

abbrev End : State → Type 0
End st = Unit {0}

-- a selector, and a channel of this kind that is registered with this interest
abbrev Setup : Kind → ℕ → (State → Type 0) → State → Type 0
Setup kind ops later =
    Says t1 (open_selector_plan limits) (Ok s0) (Says t1 (open_channel_plan limits kind) (Ok c0)
    (Says t1 (try_set_blocking_plan limits c0 false) (Ok tt)
    (Says t1 (try_register_plan limits s0 c0 ops 0) (Ok k0) later)))

-- a selection that looks at key 0, or at no key
abbrev sel : Mode → ℕ → Selection
sel mode ops =
    record {
      selector = s0;
      mode = mode;
      bound = 1;
      looked = record {
        index = 0;
        serial = 0;
        channel = channel 0;
        interest = ops;
      } ∷ [];
      listed = false;
    }

abbrev no_key : Mode → Selection
no_key mode = record { selector = s0; mode = mode; bound = 1; looked = []; listed = false }

abbrev Begins : CallerNo → Mode → ℕ → (State → Type 0) → State → Type 0
Begins me mode ops = Says me (try_begin_plan s0 mode None false) (Ok (sel mode ops))

-- ---- the cases

one_selection : Setup Source 1 (Begins t1 WithoutWaiting 1
    (Says t1 (told_plan (sel WithoutWaiting 1) ((0, 1) ∷ []) false) (done (record { count = 1; why = Ready })) End))
    opening
unfolding plans
one_selection = (refl, (refl, (refl, (refl, (refl, (refl, tt))))))

refusals_before_non_blocking : Says t1 (open_selector_plan limits) (Ok s0)
    (Says t1 (open_channel_plan limits Source) (Ok c0)
    (Says t1 (try_register_plan limits s0 c0 1 0) (Err ChannelError.IllegalBlockingMode)
    (Says t1 (try_register_plan limits s0 c0 4 0) (Err ChannelError.IllegalOps) End))) opening
unfolding plans
refusals_before_non_blocking = (refl, (refl, (refl, (refl, tt))))

selecting_again_counts_nothing : Setup Source 1 (Begins t1 WithoutWaiting 1
    (Says t1 (told_plan (sel WithoutWaiting 1) ((0, 1) ∷ []) false) (done (record { count = 1; why = Ready }))
    (Begins t1 WithoutWaiting 1
    (Says t1 (told_plan (sel WithoutWaiting 1) ((0, 1) ∷ []) false) (done (record { count = 0; why = Now })) End))))
    opening
unfolding plans
selecting_again_counts_nothing = (refl, (refl, (refl, (refl, (refl, (refl, (refl, (refl, tt))))))))

unselected_key_starts_afresh : Setup Stream 5 (Begins t1 WithoutWaiting 5
    (Says t1 (told_plan (sel WithoutWaiting 5) ((0, 1) ∷ []) false) (done (record { count = 1; why = Ready }))
    (Says t1 (unselect_plan k0) true (Begins t1 WithoutWaiting 5
    (Says t1 (told_plan (sel WithoutWaiting 5) ((0, 4) ∷ []) false) (done (record { count = 1; why = Ready }))
    (Says t1 (ready_plan k0) (Ok 4) End)))))) opening
unfolding plans
unselected_key_starts_afresh = (refl, (refl, (refl, (refl, (refl, (refl, (refl, (refl, (refl, (refl, tt))))))))))

selected_key_gathers_bits : Setup Stream 5 (Begins t1 WithoutWaiting 5
    (Says t1 (told_plan (sel WithoutWaiting 5) ((0, 1) ∷ []) false) (done (record { count = 1; why = Ready }))
    (Begins t1 WithoutWaiting 5
    (Says t1 (told_plan (sel WithoutWaiting 5) ((0, 4) ∷ []) false) (done (record { count = 1; why = Ready }))
    (Says t1 (ready_plan k0) (Ok 5) End))))) opening
unfolding plans
selected_key_gathers_bits = (refl, (refl, (refl, (refl, (refl, (refl, (refl, (refl, (refl, tt)))))))))

wakeups_act_as_one : Setup Source 1 (Says t2 (wakeup_plan s0) false (Says t2 (wakeup_plan s0) true (Begins t1 Wait 1
    (Says t1 (told_plan (sel Wait 1) [] false) (done (record { count = 0; why = Woken })) (Begins t1 Wait 1
    (Says t1 (told_plan (sel Wait 1) [] false) (again (sel Wait 1)) End)))))) opening
unfolding plans
wakeups_act_as_one = (refl, (refl, (refl, (refl, (refl, (refl, (refl, (refl, (refl, (refl, tt))))))))))

select_now_uses_wakeup_up : Setup Source 1 (Says t2 (wakeup_plan s0) false (Begins t1 WithoutWaiting 1
    (Says t1 (told_plan (sel WithoutWaiting 1) [] false) (done (record { count = 0; why = Now })) (Begins t1 Wait 1
    (Says t1 (told_plan (sel Wait 1) [] false) (again (sel Wait 1)) End))))) opening
unfolding plans
select_now_uses_wakeup_up = (refl, (refl, (refl, (refl, (refl, (refl, (refl, (refl, (refl, tt)))))))))

cancel_during_selection : Setup Source 1 (Begins t1 Wait 1 (Says t2 (cancel_plan k0) tt
    (Says t1 (told_plan (sel Wait 1) ((0, 1) ∷ []) false) (done (record { count = 1; why = Ready }))
    (Says t1 (selected_keys_plan s0 false) (Ok []) (Says t1 (keys_plan s0 false) (Ok []) End))))) opening
unfolding plans
cancel_during_selection = (refl, (refl, (refl, (refl, (refl, (refl, (refl, (refl, (refl, tt)))))))))

cancelled_key_until_selection : Setup Source 1 (Says t1 (cancel_plan k0) tt (Says t1 (key_for_plan c0 s0) (Some k0)
    (Says t1 (try_register_plan limits s0 c0 1 0) (Err ChannelError.CancelledKey)
    (Says t1 (try_begin_plan s0 WithoutWaiting None false) (Ok (no_key WithoutWaiting))
    (Says t1 (told_plan (no_key WithoutWaiting) [] false) (done (record { count = 0; why = Now }))
    (Says t1 (key_for_plan c0 s0) None
    (Says t1 (try_register_plan limits s0 c0 1 0) (Ok (k 0 1)) End))))))) opening
unfolding plans
cancelled_key_until_selection =
    (refl, (refl, (refl, (refl, (refl, (refl, (refl, (refl, (refl, (refl, (refl, tt)))))))))))

closing_in_two_parts : Setup Source 1 (Begins t1 Wait 1 (Says t2 (shut_plan s0) closing (Says t1 (is_valid_plan k0) true
    (Says t1 (told_plan (sel Wait 1) [] false) (done (record { count = 0; why = Closed }))
    (Says t2 (try_finish_plan s0) closed (Says t1 (is_valid_plan k0) false
    (Says t1 (try_begin_plan s0 WithoutWaiting None false) (Err BeginError.ClosedSelector)
    (Says t2 (wakeup_plan s0) false (Says t2 (shut_plan s0) already_closed
    (Says t1 (is_registered_plan limits c0) false End)))))))))) opening
unfolding plans
closing_in_two_parts =
    (refl, (refl, (refl, (refl, (refl, (refl, (refl, (refl, (refl, (refl, (refl, (refl, (refl, (refl, tt))))))))))))))

busy_turn : Setup Source 1
    (Begins t1 Wait 1
    (Says t2 (try_begin_plan s0 WithoutWaiting None false) (Err BeginError.Busy) (Says t2 (shut_plan s0) closing
    (Says t2 (try_finish_plan s0) busy (Says t2 (try_begin_plan s0 WithoutWaiting None false) (Err BeginError.ClosedSelector)
    (Says t1 (keys_plan s0 false) (Err ListError.ClosedSelector) End)))))) opening
unfolding plans
busy_turn = (refl, (refl, (refl, (refl, (refl, (refl, (refl, (refl, (refl, (refl, tt))))))))))

closed_channel_cancels_keys : Setup Source 1
    (Says t2 (close_channel_plan limits c0) true (Says t1 (interest_plan k0) (Err KeyError.CancelledKey)
    (Says t1 (try_set_blocking_plan limits c0 true) (Err ChannelError.ClosedChannel)
    (Says t2 (close_channel_plan limits c0) false
    (Says t1 (is_valid_plan k0) false (Says t1 (is_open_plan c0) false End)))))) opening
unfolding plans
closed_channel_cancels_keys = (refl, (refl, (refl, (refl, (refl, (refl, (refl, (refl, (refl, (refl, tt))))))))))

bits_outside_the_kind : Setup Source 1 (Says t1 (interest_and_plan k0 254) (Ok 1) (Says t1 (interest_plan k0) (Ok 0)
    (Says t1 (interest_or_plan k0 4) (Err KeyError.IllegalOps) (Says t1 (set_interest_plan k0 1) (Ok tt) End)))) opening
unfolding plans
bits_outside_the_kind = (refl, (refl, (refl, (refl, (refl, (refl, (refl, (refl, tt))))))))

interrupted_selection : Setup Source 1 (Says t2 (interrupt_plan t1) tt (Begins t1 Wait 1
    (Says t1 (told_plan (sel Wait 1) [] false) (done (record { count = 0; why = Interrupted }))
    (Says t1 interrupted_plan true (Says t1 interrupted_plan false End))))) opening
unfolding plans
interrupted_selection = (refl, (refl, (refl, (refl, (refl, (refl, (refl, (refl, (refl, tt)))))))))

told_unasked_bits : Setup Source 1 (Begins t1 WithoutWaiting 1
    (Says t1 (told_plan (sel WithoutWaiting 1) ((0, 4) ∷ (7, 1) ∷ []) false) (done (record { count = 0; why = Now }))
    (Says t1 (ready_plan k0) (Ok 0) End))) opening
unfolding plans
told_unasked_bits = (refl, (refl, (refl, (refl, (refl, (refl, (refl, tt)))))))

failed_poll_keeps_wakeup : Setup Source 1
    (Says t2 (wakeup_plan s0) false (Begins t1 Wait 1 (Says t1 (leave_plan (sel Wait 1)) tt (Begins t1 Wait 1
    (Says t1 (told_plan (sel Wait 1) [] false) (done (record { count = 0; why = Woken })) End))))) opening
unfolding plans
failed_poll_keeps_wakeup = (refl, (refl, (refl, (refl, (refl, (refl, (refl, (refl, (refl, tt)))))))))

attachments : Setup Source 1
    (Says t1 (attach_plan k0 7) 0
    (Says t1 (try_register_plan limits s0 c0 0 0) (Ok k0)
    (Says t1 (attachment_plan k0) 7 (Says t1 (interest_plan k0) (Ok 0)
    (Says t1 (try_register_plan limits s0 c0 1 18446744073709551615) (Ok k0)
    (Says t1 (attach_plan k0 0) 18446744073709551615 End)))))) opening
unfolding plans
attachments = (refl, (refl, (refl, (refl, (refl, (refl, (refl, (refl, (refl, (refl, tt))))))))))

-- five milliseconds
abbrev five : Mode
five = For (record { after_the_first = 4 })

timeouts : Setup Source 1 (Begins t1 five 1 (Says t1 (told_plan (sel five 1) [] false) (again (sel five 1))
    (Says t1 (told_plan (sel five 1) [] true) (done (record { count = 0; why = Elapsed })) (Begins t1 Wait 1
    (Says t1 (told_plan (sel Wait 1) [] true) (again (sel Wait 1)) End))))) opening
unfolding plans
timeouts = (refl, (refl, (refl, (refl, (refl, (refl, (refl, (refl, (refl, tt)))))))))

abbrev few : Limits
few = record { callers = 2; selectors = 1; channels = 4; keys = 2 }

abbrev Opens : ℕ → (State → Type 0) → State → Type 0
Opens n = Says t1 (open_channel_plan few Source) (Ok (c n 0))

abbrev Unblocks : ℕ → (State → Type 0) → State → Type 0
Unblocks n = Says t1 (try_set_blocking_plan few (c n 0) false) (Ok tt)

small_limits : Says t1 (open_selector_plan few) (Ok s0) (Says t1 (open_selector_plan few) (Err (record {}))
    (Opens 0 (Opens 1 (Opens 2 (Opens 3 (Says t1 (open_channel_plan few Source) (Err ChannelError.ChannelsSpent)
    (Unblocks 0
    (Unblocks 1
    (Unblocks 2
    (Says t1 (try_register_plan few s0 (c 0 0) 1 0) (Ok k0)
    (Says t1 (try_register_plan few s0 (c 1 0) 1 0) (Ok (k 1 0))
    (Says t1 (try_register_plan few s0 (c 2 0) 1 0) (Err ChannelError.Full)
    (Says t1 (try_register_plan few s0 (c 0 0) 0 0) (Ok k0) End))))))))))))) opening
unfolding plans
small_limits =
    (refl, (refl, (refl, (refl, (refl, (refl, (refl, (refl, (refl, (refl, (refl, (refl, (refl, (refl, tt))))))))))))))

-- no memory for the looked list: the turn is free, and a wakeup stays
no_memory : Setup Source 1
    (Says t2 (wakeup_plan s0) false (Says t1 (try_begin_plan s0 Wait None true) (Err BeginError.Memory) (Begins t2 Wait 1
    (Says t2 (told_plan (sel Wait 1) [] false) (done (record { count = 0; why = Woken })) End)))) opening
unfolding plans
no_memory = (refl, (refl, (refl, (refl, (refl, (refl, (refl, (refl, tt))))))))

-- names that are made or not, and a channel's mode
names : Setup Source 1
    (Says t1 (find_selector_plan limits 0) (Some s0)
    (Says t1 (find_selector_plan limits 1) None (Says t1 (find_selector_plan limits 2) None
    (Says t1 (find_channel_plan limits 0 0) (Some c0)
    (Says t1 (find_channel_plan limits 1 0) None
    (Says t1 (find_plan limits s0 0 0) (Some k0) (Says t1 (find_plan limits s0 1 0) None
    (Says t1 (find_plan limits s0 4 0) None
    (Says t1 (is_blocking_plan c0) false
    (Says t1 (try_set_blocking_plan limits c0 true) (Err ChannelError.IllegalBlockingMode)
    (Says t1 (keys_plan s0 false) (Ok (k0 ∷ [])) (Says t1 (selected_keys_plan s0 false) (Ok []) End)))))))))))) opening
unfolding plans
names = (
  refl,
  (
    refl,
    (
      refl,
      (refl, (refl, (refl, (refl, (refl, (refl, (refl, (refl, (refl, (refl, (refl, (refl, (refl, tt))))))))))))),
    ),
  ),
)

-- ---- an index that is given again

abbrev one_key : Limits
one_key = record { callers = 4; selectors = 1; channels = 2; keys = 1 }

-- a removed key, on which another caller has a pin
abbrev removed : Stage
removed = record { claimed = true; published = true; cancelled = true; removed = true; chan = channel 0; serial = 0 }

abbrev Registers : ChanId → ℕ → Result KeyNo ChannelError → (State → Type 0) → State → Type 0
Registers ch att = Says t1 (try_register_plan one_key s0 ch 1 att)

index_given_again : Says t1 (open_selector_plan one_key) (Ok s0)
    (Opens 0 (Opens 1 (Unblocks 0 (Unblocks 1 (Registers c0 5 (Ok k0)
    (Says t1 (cancel_plan k0) tt (Says t1 (try_begin_plan s0 WithoutWaiting None false) (Ok (no_key WithoutWaiting))
    (Says t1 (told_plan (no_key WithoutWaiting) [] false) (done (record { count = 0; why = Now }))
    (Says t2 (pin s0 0) removed
    (Registers (c 1 0) 0 (Err ChannelError.Full) (Says t2 (unpin s0 0) tt (Registers (c 1 0) 0 (Ok (k 0 1))
    (Says t1 (is_valid_plan k0) false
    (Says t1 (attachment_plan k0) 0
    (Says t1 (ready_plan (k 0 1)) (Ok 0) (Says t1 (find_plan one_key s0 0 0) (Some k0)
    (Says t1 (find_plan one_key s0 0 2) None End))))))))))))))))) opening
unfolding plans
index_given_again = (
  refl,
  (
    refl,
    (
      refl,
      (
        refl,
        (
          refl,
          (
            refl,
            (refl, (refl, (refl, (refl, (refl, (refl, (refl, (refl, (refl, (refl, (refl, (refl, tt)))))))))))),
          ),
        ),
      ),
    ),
  ),
)

-- ---- a number that is given again

abbrev one_channel : Limits
one_channel = record { callers = 4; selectors = 1; channels = 1; keys = 1 }

abbrev Reopens : ℕ → Result ChanId ReopenError → (State → Type 0) → State → Type 0
Reopens serial = Says t1 (reopen_channel_plan one_channel (c 0 serial))

-- a closed channel's number goes to a channel of its kind, and the old name is that of a closed channel
number_given_again : Says t1 (open_channel_plan one_channel Source) (Ok c0)
    (Reopens 0 (Err Open)
    (Says t1 (open_channel_plan one_channel Source) (Err ChannelError.ChannelsSpent)
    (Says t1 (close_channel_plan one_channel c0) true
    (Says t1 (open_channel_plan one_channel Stream) (Err ChannelError.ChannelsSpent)
    (Says t1 (open_channel_plan one_channel Source) (Ok (c 0 1))
    (Says t1 (is_open_plan c0) false (Says t1 (is_open_plan (c 0 1)) true
    (Says t1 (is_blocking_plan c0) false (Says t1 (is_blocking_plan (c 0 1)) true
    (Says t1 (try_set_blocking_plan one_channel c0 false) (Err ChannelError.ClosedChannel)
    (Says t1 (close_channel_plan one_channel c0) false
    (Reopens 0 (Err Lost)
    (Says t1 (find_channel_plan one_channel 0 0) (Some c0) (Says t1 (find_channel_plan one_channel 0 1) (Some (c 0 1))
    (Says t1 (find_channel_plan one_channel 0 2) None End))))))))))))))) opening
unfolding plans
number_given_again = (
  refl,
  (
    refl,
    (
      refl,
      (
        refl,
        (
          refl,
          (
            refl,
            (
              refl,
              (
                refl,
                (refl, (refl, (refl, (refl, (refl, (refl, (refl, (refl, tt)))))))),
              ),
            ),
          ),
        ),
      ),
    ),
  ),
)

-- not while a key of the channel is in a key set, nor while another caller has the hold
reopened_once_clear : Says t1 (open_selector_plan one_channel) (Ok s0)
    (Says t1 (open_channel_plan one_channel Source) (Ok c0)
    (Says t1 (try_set_blocking_plan one_channel c0 false) (Ok tt)
    (Says t1 (try_register_plan one_channel s0 c0 1 0) (Ok k0)
    (Says t1 (close_channel_plan one_channel c0) true (Says t1 (key_for_plan c0 s0) (Some k0)
    (Says t1 (is_registered_plan one_channel c0) true
    (Reopens 0 (Err Registered)
    (Says t1 (open_channel_plan one_channel Source) (Err ChannelError.ChannelsSpent)
    (Says t1 (try_begin_plan s0 WithoutWaiting None false) (Ok (no_key WithoutWaiting))
    (Says t1 (told_plan (no_key WithoutWaiting) [] false) (done (record { count = 0; why = Now }))
    (Says t2 (try_hold_bit (channel 0)) None
    (Reopens 0 (Err ReopenError.Busy) (Says t2 (release (channel 0)) tt
    (Reopens 0 (Ok (c 0 1))
    (Says t1 (try_set_blocking_plan one_channel (c 0 1) false) (Ok tt)
    (Says t1 (try_register_plan one_channel s0 c0 1 0) (Err ChannelError.ClosedChannel)
    (Says t1 (try_register_plan one_channel s0 (c 0 1) 1 0) (Ok (k 0 1))
    (Says t1 (key_for_plan c0 s0) None (Says t1 (is_registered_plan one_channel c0) false
    (Says t1 (key_for_plan (c 0 1) s0) (Some (k 0 1))
    (Says t1 (is_registered_plan one_channel (c 0 1)) true End))))))))))))))))))))) opening
unfolding plans
reopened_once_clear = (
  refl,
  (
    refl,
    (
      refl,
      (
        refl,
        (
          refl,
          (
            refl,
            (
              refl,
              (
                refl,
                (
                  refl,
                  (
                    refl,
                    (
                      refl,
                      (refl, (refl, (refl, (refl, (refl, (refl, (refl, (refl, (refl, (refl, (refl, tt))))))))))),
                    ),
                  ),
                ),
              ),
            ),
          ),
        ),
      ),
    ),
  ),
)

-- a closed channel with the last serial
abbrev worn : State
worn = with_chan opening 0
    (record { made = true; kind = Source; closed = true; blocking = true; serial = last_serial })

serials_spent : Reopens last_serial (Err SerialsSpent)
    (Says t1 (open_channel_plan one_channel Source) (Err ChannelError.ChannelsSpent) End) worn
unfolding plans
serials_spent = (refl, (refl, tt))

-- ---- a key that is registered during a selection

cancelled_meanwhile : Setup Source 1
    (Says t2 (open_channel_plan limits Source) (Ok (c 1 0))
    (Says t2 (try_set_blocking_plan limits (c 1 0) false) (Ok tt)
    (Begins t1 WithoutWaiting 1
    (Says t2 (try_register_plan limits s0 (c 1 0) 1 0) (Ok (k 1 0)) (Says t2 (cancel_plan (k 1 0)) tt
    (Says t1 (keys_plan s0 false) (Ok (k0 ∷ k 1 0 ∷ []))
    (Says t1 (told_plan (sel WithoutWaiting 1) [] false) (done (record { count = 0; why = Now }))
    (Says t1 (keys_plan s0 false) (Ok (k0 ∷ [])) End)))))))) opening
unfolding plans
cancelled_meanwhile = (refl, (refl, (refl, (refl, (refl, (refl, (refl, (refl, (refl, (refl, (refl, (refl, tt))))))))))))

-- ---- pipes

abbrev ends : PipeEnds
ends = record { source = c 0 0; sink = c 1 0 }

pipes : Says t1 (pipe_plan few false) (Ok ends)
    (Says t1 (try_read_plan few (c 0 0)) (Ok true) (Says t1 (try_set_blocking_plan few (c 1 0) false) (Ok tt)
    (Says t1 (try_write_plan few (c 0 0) (c 1 0)) (Ok false)
    (Says t2 (interrupt_plan t1) tt (Says t1 (try_read_plan few (c 0 0)) (Err PipeError.ClosedByInterrupt)
    (Says t1 (try_read_plan few (c 0 0)) (Err PipeError.ClosedChannel)
    (Says t1 (try_write_plan few (c 0 0) (c 1 0)) (Err PipeError.BrokenPipe)
    (Opens 2 (Says t1 (pipe_plan few true) (Err PipeMakeError.Memory)
    (Says t1 (pipe_plan few false) (Err PipeMakeError.ChannelsSpent)
    (Says t1 (is_open_plan (c 3 0)) false End))))))))))) opening
unfolding plans
pipes = (refl, (refl, (refl, (refl, (refl, (refl, (refl, (refl, (refl, (refl, (refl, (refl, tt))))))))))))
