-- The histories of whole calls, and of steps that no calls make, by computing.
use Rattle.std.proofs.Common.{◌≡◌, true, false, Ok, List, [], ◌∷◌, ◌++◌, take, drop, refl, arith, lit<, lit≤}
use Rattle.nio_base.specs.Numbers.{first_channel}
use Rattle.nio_base.specs.declared.kind.Kind.TheVariants.{Source}
use Rattle.nio_base.specs.declared.limits.Limits.{Limits}
use Rattle.nio_history.proofs.Legal.{legal_empty}
use Rattle.nio_history.proofs.WorkedSteps.{AreSteps, legal_by_steps, below_one, ◌▸◌}
use Rattle.nio_history.specs.Answers.{bits_below, count_below}
use Rattle.nio_history.specs.Histories.{state_after, mine}
use Rattle.nio_history.specs.OwnEvents.{is_clear}
use Rattle.nio_history.specs.Worked.{u, v, s, c, small_limits}
use Rattle.nio_history.specs.declared.act.Act.{Act}
use Rattle.nio_orderly.proofs.CallLists.{run_one}
use Rattle.nio_orderly.proofs.Examples.{for_each_caller, cancellation_is_lost}
use Rattle.nio_orderly.proofs.OrderlyCare.{orderly_is_careful}
use Rattle.nio_orderly.specs.Examples.{unenrolled_key}
use Rattle.nio_orderly.specs.Made.{Made, IsRun, draw, table_call}
use Rattle.nio_orderly.specs.Orderly.{AreRuns, AreCallsOf, HasMadeCalls}
use Rattle.nio_orderly.specs.OrderlyExamples.{closed_in_registration, its_key, calls_of_u, calls_of_v}
use Rattle.nio_orderly.specs.OrderlyExamples.{next_channel, reopened_meanwhile, reopening_calls_of_u}
use Rattle.nio_orderly.specs.OrderlyExamples.{ClosedInRegistration, ReopenedMeanwhile, StepsOfNoCalls}
use Rattle.nio_steps.specs.ChannelCalls.{open_channel_plan, reopen_channel_plan, try_set_blocking_plan}
use Rattle.nio_steps.specs.ChannelCalls.{try_register_plan, close_channel_plan}
use Rattle.nio_steps.specs.KeyCalls.{cancel_plan}
use Rattle.nio_steps.specs.SelectCalls.{open_selector_plan}
use Rattle.nio_steps.specs.Sweeps.{sweep, seek}
use Rattle.nio_steps.specs.TableCalls.{open_selector, open_channel, reopen_channel, try_set_blocking, try_register}
use Rattle.nio_steps.specs.TableCalls.{close_channel}

its_steps : AreSteps small_limits [] closed_in_registration
unfolding bits_below count_below
its_steps =
    record { by_caller = lit< tt; condition = (lit< tt, refl, refl); answers = refl } ▸
    record { by_caller = lit< tt; condition = (lit< tt, refl, refl); answers = refl } ▸
    -- u opens a selector and a channel
    record { by_caller = lit< tt; condition = lit< tt; answers = refl } ▸
    record { by_caller = lit< tt; condition = tt; answers = refl } ▸
    record { by_caller = lit< tt; condition = (lit< tt, λ n below. absurd (omega arith)); answers = refl } ▸
    record {
      by_caller = lit< tt;
      condition =
          (lit≤ tt, below_one (λ k. ((state_after (take 5 closed_in_registration)).chan k).made ≡ true) refl);
      answers = refl;
    } ▸
    -- it sets non-blocking mode
    record { by_caller = lit< tt; condition = lit< tt; answers = refl } ▸
    record { by_caller = lit< tt; condition = (lit< tt, refl); answers = refl } ▸
    record { by_caller = lit< tt; condition = lit< tt; answers = refl } ▸
    record { by_caller = lit< tt; condition = (lit< tt, refl, λ e. absurd cc); answers = refl } ▸
    record { by_caller = lit< tt; condition = (lit< tt, refl); answers = refl } ▸
    -- it registers the channel, till the key is published
    record { by_caller = lit< tt; condition = lit< tt; answers = refl } ▸
    record { by_caller = lit< tt; condition = (lit< tt, refl); answers = refl } ▸
    record { by_caller = lit< tt; condition = lit< tt; answers = refl } ▸
    record { by_caller = lit< tt; condition = (lit< tt, lit< tt); answers = refl } ▸
    record { by_caller = lit< tt; condition = lit< tt; answers = refl } ▸
    record { by_caller = lit< tt; condition = lit< tt; answers = refl } ▸
    record {
      by_caller = lit< tt;
      condition = ((lit< tt, lit< tt), lit< tt, refl, λ n below. absurd (omega arith));
      answers = refl;
    } ▸
    record {
      by_caller = lit< tt;
      condition = (
        lit< tt,
        lit≤ tt,
        below_one (λ k. ((state_after (take 18 closed_in_registration)).key 0 k).claimed ≡ true)
            refl,
      );
      answers = refl;
    } ▸
    record { by_caller = lit< tt; condition = lit< tt; answers = refl } ▸
    record { by_caller = lit< tt; condition = ((lit< tt, lit< tt), refl); answers = refl } ▸
    record { by_caller = lit< tt; condition = ((lit< tt, lit< tt), refl, refl); answers = refl } ▸
    record { by_caller = lit< tt; condition = ((lit< tt, lit< tt), refl); answers = refl } ▸
    record { by_caller = lit< tt; condition = (lit< tt, (lit< tt, lit< tt), refl, refl, refl); answers = refl } ▸
    record { by_caller = lit< tt; condition = ((lit< tt, lit< tt), refl, refl); answers = refl } ▸
    -- v closes the channel, and cancels its key
    record { by_caller = lit< tt; condition = lit< tt; answers = refl } ▸
    record {
      by_caller = lit< tt;
      condition = (lit< tt, record { made = refl; open_then = refl; kind = refl; was = refl });
      answers = refl;
    } ▸
    record { by_caller = lit< tt; condition = (lit< tt, lit< tt); answers = refl } ▸
    record { by_caller = lit< tt; condition = lit< tt; answers = refl } ▸
    record { by_caller = lit< tt; condition = ((lit< tt, lit< tt), refl, refl); answers = refl } ▸
    record { by_caller = lit< tt; condition = ((lit< tt, lit< tt), refl); answers = refl } ▸
    record { by_caller = lit< tt; condition = ((lit< tt, lit< tt), refl, refl, refl); answers = refl } ▸
    record { by_caller = lit< tt; condition = ((lit< tt, lit< tt), refl); answers = refl } ▸
    -- u goes on with its registration
    record { by_caller = lit< tt; condition = lit< tt; answers = refl } ▸
    record { by_caller = lit< tt; condition = ((lit< tt, lit< tt), refl, refl, refl); answers = refl } ▸
    record { by_caller = lit< tt; condition = ((lit< tt, lit< tt), refl); answers = refl } ▸
    record { by_caller = lit< tt; condition = (lit< tt, refl); answers = refl } ▸
    tt

-- ---- the calls

next_call : (l : Limits) (call : Made) (calls : List Made) (xs ys : List Act) → IsRun l call xs → AreRuns l calls ys
    → AreRuns l (call ∷ calls) (xs ++ ys)
next_call l call calls xs ys run later =
    record { first = xs; second = ys; parts = refl; is_first = run; is_second = later }

abbrev own_u : List Act
own_u = mine u closed_in_registration

abbrev own_v : List Act
own_v = mine v closed_in_registration

opens_selector : IsRun small_limits (table_call open_selector (Ok s)) (take 1 (drop 1 own_u))
unfolding open_selector_plan seek
opens_selector = refl ▸ refl

opens_channel : IsRun small_limits (table_call (open_channel Source) (Ok (first_channel c))) (take 3 (drop 2 own_u))
unfolding open_channel_plan seek
opens_channel = refl ▸ refl ▸ refl ▸ refl

sets_blocking : IsRun small_limits (table_call (try_set_blocking (first_channel c) false) (Ok tt))
    (take 5 (drop 5 own_u))
unfolding try_set_blocking_plan
sets_blocking = refl ▸ refl ▸ refl ▸ refl ▸ refl ▸ refl

registers : IsRun small_limits (table_call (try_register s (first_channel c) 1 7) (Ok its_key)) (drop 10 own_u)
unfolding try_register_plan seek
registers =
    refl ▸ refl ▸ refl ▸ refl ▸ refl ▸ refl ▸ refl ▸ refl ▸ refl ▸ refl ▸ refl ▸ refl ▸ refl ▸ refl ▸ refl ▸ refl ▸ refl
    ▸ refl ▸ refl

closes_channel : IsRun small_limits (table_call (close_channel (first_channel c)) true) (drop 1 own_v)
unfolding close_channel_plan cancel_plan sweep
closes_channel = refl ▸ refl ▸ refl ▸ refl ▸ refl ▸ refl ▸ refl ▸ refl ▸ refl

runs_u : AreRuns small_limits calls_of_u own_u
runs_u =
    next_call small_limits (draw u) (drop 1 calls_of_u) (take 1 own_u) (drop 1 own_u) refl
    (next_call small_limits (table_call open_selector (Ok s)) (drop 2 calls_of_u) (take 1 (drop 1 own_u))
    (drop 2 own_u) opens_selector
    (next_call small_limits (table_call (open_channel Source) (Ok (first_channel c))) (drop 3 calls_of_u)
    (take 3 (drop 2 own_u)) (drop 5 own_u) opens_channel
    (next_call small_limits (table_call (try_set_blocking (first_channel c) false) (Ok tt)) (drop 4 calls_of_u)
    (take 5 (drop 5 own_u)) (drop 10 own_u) sets_blocking
    (run_one small_limits (table_call (try_register s (first_channel c) 1 7) (Ok its_key)) (drop 10 own_u)
    registers))))

runs_v : AreRuns small_limits calls_of_v own_v
runs_v = next_call small_limits (draw v) (drop 1 calls_of_v) (take 1 own_v) (drop 1 own_v) refl
    (run_one small_limits (table_call (close_channel (first_channel c)) true) (drop 1 own_v) closes_channel)

calls_u : AreCallsOf small_limits own_u calls_of_u
calls_u = record { runs = runs_u; in_order = tt ▸ tt ▸ tt ▸ tt ▸ tt ▸ tt }

calls_v : AreCallsOf small_limits own_v calls_of_v
calls_v = record { runs = runs_v; in_order = tt ▸ tt ▸ tt }

made_none : HasMadeCalls small_limits []
made_none = record { calls = []; are = record { runs = refl; in_order = tt } }

pub closed_in_registration_is_whole : ClosedInRegistration
closed_in_registration_is_whole = record {
  legal = legal_by_steps small_limits [] closed_in_registration (legal_empty small_limits) its_steps;
  whole = for_each_caller closed_in_registration refl (HasMadeCalls small_limits)
      (record { calls = calls_of_u; are = calls_u }) (record { calls = calls_of_v; are = calls_v }) made_none;
  of_u = calls_u;
  of_v = calls_v;
  cancelled = refl;
}

-- ---- a number that comes back while its channel's closing is on its way

reopening_steps : AreSteps small_limits [] reopened_meanwhile
unfolding bits_below count_below
reopening_steps =
    record { by_caller = lit< tt; condition = (lit< tt, refl, refl); answers = refl } ▸
    record { by_caller = lit< tt; condition = (lit< tt, refl, refl); answers = refl } ▸
    -- u opens a selector and a channel
    record { by_caller = lit< tt; condition = lit< tt; answers = refl } ▸
    record { by_caller = lit< tt; condition = tt; answers = refl } ▸
    record { by_caller = lit< tt; condition = (lit< tt, λ n below. absurd (omega arith)); answers = refl } ▸
    record {
      by_caller = lit< tt;
      condition = (lit≤ tt, below_one (λ k. ((state_after (take 5 reopened_meanwhile)).chan k).made ≡ true) refl);
      answers = refl;
    } ▸
    -- v closes the channel
    record { by_caller = lit< tt; condition = lit< tt; answers = refl } ▸
    record {
      by_caller = lit< tt;
      condition = (lit< tt, record { made = refl; open_then = refl; kind = refl; was = refl });
      answers = refl;
    } ▸
    -- u gives its number to a new one
    record { by_caller = lit< tt; condition = lit< tt; answers = refl } ▸
    record { by_caller = lit< tt; condition = (lit< tt, refl); answers = refl } ▸
    record { by_caller = lit< tt; condition = (lit< tt, lit< tt); answers = refl } ▸
    record {
      by_caller = lit< tt;
      condition = (lit< tt, refl, refl, refl, lit< tt, below_one (λ k. is_clear 0 k own ≡ true) refl);
      answers = refl;
    } ▸
    record { by_caller = lit< tt; condition = (lit< tt, refl); answers = refl } ▸
    -- it sets non-blocking mode
    record { by_caller = lit< tt; condition = lit< tt; answers = refl } ▸
    record { by_caller = lit< tt; condition = (lit< tt, refl); answers = refl } ▸
    record { by_caller = lit< tt; condition = lit< tt; answers = refl } ▸
    record { by_caller = lit< tt; condition = (lit< tt, refl, λ e. absurd cc); answers = refl } ▸
    record { by_caller = lit< tt; condition = (lit< tt, refl); answers = refl } ▸
    -- it registers the new channel
    record { by_caller = lit< tt; condition = lit< tt; answers = refl } ▸
    record { by_caller = lit< tt; condition = (lit< tt, refl); answers = refl } ▸
    record { by_caller = lit< tt; condition = lit< tt; answers = refl } ▸
    record { by_caller = lit< tt; condition = (lit< tt, lit< tt); answers = refl } ▸
    record { by_caller = lit< tt; condition = lit< tt; answers = refl } ▸
    record { by_caller = lit< tt; condition = lit< tt; answers = refl } ▸
    record {
      by_caller = lit< tt;
      condition = ((lit< tt, lit< tt), lit< tt, refl, λ n below. absurd (omega arith));
      answers = refl;
    } ▸
    record {
      by_caller = lit< tt;
      condition = (
        lit< tt,
        lit≤ tt,
        below_one (λ k. ((state_after (take 25 reopened_meanwhile)).key 0 k).claimed ≡ true) refl,
      );
      answers = refl;
    } ▸
    record { by_caller = lit< tt; condition = lit< tt; answers = refl } ▸
    record { by_caller = lit< tt; condition = ((lit< tt, lit< tt), refl); answers = refl } ▸
    record { by_caller = lit< tt; condition = ((lit< tt, lit< tt), refl, refl); answers = refl } ▸
    record { by_caller = lit< tt; condition = ((lit< tt, lit< tt), refl); answers = refl } ▸
    record { by_caller = lit< tt; condition = (lit< tt, (lit< tt, lit< tt), refl, refl, refl); answers = refl } ▸
    record { by_caller = lit< tt; condition = ((lit< tt, lit< tt), refl, refl); answers = refl } ▸
    record { by_caller = lit< tt; condition = lit< tt; answers = refl } ▸
    record { by_caller = lit< tt; condition = ((lit< tt, lit< tt), refl); answers = refl } ▸
    record { by_caller = lit< tt; condition = (lit< tt, refl); answers = refl } ▸
    -- v finds a key, and no key of the channel that it closed
    record { by_caller = lit< tt; condition = (lit< tt, lit< tt); answers = refl } ▸
    record { by_caller = lit< tt; condition = lit< tt; answers = refl } ▸
    tt
  where
    -- what u did before it gives the number to the new channel
    own : List Act
    own = mine u (take 11 reopened_meanwhile)

abbrev again_u : List Act
again_u = mine u reopened_meanwhile

abbrev again_v : List Act
again_v = mine v reopened_meanwhile

opens_first : IsRun small_limits (table_call open_selector (Ok s)) (take 1 (drop 1 again_u))
unfolding open_selector_plan seek
opens_first = refl ▸ refl

opens_number : IsRun small_limits (table_call (open_channel Source) (Ok (first_channel c))) (take 3 (drop 2 again_u))
unfolding open_channel_plan seek
opens_number = refl ▸ refl ▸ refl ▸ refl

reopens_number : IsRun small_limits (table_call (reopen_channel (first_channel c)) (Ok next_channel))
    (take 5 (drop 5 again_u))
unfolding reopen_channel_plan seek
reopens_number = refl ▸ refl ▸ refl ▸ refl ▸ refl ▸ refl

sets_next : IsRun small_limits (table_call (try_set_blocking next_channel false) (Ok tt)) (take 5 (drop 10 again_u))
unfolding try_set_blocking_plan
sets_next = refl ▸ refl ▸ refl ▸ refl ▸ refl ▸ refl

registers_next : IsRun small_limits (table_call (try_register s next_channel 1 7) (Ok its_key)) (drop 15 again_u)
unfolding try_register_plan seek
registers_next =
    refl ▸ refl ▸ refl ▸ refl ▸ refl ▸ refl ▸ refl ▸ refl ▸ refl ▸ refl ▸ refl ▸ refl ▸ refl ▸ refl ▸ refl ▸ refl ▸ refl
    ▸ refl

closes_first : IsRun small_limits (table_call (close_channel (first_channel c)) true) (drop 1 again_v)
unfolding close_channel_plan cancel_plan sweep
closes_first = refl ▸ refl ▸ refl ▸ refl ▸ refl

reopening_runs_u : AreRuns small_limits reopening_calls_of_u again_u
reopening_runs_u =
    next_call small_limits (draw u) (drop 1 reopening_calls_of_u) (take 1 again_u) (drop 1 again_u) refl
    (next_call small_limits (table_call open_selector (Ok s)) (drop 2 reopening_calls_of_u) (take 1 (drop 1 again_u))
    (drop 2 again_u) opens_first
    (next_call small_limits (table_call (open_channel Source) (Ok (first_channel c))) (drop 3 reopening_calls_of_u)
    (take 3 (drop 2 again_u)) (drop 5 again_u) opens_number
    (next_call small_limits (table_call (reopen_channel (first_channel c)) (Ok next_channel))
    (drop 4 reopening_calls_of_u) (take 5 (drop 5 again_u)) (drop 10 again_u) reopens_number
    (next_call small_limits (table_call (try_set_blocking next_channel false) (Ok tt)) (drop 5 reopening_calls_of_u)
    (take 5 (drop 10 again_u)) (drop 15 again_u) sets_next
    (run_one small_limits (table_call (try_register s next_channel 1 7) (Ok its_key)) (drop 15 again_u)
    registers_next)))))

reopening_runs_v : AreRuns small_limits calls_of_v again_v
reopening_runs_v = next_call small_limits (draw v) (drop 1 calls_of_v) (take 1 again_v) (drop 1 again_v) refl
    (run_one small_limits (table_call (close_channel (first_channel c)) true) (drop 1 again_v) closes_first)

reopening_calls_u : AreCallsOf small_limits again_u reopening_calls_of_u
reopening_calls_u = record { runs = reopening_runs_u; in_order = tt ▸ tt ▸ tt ▸ tt ▸ tt ▸ tt ▸ tt }

reopening_calls_v : AreCallsOf small_limits again_v calls_of_v
reopening_calls_v = record { runs = reopening_runs_v; in_order = tt ▸ tt ▸ tt }

pub reopened_meanwhile_is_whole : ReopenedMeanwhile
reopened_meanwhile_is_whole = record {
  legal = legal_by_steps small_limits [] reopened_meanwhile (legal_empty small_limits) reopening_steps;
  whole = for_each_caller reopened_meanwhile refl (HasMadeCalls small_limits)
      (record { calls = reopening_calls_of_u; are = reopening_calls_u })
      (record { calls = calls_of_v; are = reopening_calls_v }) made_none;
  of_u = reopening_calls_u;
  of_v = reopening_calls_v;
  valid = refl;
  is_open = refl;
}

-- ---- steps of no calls

pub steps_of_no_calls : StepsOfNoCalls
steps_of_no_calls = record {
  legal = cancellation_is_lost.legal;
  disorderly = λ l orderly. cancellation_is_lost.careless (orderly_is_careful l unenrolled_key orderly);
}
