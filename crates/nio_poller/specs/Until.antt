-- What ends a selection: with which mode it begins for that, and what it is told of its polls.
use Rattle.std.specs.Prelude.{ℕ, ◌-◌, ◌^◌, ◌==◌, Bool, true, false, not, ◌&&◌, ◌||◌, List, bit_and}
use Rattle.std.specs.List.{list_any}
use Rattle.nio_history.specs.declared.found.Mode.{Mode}
use Rattle.nio_history.specs.declared.found.Mode.TheVariants.{Now as WithoutWaiting, Wait, For}
use Rattle.nio_steps.specs.SelectCalls.{Poll, is_timed, told_bits}
use Rattle.nio_steps.specs.declared.looked.LookedKey.{LookedKey}
use Rattle.nio_poller.specs.Polled.{Polled}
use Rattle.nio_poller.specs.declared.until.Until.{Until}
use Rattle.nio_poller.specs.declared.until.Until.TheVariants as until

-- ---- the mode that it begins with

-- the mode, with the greatest time where it waits without limit
abbrev pub with_time : Mode → Mode
with_time WithoutWaiting = WithoutWaiting
with_time Wait = For (record { after_the_first = 2 ^ 64 - 1 })
with_time (For time) = For time

-- A selection that ends once anything was told is told then that its time is over, so it begins with a time. Its polls
-- may wait as the given mode says.
abbrev pub begun_with : Until → Mode → Mode
begun_with until.Updated mode = mode
begun_with until.Told mode = with_time mode

-- ---- its polls

-- how long a poll may wait
abbrev pub mode_of_poll : (is_first : Bool) → Mode → Mode
mode_of_poll true mode = WithoutWaiting
mode_of_poll false mode = mode

-- a poll that asked for these keys
abbrev pub one_poll : List LookedKey → Mode → (is_first : Bool) → Poll → Polled
one_poll looked mode is_first answer =
    record { asked = looked; mode = mode_of_poll is_first mode; answer = answer }

-- ---- what it is told of them

-- whether anything was told of what the keys are looked for: of one of them, an operation of its interest
abbrev pub tells_some : List LookedKey → List (ℕ × ℕ) → Bool
tells_some looked pairs = list_any (λ entry. not (told_bits pairs entry == 0)) looked

-- whether a key of this index is looked for one of these operations
abbrev pub looked_for : List LookedKey → ℕ → ℕ → Bool
looked_for looked index ops =
    list_any (λ entry. (index == entry.index) && not (bit_and ops entry.interest == 0)) looked

-- whether the poll ends a selection that ends once anything was told: it told something of what it asked for, or it
-- might wait for a limited time and said that this is over
abbrev pub is_enough : Polled → Bool
is_enough polled =
    tells_some polled.asked polled.answer.pairs || (is_timed polled.mode && polled.answer.elapsed)

-- what such a selection is told of the poll
abbrev pub told_enough : Polled → Poll
told_enough polled = record polled.answer { elapsed = is_enough polled }

-- Whether the selection is told that its time is over. The first poll doesn't wait, so its `elapsed` isn't passed on.
abbrev pub is_elapsed : Until → (is_first : Bool) → Polled → Bool
is_elapsed until.Updated is_first polled = not is_first && polled.answer.elapsed
is_elapsed until.Told is_first polled = is_enough polled

-- what the selection is told of a poll
abbrev pub told_one : Until → (is_first : Bool) → Polled → Poll
told_one ends is_first polled = record polled.answer { elapsed = is_elapsed ends is_first polled }
