-- A poller whose answers are given beforehand, as its callers see it.
use Rattle.std.specs.Prelude.{ℕ, Bool, true, false, if◌then◌else◌, List, [], ◌∷◌, ◌++◌}
use Rattle.nio_base.specs.declared.numbers.ChanNo.{ChanNo}
use Rattle.nio_bytes.specs.Calls.{Calls, after_success}
use Rattle.nio_history.specs.declared.found.Mode.{Mode}
use Rattle.nio_steps.specs.SelectCalls.{Poll}
use Rattle.nio_steps.specs.declared.looked.LookedKey.{LookedKey}
use Rattle.nio_poller.specs.Polled.{Polled}
use Rattle.nio_poller.specs.Polls.{told_of_channel}

pub record Script : Type 0 where
  -- the answers still to be given
  pub answers : List Poll
  -- the polls so far, those that failed too
  pub calls : Calls
  -- whether the last of them failed
  pub failed : Bool
  -- the polls that answered
  pub polls : List Polled

-- nothing is ready, and the time is over
abbrev pub nothing_ready : Poll
nothing_ready = record { pairs = []; elapsed = true }

-- the answer that comes next
abbrev pub next_answer : List Poll → Poll
next_answer [] = nothing_ready
next_answer (answer ∷ later) = answer

-- the answers after it
abbrev pub later_answers : List Poll → List Poll
later_answers [] = []
later_answers (answer ∷ later) = later

-- after a poll that answered
abbrev pub after_poll : Script → List LookedKey → Mode → Script
after_poll s asked mode = record {
  answers = later_answers s.answers;
  calls = after_success s.calls;
  failed = false;
  polls = s.polls ++ record { asked = asked; mode = mode; answer = next_answer s.answers } ∷ [];
}

-- what the last of these polls told of a channel
abbrev pub last_told : List Polled → ChanNo → ℕ
last_told [] c = 0
last_told (polled ∷ []) c = told_of_channel polled.asked polled.answer.pairs c
last_told (polled ∷ (next ∷ later)) c = last_told (next ∷ later) c

-- what the last poll told of a channel: nothing where it failed
abbrev pub told_last : Script → ChanNo → ℕ
told_last s c = if s.failed then 0 else last_told s.polls c
