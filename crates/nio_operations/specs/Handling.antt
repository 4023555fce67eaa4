-- What handling completions does to the group: the operations that are due next are started, and those that have
-- completed end.
use Rattle.std.specs.Prelude.{◌≡◌, ℕ, List, [], ◌∷◌, ◌++◌, length, map}
use Rattle.nio_group.specs.Completion.{CompletionFields}
use Rattle.nio_group.specs.Group.{Group}
use Rattle.nio_group.specs.Steps.{after_finish}
use Rattle.nio_jobs.specs.Handling.{after_result, held_after_result}
use Rattle.nio_jobs.specs.Starters.{of_group}
use Rattle.nio_pool.specs.Hands.{number}
use Rattle.nio_pool.specs.Queues.{PassFields}

-- an operation has completed: what is due is started, if its channel was made
abbrev pub after_due : List ℕ → Group → CompletionFields → Group
after_due held g done = after_result of_group held g done.chan done.kind done.finished

-- how many bytes the directions hold then
abbrev pub held_after_due : List ℕ → Group → CompletionFields → List ℕ
held_after_due held g done = held_after_result of_group held g done.chan done.kind done.finished

-- its handler has run, and has ended
abbrev pub after_handled : List ℕ → Group → CompletionFields → Group
after_handled held g done = after_finish (after_due held g done) done.op.0

-- how many bytes the directions hold, and the group
pub record Handled : Type 0 where
  pub held : List ℕ
  pub group : Group

-- a completion was handled
abbrev pub after_one : Handled → CompletionFields → Handled
after_one h done = record {
  held = held_after_due h.held h.group done;
  group = after_handled h.held h.group done;
}

-- these were, each once, in their order
abbrev pub after_all : Handled → List CompletionFields → Handled
after_all h [] = h
after_all h (done ∷ rest) = after_all (after_one h done) rest

-- a pass has taken these
abbrev pub with_all_taken : PassFields → List CompletionFields → PassFields
with_all_taken p done = record p { hand = record p.hand { taken = p.hand.taken ++ map number done } }

-- The first completion was handled, and then each that the pass has taken, so many in all.
pub record Handles (first : CompletionFields) (before now : Handled) (old new : PassFields) (count : ℕ) : Type 0 where
  pub more : List CompletionFields
  pub taken : new ≡ with_all_taken old more
  pub handled : now ≡ after_all before (first ∷ more)
  pub counted : count ≡ length (first ∷ more)
