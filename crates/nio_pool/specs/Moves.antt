-- What moving completions from a group's core into a queue does.
use Rattle.std.specs.Prelude.{◌≡◌, ◌-◌, ◌^◌, List, [], ◌∷◌, ◌++◌, length, map, min, Option, Some, None}
use Rattle.nio_group.specs.Completion.{CompletionFields}
use Rattle.nio_group.specs.Group.{Group}
use Rattle.nio_pool.specs.Batches.{TakesInto}
use Rattle.nio_pool.specs.Hands.{number}
use Rattle.nio_pool.specs.Queues.{PassFields}
use Rattle.nio_pool.specs.declared.moving.Moved.{Moved}

-- a pass has put these, one after the other
abbrev pub with_all_put : PassFields → List CompletionFields → PassFields
with_all_put p done = record p { hand = record p.hand { put = p.hand.put ++ map number done } }

-- the one that had no room
abbrev pub left_over : Option CompletionFields → List CompletionFields
left_over None = []
left_over (Some done) = done ∷ []

-- From the one core to the other the completions at the front were taken, each once. The pass has put them all, in this
-- order, but for one that the queue had no room for. Where there is no such one, none is left in the core.
pub record Moves (core left : Group) (old new : PassFields) (moved : Moved) : Type 0 where
  pub done : List CompletionFields
  pub taken : TakesInto (map Some (done ++ left_over moved.back)) core left
  pub put : new ≡ with_all_put old done
  pub counted : moved.count ≡ min (length done) (2 ^ 64 - 1)
  pub none_left : moved.back ≡ None → left.flight.queue ≡ []
