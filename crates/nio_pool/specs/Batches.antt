-- What workers do to a group's core under its lock, and which completions they put into a queue.
use Rattle.std.specs.Prelude.{◌≡◌, ℕ, List, [], ◌∷◌, ◌++◌, All, map, Option, Some, None}
use Rattle.std.specs.List.{flat_map}
use Rattle.nio_base.specs.declared.numbers.OpNo.{OpNo}
use Rattle.nio_group.specs.Completion.{CompletionFields}
use Rattle.nio_group.specs.Group.{Group, IsLawful}
use Rattle.nio_group.specs.Run.{finish, left_by}
use Rattle.nio_group.specs.Steps.{answer_to_take, after_take}
use Rattle.nio_pool.specs.declared.worker.Found.{Found}
use Rattle.nio_pool.specs.declared.worker.Found.TheVariants.{Fresh, Waiting, End}
use Rattle.nio_pool.specs.Hands.{number}

-- the handlers of some operations have ended: from the one core to the other a `finish` of each is called, and nothing
-- else
pub record Finishes (old new : Group) : Type 0 where
  pub operations : List OpNo
  pub leaves : new ≡ left_by old (map finish operations)

-- from the one core to the other as many completions are taken as there are slots, and nothing else is done; the answer
-- of each `take` stands in its slot
abbrev pub TakesInto : List (Option CompletionFields) → Group → Group → Type 0
TakesInto [] old new = new ≡ old
TakesInto (slot ∷ slots) old new = (slot ≡ answer_to_take old) × TakesInto slots (after_take old) new

-- what is taken from a group under one hold of its lock
pub record IsBatch (slots : List (Option CompletionFields)) : Type 0 where
  pub core : Group
  pub left : Group
  pub lawful : IsLawful core
  pub taken : TakesInto slots core left

-- the numbers of the completions in these slots
abbrev pub numbers_in : List (Option CompletionFields) → List ℕ
numbers_in [] = []
numbers_in (None ∷ slots) = numbers_in slots
numbers_in (Some done ∷ slots) = number done ∷ numbers_in slots

-- a pass has put each completion of some batches, one after the other, and nothing else
pub record PutsBatches (old new : List ℕ) : Type 0 where
  pub batches : List (List (Option CompletionFields))
  pub each : All IsBatch batches
  pub put : new ≡ old ++ flat_map numbers_in batches

-- what is fresh is such a batch
abbrev pub FindsBatch : Found → Type 0
FindsBatch (Fresh slots) = IsBatch slots
FindsBatch (Waiting done) = Unit {0}
FindsBatch End = Unit {0}
