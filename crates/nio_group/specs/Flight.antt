-- The operations that a group has accepted, the queue of its completions, and what its calls make
-- of them.
use Rattle.std.specs.Prelude.{ℕ, ◌+◌, if◌then◌else◌, ◌==◌, List, [], ◌∷◌, ◌++◌, length, Option, Some, None, is_some}
use Rattle.std.specs.Prelude.{count_by, map, drop, slice_index_or, slice_set, IsTrue}
use Rattle.std.specs.Option.{option_map}
use Rattle.nio_base.specs.declared.numbers.GChan.{GChan}
use Rattle.nio_base.specs.declared.group.OpKind.{OpKind}
use Rattle.nio_base.specs.declared.group.Finished.{Finished}
use Rattle.nio_base.specs.declared.group.Finished.TheVariants.{Failed}
use Rattle.nio_base.specs.declared.group.Why.TheVariants.{AsynchronousClose}
use Rattle.nio_group.specs.declared.operation.Stage.{Stage}
use Rattle.nio_group.specs.declared.operation.Stage.TheVariants.{Queued, Running}
use Rattle.nio_group.specs.declared.operation.Operation.{Operation}
use Rattle.nio_group.specs.Stages.{is_on, is_pending_on, is_pending_as, stage_is_queued, at_stage}

-- each accepted operation by its number, where one that has ended is `None`; the numbers of those
-- whose completions wait, the first to be taken first; and how many may be in flight
pub record Flight : Type 0 where
  pub operations : List (Option Operation)
  pub queue : List ℕ
  pub limit : ℕ

-- the operation with this number; `None` where it has ended, or was never accepted
abbrev pub op_at : Flight → ℕ → Option Operation
op_at f n = slice_index_or f.operations n None

abbrev pub accepted : Flight → ℕ
accepted f = length f.operations

-- an operation is in flight until it has ended
abbrev pub in_flight : Flight → ℕ
in_flight f = count_by is_some f.operations

-- how many operations are in flight that were started on the channel of this name
abbrev pub in_flight_on : Flight → GChan → ℕ
in_flight_on f chan = count_by (is_on chan) f.operations

-- how often the queue lists this number
abbrev pub times_queued : Flight → ℕ → ℕ
times_queued f n = count_by (λ m. m == n) f.queue

-- the operation is pending on the channel with this number, and of this kind
abbrev pub IsPendingAs : Flight → ℕ → OpKind → ℕ → Type 0
IsPendingAs f c kind n = IsTrue (is_pending_as c kind (op_at f n))

abbrev pub no_flight : ℕ → Flight
no_flight limit = record { operations = []; queue = []; limit = limit }

-- one more operation; one that is queued at once goes to the queue's back
abbrev pub with_accepted : Flight → Operation → Flight
with_accepted f op =
    record f {
      operations = f.operations ++ Some op ∷ [];
      queue = if stage_is_queued op.stage then f.queue ++ accepted f ∷ [] else f.queue;
    }

-- the operation goes on to this stage
abbrev pub with_stage : Flight → ℕ → Stage → Flight
with_stage f n stage =
    record f { operations = slice_set f.operations n (option_map (at_stage stage) (op_at f n)) }

-- the operation's completion goes to the queue's back
abbrev pub with_completed : Flight → ℕ → Finished → Flight
with_completed f n finished =
    record (with_stage f n (Queued finished)) { queue = f.queue ++ n ∷ [] }

-- the completion at the queue's front is taken
abbrev pub with_taken : Flight → ℕ → Flight
with_taken f n = record (with_stage f n Running) { queue = drop 1 f.queue }

abbrev pub flight_after_take : Flight → List ℕ → Flight
flight_after_take f [] = f
flight_after_take f (n ∷ rest) = with_taken f n

-- the operation whose completion is at the front of the queue
abbrev pub next_taken : Flight → List ℕ → Option (ℕ × Operation)
next_taken f [] = None
next_taken f (n ∷ rest) = option_map (λ (op : Operation). (n, op)) (op_at f n)

-- the operation has ended
abbrev pub with_ended : Flight → ℕ → Flight
with_ended f n = record f { operations = slice_set f.operations n None }

-- the operation, if it is pending on the channel with this number, completes since the channel was closed
abbrev pub closed_on : ℕ → Option Operation → Option Operation
closed_on c slot =
    if is_pending_on c slot then option_map (at_stage (Queued (Failed AsynchronousClose))) slot else slot

-- the numbers of the operations that are pending on the channel `c`, in rising order, where the first
-- of these operations has the number `n`
abbrev pub pending_from : ℕ → ℕ → List (Option Operation) → List ℕ
pending_from c n [] = []
pending_from c n (slot ∷ rest) =
    if is_pending_on c slot then n ∷ pending_from c (n + 1) rest else pending_from c (n + 1) rest

-- each operation that is pending on the channel with this number completes, in rising order of their numbers
abbrev pub with_channel_closed : Flight → ℕ → Flight
with_channel_closed f c =
    record f {
      operations = map (closed_on c) f.operations;
      queue = f.queue ++ pending_from c 0 f.operations;
    }
