-- What a group keeps of its operations: those in flight, in a slab, with an index from their
-- numbers to their keys there.
use Rattle.std.specs.Prelude.{ℕ, List, Option, None, slice_set, slice_index_or}
use Rattle.nio_group.specs.declared.operation.Operation.{Operation}

-- each accepted operation by its number, where one that has ended is `None`, and how many may be in
-- flight
pub record Accepted : Type 0 where
  pub operations : List (Option Operation)
  pub limit : ℕ

abbrev pub operation_at : Accepted → ℕ → Option Operation
operation_at a n = slice_index_or a.operations n None

abbrev pub with_operation : Accepted → ℕ → Option Operation → Accepted
with_operation a n slot = record a { operations = slice_set a.operations n slot }
