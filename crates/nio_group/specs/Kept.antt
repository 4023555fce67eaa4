-- How the operations in flight are kept in a slab.
use Rattle.std.specs.Prelude.{◌≡◌, ℕ, ◌≤◌, ◌^◌, List, Option, Some, None, is_some, count_by, map, IsSomeAnd}
use Rattle.std.specs.Option.{option_map}
use Rattle.std.specs.List.{range_with_len}
use Rattle.slab.specs.Slab.{Slab, get, slab_len}
use Rattle.nio_group.specs.declared.operation.Operation.{Operation}
use Rattle.nio_group.specs.declared.operations.Numbered.{Numbered}
use Rattle.nio_group.specs.Index.{Index, key_of, entries}

-- the operation that the slab has at this key
abbrev pub operation_in : Slab Numbered → Option ℕ → Option Operation
operation_in slab None = None
operation_in slab (Some key) = option_map (λ (x : Numbered). x.operation) (get slab key)

-- the operation in flight with this number
abbrev pub operation_of : Slab Numbered → Index → ℕ → Option Operation
operation_of slab index n = operation_in slab (key_of index n)

-- each accepted operation, where those that aren't in the slab have ended
abbrev pub kept_operations : Slab Numbered → Index → ℕ → List (Option Operation)
kept_operations slab index accepted = map (operation_of slab index) (range_with_len 0 accepted)

pub record IsKept (slab : Slab Numbered) (index : Index) (accepted limit : ℕ) : Type 0 where
  -- the index leads to an operation with that number
  pub leads : (n key : ℕ) → key_of index n ≡ Some key → IsSomeAnd (get slab key) (λ x. x.number ≡ n)
  -- no number is in use that wasn't accepted
  pub below : (n : ℕ) → accepted ≤ n → key_of index n ≡ None
  pub counted : count_by is_some (kept_operations slab index accepted) ≡ slab_len slab
  pub indexed : entries index ≡ slab_len slab
  pub within : slab_len slab ≤ limit
  pub room : limit ≤ slab.capacity
  pub index_limit : index.limit ≡ limit
  pub few_accepted : accepted ≤ 2 ^ 62
  pub few_limit : limit ≤ 65536
