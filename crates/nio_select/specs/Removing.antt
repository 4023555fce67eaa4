-- Going over the indexes of a selector at the end of a selection.
use Rattle.std.specs.Prelude.{ℕ}
use Rattle.nio_base.specs.declared.numbers.SelNo.{SelNo}
use Rattle.nio_steps.specs.Plan.{Plan}
use Rattle.nio_steps.specs.Looking.{remove_if_cancelled}

-- The steps at one index: its key is removed where that is in the cancelled set. `before`, what the index before it left, is nothing.
abbrev pub removes_at : SelNo → ℕ → Unit {0} → Plan (Unit {0})
removes_at s i before = remove_if_cancelled s i
