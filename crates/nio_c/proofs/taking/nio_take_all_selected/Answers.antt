use Rattle.std.proofs.Common.{◌∙◌, sym}
use Rattle.nio_c.proofs.Unselecting.{same_table}
use Rattle.nio_c.proofs.taking.nio_take_all_selected.Goals as goal

pub invariant_of-behind-kept : goal.invariant_of-behind-kept
invariant_of-behind-kept c = c.behind-kept.invariant ∙ sym (same_table _ _ _ _ _ c.take_all-answer.ensures)
