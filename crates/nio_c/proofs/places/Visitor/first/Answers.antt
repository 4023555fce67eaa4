use Rattle.std.proofs.Common.{◌∙◌, sym, subst, ℕ, Option, None, List, replicate}
use Rattle.atomic_table.specs.Table.{opening}
use Rattle.nio_c.proofs.Visiting.{all_free}
use Rattle.nio_caller.specs.Callers.{Acting}
use Rattle.nio_c.specs.Visits.{AreKept, first_visits}
use Rattle.nio_c.proofs.places.Visitor.first.Goals as goal

pub vacant-requires : goal.vacant-requires
vacant-requires c =
    subst (λ (words : List ℕ). AreKept c.args.table.now
    (opening words (replicate {A = Option Acting} c.limits.result.callers None) (first_visits c.args.table.now)))
    (sym (c.as_slice.ensures.value ∙ c.in_ok-words.ensures.items_if_clones_equal (λ y e. e)))
    (all_free c.args.table.now c.limits.result.callers)
