-- Calls that are made one after the other are one call.
use Rattle.std.proofs.Common.{List}
use Rattle.std.proofs.Common.{◌∙◌, subst}
use Rattle.nio_base.specs.declared.limits.Limits.{Limits}
use Rattle.nio_base.specs.declared.numbers.CallerNo.{CallerNo}
use Rattle.nio_history.specs.PassViews.{PassView}
use Rattle.nio_history.specs.declared.act.Act.{Act}
use Rattle.nio_steps.specs.Calls.{CallClause}
use Rattle.nio_words.specs.Passes.{limits_of}
use Rattle.nio_words.specs.declared.words.Words.{Words}
use Rattle.nio_caller.specs.Callers.{Acting, IsSameCaller, StillHas}

-- a call of the same caller, at its table
pub call_moved : {R : Type 0} {c0 c1 : Acting} {v1 v2 : PassView} (Shape : Limits → List Act → R → Type 0) (answer : R)
    → IsSameCaller c0 c1 → CallClause c1.number (Shape (limits_of c1.table)) v1 v2 answer
    → CallClause c0.number (Shape (limits_of c0.table)) v1 v2 answer
call_moved {c0 = c0} {c1 = c1} {v1 = v1} {v2 = v2} Shape answer same call =
    subst (λ (n : CallerNo). CallClause n (Shape (limits_of c0.table)) v1 v2 answer) same.number
    (subst (λ (w : Words). CallClause c1.number (Shape (limits_of w)) v1 v2 answer) same.table call)

pub still_then : {v0 v1 v2 : PassView} → StillHas v0 v1 → StillHas v1 v2 → StillHas v0 v2
still_then first second = record {
  selectors = λ s has. second.selectors s (first.selectors s has);
  channels = λ c has. second.channels c (first.channels c has);
  keys = λ k has. second.keys k (first.keys k has);
  selects = λ n s may. second.selects n s (first.selects n s may);
}

pub same_then : {c0 c1 c2 : Acting} → IsSameCaller c0 c1 → IsSameCaller c1 c2 → IsSameCaller c0 c2
same_then first second =
    record { table = second.table ∙ first.table; number = second.number ∙ first.number }
