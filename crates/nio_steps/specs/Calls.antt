-- The promise of a call on a pass: what the pass has seen grew by what the caller did, which has the shape
-- of the call, and by what other callers did.
use Rattle.std.specs.Prelude.{List}
use Rattle.nio_base.specs.declared.numbers.CallerNo.{CallerNo}
use Rattle.nio_history.specs.PassViews.{PassView, done_between, ActsClause}
use Rattle.nio_history.specs.declared.act.Act.{Act}
use Rattle.nio_steps.specs.Plan.{Plan}
use Rattle.nio_steps.specs.Runs.{Follows}

-- A call of `me` on a pass, before and after, that answered so. A shape says of acts and an answer whether
-- a caller that makes the call may do these acts and have this answer: `Completes` of a plan is one, and
-- `Repeats` is that of a call that waits.
pub record CallClause {R : Type 0} (me : CallerNo) (Shape : List Act → R → Type 0) (old new : PassView)
    (answer : R) : Type 0 where
  pub acts : ActsClause me (done_between me old new) old new
  pub shape : Shape (done_between me old new) answer

-- a call that has come along its plan so far that this is left
abbrev pub PartClause : {R : Type 0} → CallerNo → Plan R → PassView → PassView → Plan R → Type 0
PartClause me plan old new rest = CallClause me (Follows plan) old new rest
