-- What ends a call along its plan.
use Rattle.std.proofs.Common.{◌≡◌, Bool, Option, Some, None, Result, Ok, Err, IfOk, IfSome, List, subst, sym}
use Rattle.nio_base.specs.declared.numbers.CallerNo.{CallerNo}
use Rattle.nio_history.specs.PassViews.{PassView, ActsClause}
use Rattle.nio_history.specs.declared.act.Act.{Act}
use Rattle.nio_steps.proofs.CallLaws.{left_after}
use Rattle.nio_steps.specs.Calls.{CallClause, PartClause}
use Rattle.nio_steps.specs.Plan.{Plan}
use Rattle.nio_steps.specs.Runs.{Completes}

-- nothing more was done after these acts, and what is left of the plan is this
pub left_at : {R : Type 0} {me : CallerNo} {acts : List Act} {v0 v1 : PassView} {plan : Plan R} {rest : Plan R}
    → plan ≡ rest → ActsClause me acts v0 v1 → PartClause me plan v1 v1 rest
left_at {me = me} {v1 = v1} {plan = plan} same clause =
    subst (λ left. PartClause me plan v1 v1 left) same (left_after clause)

-- a test in what is left of the plan
pub left_choice : {R : Type 0} {me : CallerNo} {v0 v1 : PassView} {rest : Plan R} {b c : Bool} (plan : Bool → Plan R)
    → b ≡ c → PartClause me (plan c) v0 v1 rest
    → PartClause me (plan b) v0 v1 rest
left_choice {me = me} {v0 = v0} {v1 = v1} {rest = rest} plan is part =
    subst (λ (x : Bool). PartClause me (plan x) v0 v1 rest) (sym is) part

-- a call whose plan is by a value that is known to be this one
pub call_from : {X R : Type 0} {me : CallerNo} {v0 v1 : PassView} {answer : R} {x y : X} (plan : X → Plan R) → x ≡ y
    → CallClause me (Completes (plan y)) v0 v1 answer
    → CallClause me (Completes (plan x)) v0 v1 answer
call_from {X = X} {me = me} {v0 = v0} {v1 = v1} {answer = answer} plan is call =
    subst (λ (z : X). CallClause me (Completes (plan z)) v0 v1 answer) (sym is) call

-- what follows of an answer that isn't a refusal
pub each_ok : {A E : Type 0} {P Q : A → Type 0} (r : Result A E) → IfOk r P → ((x : A) → P x → Q x) → IfOk r Q
each_ok (Ok x) here more = more x here
each_ok (Err e) here more = tt

pub each_some_ok : {A E : Type 0} {P Q : A → Type 0} (o : Option (Result A E)) → IfSome o (λ r. IfOk r P)
    → ((x : A) → P x → Q x) → IfSome o (λ r. IfOk r Q)
each_some_ok None here more = tt
each_some_ok (Some r) here more = each_ok r here more
