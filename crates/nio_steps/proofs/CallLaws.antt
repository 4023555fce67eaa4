-- What puts steps and calls together: the promise of a call from those of its parts.
use Rattle.std.proofs.Common.{◌≡◌, ℕ, Bool, true, false, if◌then◌else◌, List, [], ◌∷◌, ◌++◌, refl, sym, subst}
use Rattle.nio_base.specs.declared.numbers.CallerNo.{CallerNo}
use Rattle.nio_base.specs.declared.numbers.SelNo.{SelNo}
use Rattle.nio_history.proofs.PassViews.{done-is, acts_nothing, acts_then}
use Rattle.nio_history.specs.Histories.{IsLegal}
use Rattle.nio_history.specs.PassViews.{PassView, done_between, ActsClause}
use Rattle.nio_history.specs.Questions.{Answer, question_of, answer_of}
use Rattle.nio_history.specs.declared.act.Act.{Act}
use Rattle.nio_history.specs.declared.act.Act.TheVariants.{Pin, Unpin}
use Rattle.nio_history.specs.declared.found.Stage.{Stage}
use Rattle.nio_steps.proofs.RunLaws.{bind-reply, follows_more, follows_bind}
use Rattle.nio_steps.specs.Calls.{CallClause, PartClause}
use Rattle.nio_steps.specs.KeyCalls.{under_pin}
use Rattle.nio_steps.specs.Plan.{Plan, reply, ask, ◌>>=◌, ◌>>◌}
use Rattle.nio_steps.specs.Runs.{Follows, Completes}
use Rattle.nio_steps.specs.Steps.{unpin, stage_in}

-- acts of this shape, by which the history went on, are the call
pub call_of_acts : {R : Type 0} {me : CallerNo} {v0 v1 : PassView} (Shape : List Act → R → Type 0) (acts : List Act)
    (answer : R)
    → ActsClause me acts v0 v1 → Shape acts answer → CallClause me Shape v0 v1 answer
call_of_acts {me = me} {v0 = v0} {v1 = v1} Shape acts answer clause shape =
    let same = sym (done-is me acts v0 v1 clause) in
    record { acts = subst (λ xs. ActsClause me xs v0 v1) same clause; shape = subst (λ xs. Shape xs answer) same shape }

-- one call and then another are a call of each shape that their acts have together
pub calls_then : {A B R : Type 0} {me : CallerNo} {First : List Act → A → Type 0} {Second : List Act → B → Type 0}
    {a : A} {b : B} {v0 v1 v2 : PassView}
    (Shape : List Act → R → Type 0) (answer : R)
    → ((xs ys : List Act) → First xs a → Second ys b → Shape (xs ++ ys) answer)
    → CallClause me First v0 v1 a → CallClause me Second v1 v2 b → CallClause me Shape v0 v2 answer
calls_then {me = me} {v0 = v0} {v1 = v1} {v2 = v2} Shape answer together first second =
    let xs = done_between me v0 v1 in
    let ys = done_between me v1 v2 in
    call_of_acts Shape (xs ++ ys) answer (acts_then me xs ys v0 v1 v2 first.acts second.acts)
    (together xs ys first.shape second.shape)

-- a call is one of each shape that its acts have
pub call_as : {A R : Type 0} {me : CallerNo} {First : List Act → A → Type 0} {a : A} {v0 v1 : PassView}
    (Shape : List Act → R → Type 0) (answer : R)
    → ((xs : List Act) → First xs a → Shape xs answer) → CallClause me First v0 v1 a → CallClause me Shape v0 v1 answer
call_as {me = me} {v0 = v0} {v1 = v1} Shape answer fits call =
    record { acts = call.acts; shape = fits (done_between me v0 v1) call.shape }

-- ---- along a plan
--
-- `left_` is what is left of the plan, `ran_` a whole run of it.

-- nothing is left but the answer: the call has returned
pub returned : {R : Type 0} {me : CallerNo} {plan : Plan R} {answer : R} {v0 v1 : PassView}
    → PartClause me plan v0 v1 (reply answer) → CallClause me (Completes plan) v0 v1 answer
returned {plan = plan} {answer = answer} part = call_as (Completes plan) answer (λ xs follows. follows) part

pub left_of_call : {R : Type 0} {me : CallerNo} {plan : Plan R} {answer : R} {v0 v1 : PassView}
    → CallClause me (Completes plan) v0 v1 answer → PartClause me plan v0 v1 (reply answer)
left_of_call {plan = plan} {answer = answer} call =
    call_as (Follows plan) (reply answer) (λ xs completes. completes) call

-- nothing was done yet
pub left_start : {R : Type 0} (me : CallerNo) (plan : Plan R) (pass : PassView) → IsLegal pass.limits pass.seen
    → PartClause me plan pass pass plan
left_start me plan pass legal = call_of_acts (Follows plan) [] plan (acts_nothing me pass legal) refl

-- nothing more was done after these acts
pub left_after : {R : Type 0} {me : CallerNo} {acts : List Act} {v0 v1 : PassView} {plan : Plan R}
    → ActsClause me acts v0 v1 → PartClause me plan v1 v1 plan
left_after {me = me} {v0 = v0} {v1 = v1} {plan = plan} clause =
    left_start me plan v1 (subst (λ l. IsLegal l v1.seen) (sym clause.limits) clause.history.legal)

pub left_after_call : {A R : Type 0} {me : CallerNo} {Shape : List Act → A → Type 0} {answer : A} {v0 v1 : PassView}
    {plan : Plan R}
    → CallClause me Shape v0 v1 answer → PartClause me plan v1 v1 plan
left_after_call call = left_after call.acts

-- a part of a call, and then a part of what was left
pub left_more : {R : Type 0} {me : CallerNo} {plan middle rest : Plan R} {v0 v1 v2 : PassView}
    → PartClause me plan v0 v1 middle → PartClause me middle v1 v2 rest → PartClause me plan v0 v2 rest
left_more {plan = plan} {middle = middle} {rest = rest} first second =
    calls_then (Follows plan) rest (λ xs ys here there. follows_more plan xs middle ys rest here there) first second

-- one step is a part of a call that asks it
pub left_one : {R : Type 0} {me : CallerNo} {act : Act} {v0 v1 : PassView} (next : Answer → Plan R)
    → ActsClause me (act ∷ []) v0 v1 → PartClause me (ask (question_of act) next) v0 v1 (next (answer_of act))
left_one {act = act} next step =
    call_of_acts (Follows (ask (question_of act) next)) (act ∷ []) (next (answer_of act)) step (refl, refl)

-- a step, and then a part of how the call goes on with its answer
pub left_ask : {R : Type 0} {me : CallerNo} {act : Act} {v0 v1 v2 : PassView} {rest : Plan R} (next : Answer → Plan R)
    → ActsClause me (act ∷ []) v0 v1 → PartClause me (next (answer_of act)) v1 v2 rest
    → PartClause me (ask (question_of act) next) v0 v2 rest
left_ask next step second = left_more (left_one next step) second

-- a branch that is taken
pub left_then : {R : Type 0} {me : CallerNo} {v0 v1 : PassView} {rest : Plan R} (b : Bool) (x y : Plan R)
    → b ≡ true → PartClause me x v0 v1 rest → PartClause me (if b then x else y) v0 v1 rest
left_then {me = me} {v0 = v0} {v1 = v1} {rest = rest} b x y is part =
    subst (λ (c : Bool). PartClause me (if c then x else y) v0 v1 rest) (sym is) part

-- a branch that isn't
pub left_else : {R : Type 0} {me : CallerNo} {v0 v1 : PassView} {rest : Plan R} (b : Bool) (x y : Plan R)
    → b ≡ false → PartClause me y v0 v1 rest → PartClause me (if b then x else y) v0 v1 rest
left_else {me = me} {v0 = v0} {v1 = v1} {rest = rest} b x y is part =
    subst (λ (c : Bool). PartClause me (if c then x else y) v0 v1 rest) (sym is) part

-- a part of a call in the middle of a call
pub left_bind : {A B : Type 0} {me : CallerNo} {plan rest : Plan A} {v0 v1 : PassView} (f : A → Plan B)
    → PartClause me plan v0 v1 rest → PartClause me (plan >>= f) v0 v1 (rest >>= f)
left_bind {plan = plan} {rest = rest} f part =
    call_as (Follows (plan >>= f)) (rest >>= f) (λ xs follows. follows_bind plan f xs rest follows) part

-- what is left, and then its reply: for a loop that is the whole of a call
pub left_reply : {R : Type 0} {me : CallerNo} {whole plan : Plan R} {v0 v1 : PassView}
    → PartClause me whole v0 v1 plan → PartClause me whole v0 v1 (plan >>= reply)
left_reply {me = me} {whole = whole} {plan = plan} {v0 = v0} {v1 = v1} part =
    subst (PartClause me whole v0 v1) (sym (bind-reply plan)) part

-- a whole call in the middle of a call, and then a part of how that goes on with its answer
pub ran_then : {A B : Type 0} {me : CallerNo} {plan : Plan A} {a : A} {v0 v1 v2 : PassView} {rest : Plan B}
    (f : A → Plan B)
    → CallClause me (Completes plan) v0 v1 a → PartClause me (f a) v1 v2 rest → PartClause me (plan >>= f) v0 v2 rest
ran_then f call second = left_more (left_bind f (left_of_call call)) second

-- ---- under a pin

-- the pinning of an index, a whole call with the stage that was found, and the unpinning
pub ran_pinned : {A : Type 0} {me : CallerNo} {s : SelNo} {i : ℕ} {stage : Stage} {a : A} {v0 v1 v2 v3 : PassView}
    (steps : Stage → Plan A)
    → ActsClause me (Pin s i stage ∷ []) v0 v1 → CallClause me (Completes (steps stage)) v1 v2 a
    → ActsClause me (Unpin s i ∷ []) v2 v3
    → CallClause me (Completes (under_pin s i steps)) v0 v3 a
ran_pinned {s = s} {i = i} steps pins call unpins =
    returned (left_ask (λ answer. steps (stage_in answer) >>= λ x. (unpin s i >> reply x)) pins
    (ran_then (λ x. unpin s i >> reply x) call (left_ask (λ _. reply _) unpins (left_after unpins))))
