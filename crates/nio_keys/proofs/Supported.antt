-- A call that asks for a valid key and for operations that the key's channel has, after its checks.
use Rattle.std.proofs.Common.{◌≡◌, ℕ, Bool, true, false, not, if◌then◌else◌, refl, ap, subst, ◌∙◌}
use Rattle.std.specs.Prelude.{Result, Ok, Err}
use Rattle.nio_base.specs.Kind.{valid_operations}
use Rattle.nio_base.specs.declared.numbers.CallerNo.{CallerNo}
use Rattle.nio_base.specs.declared.numbers.KeyNo.{KeyNo}
use Rattle.nio_history.specs.PassViews.{PassView}
use Rattle.nio_history.specs.Questions.{Question}
use Rattle.nio_history.specs.Sets.{is_valid_key}
use Rattle.nio_history.specs.declared.found.Stage.{Stage}
use Rattle.nio_steps.proofs.CallLaws.{ran_then, left_of_call, left_after_call, returned}
use Rattle.nio_steps.specs.Calls.{CallClause}
use Rattle.nio_base.specs.Ops.{is_within}
use Rattle.nio_steps.specs.KeyCalls.{if_valid, on_supported}
use Rattle.nio_steps.specs.Plan.{Plan, reply, ask, ◌>>=◌}
use Rattle.nio_steps.specs.Runs.{Completes}
use Rattle.nio_steps.specs.Steps.{channel_in}
use Rattle.nio_steps.specs.declared.refusal.KeyError.{KeyError}
use Rattle.nio_steps.specs.declared.refusal.KeyError.TheVariants.{CancelledKey, IllegalOps}

-- how a call goes on after its checks
abbrev pub on_ok : {A : Type 0} → Plan (Result A KeyError) → Result (Unit {0}) KeyError → Plan (Result A KeyError)
on_ok steps (Ok _) = steps
on_ok steps (Err refusal) = reply (Err refusal)

-- a check at the beginning, and how the call goes on
one_check : {A : Type 0} (fails : Bool) (refusal : KeyError) (checks : Plan (Result (Unit {0}) KeyError))
    (steps : Plan (Result A KeyError))
    → ((if fails then reply (Err refusal) else checks) >>= on_ok steps)
    ≡ (if fails then reply (Err refusal) else (checks >>= on_ok steps))
one_check true refusal checks steps = refl
one_check false refusal checks steps = refl

-- the checks as a call of their own
abbrev pub checks : KeyNo → Stage → ℕ → Plan (Result (Unit {0}) KeyError)
checks k stage ops = if_valid k (on_supported ops (reply (Ok tt))) stage

checks-then : {A : Type 0} (k : KeyNo) (stage : Stage) (ops : ℕ) (steps : Plan (Result A KeyError))
    → (checks k stage ops >>= on_ok steps) ≡ if_valid k (on_supported ops steps) stage
checks-then {A = A} k stage ops steps =
    one_check (not (is_valid_key stage k.serial)) CancelledKey (on_supported ops (reply (Ok tt)) stage) steps
    ∙ ap (λ (rest : Plan (Result A KeyError)). if not (is_valid_key stage k.serial) then reply (Err CancelledKey)
    else rest)
    (λ j. ask (Question.look_channel stage.chan)
    (λ answer. one_check (not (is_within ops (valid_operations (channel_in answer).kind))) IllegalOps
    (reply (Ok tt)) steps j))

module _ {A : Type 0} {me : CallerNo} {v0 v1 : PassView} (k : KeyNo) (stage : Stage) (ops : ℕ)
    (steps : Plan (Result A KeyError)) where
  -- the checks let it go on
  pub ran_checked : {answer : Result A KeyError} {v2 : PassView}
      → CallClause me (Completes (checks k stage ops)) v0 v1 (Ok tt)
      → CallClause me (Completes steps) v1 v2 answer
      → CallClause me (Completes (if_valid k (on_supported ops steps) stage)) v0 v2 answer
  ran_checked {answer = answer} {v2 = v2} checked call =
      subst (λ plan. CallClause me (Completes plan) v0 v2 answer) (checks-then k stage ops steps)
      (returned (ran_then (on_ok steps) checked (left_of_call call)))

  -- they refuse, and the call ends
  pub ran_refused : {refusal : KeyError} → CallClause me (Completes (checks k stage ops)) v0 v1 (Err refusal)
      → CallClause me (Completes (if_valid k (on_supported ops steps) stage)) v0 v1 (Err refusal)
  ran_refused {refusal = refusal} checked =
      subst (λ plan. CallClause me (Completes plan) v0 v1 (Err refusal)) (checks-then k stage ops steps)
      (returned (ran_then (on_ok steps) checked (left_after_call checked)))
