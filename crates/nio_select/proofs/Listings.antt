-- What puts the calls together that list a selector's keys.
use Rattle.std.proofs.Common.{◌≡◌, ℕ, true, false, Result, Ok, Err, List, [], ◌∷◌, sym, subst}
use Rattle.std.specs.Prelude.{IsErrAnd}
use Rattle.nio_base.specs.declared.numbers.CallerNo.{CallerNo}
use Rattle.nio_base.specs.declared.numbers.KeyNo.{KeyNo}
use Rattle.nio_base.specs.declared.numbers.SelNo.{SelNo}
use Rattle.nio_history.specs.PassViews.{PassView, ActsClause}
use Rattle.nio_history.specs.declared.act.Act.{Act}
use Rattle.nio_history.specs.declared.act.Act.TheVariants.{LookGate, LookKeys}
use Rattle.nio_history.specs.declared.found.GateWord.{GateWord}
use Rattle.nio_steps.proofs.CallLaws.{call_as, returned, left_ask, left_else, left_after, left_of_call}
use Rattle.nio_steps.specs.Calls.{CallClause}
use Rattle.nio_steps.specs.Plan.{Plan}
use Rattle.nio_steps.specs.Runs.{Completes}
use Rattle.nio_steps.specs.SelectCalls.{list_all, list_plan, list_lacks_memory}
use Rattle.nio_steps.specs.declared.refusal.ListError.{ListError}
use Rattle.nio_steps.specs.declared.refusal.ListError.TheVariants.{Memory}
use Rattle.nio_select.specs.Listed.{ok_seen}

-- the call with this answer, by what is listed of each index
abbrev pub Lists : (SelNo → ℕ → List KeyNo → Plan (List KeyNo)) → SelNo → List Act → Result (List KeyNo) ListError
    → Type 0
Lists list_one s acts answer = Completes (list_plan list_one s (list_lacks_memory answer)) acts answer

-- the gate was found open, the keys' high-water mark was looked at, and there is memory for the list
pub lists_all : {me : CallerNo} {s : SelNo} {gate : GateWord} {mark : ℕ} {listed : List KeyNo} {v0 v1 v2 v3 : PassView}
    (list_one : SelNo → ℕ → List KeyNo → Plan (List KeyNo))
    → ActsClause me (LookGate s gate ∷ []) v0 v1 → gate.shut ≡ false → ActsClause me (LookKeys s mark ∷ []) v1 v2
    → CallClause me (Completes (list_all list_one s mark)) v2 v3 (Ok listed)
    → CallClause me (Lists list_one s) v0 v3 (Ok listed)
lists_all {s = s} {listed = listed} list_one look unshut mark call =
    call_as (Lists list_one s) (Ok listed) (λ acts here. here)
    (returned {plan = list_plan list_one s false}
    (left_ask _ look (left_else _ _ _ unshut (left_ask _ mark (left_of_call call)))))

-- there isn't
pub lists_none : {me : CallerNo} {s : SelNo} {gate : GateWord} {mark : ℕ} {v0 v1 v2 : PassView}
    (list_one : SelNo → ℕ → List KeyNo → Plan (List KeyNo))
    → ActsClause me (LookGate s gate ∷ []) v0 v1 → gate.shut ≡ false → ActsClause me (LookKeys s mark ∷ []) v1 v2
    → CallClause me (Lists list_one s) v0 v2 (Err Memory)
lists_none {s = s} list_one look unshut mark =
    call_as (Lists list_one s) (Err Memory) (λ acts here. here)
    (returned {plan = list_plan list_one s true}
    (left_ask _ look (left_else _ _ _ unshut (left_ask _ mark (left_after mark)))))

-- a result that is such a refusal
pub refused : {A B : Type 0} (view : A → B) (P : Result B ListError → Type 0) (r : Result A ListError)
    → IsErrAnd r (λ e. e ≡ Memory) → P (Err Memory) → P (ok_seen view r)
refused view P (Ok x) is here = absurd is
refused view P (Err e) is here = subst (λ (error : ListError). P (Err error)) (sym is) here
