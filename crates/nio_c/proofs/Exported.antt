-- An export made its caller's call.
use Rattle.std.proofs.Common.{◌≡◌, ℕ, Bool, true, sym, subst}
use Rattle.std.specs.Prelude.{MatchBool}
use Rattle.nio_caller.specs.Callers.{Acting}
use Rattle.nio_c.specs.Exports.{ByCaller, Exports, ExportsHeld, Makes, Refuses}
use Rattle.nio_c.specs.Holding.{Holding}
use Rattle.nio_c.specs.Statuses.{code}
use Rattle.nio_c.specs.declared.handle.Handle.{Handle}
use Rattle.nio_c.specs.declared.status.Status.{Status}
use Rattle.nio_c.specs.declared.status.Status.TheVariants.{EmptyHandle}

-- what is behind the handle made this call
pub exported_held : {R : Type 0} (Call : Holding → Holding → R → Type 0) (status_of : R → Status) (Wrote : R → Type 0)
    (Untouched : Type 0) (old new : Handle) (status : ℕ) (before after : Holding) (answer : R) → old.full ≡ true
    → old.holder ≡ before → new.full ≡ true → new.holder ≡ after → Call before after answer → Wrote answer
    → status ≡ code (status_of answer) → ExportsHeld Call status_of Wrote Untouched old new status
exported_held Call status_of Wrote Untouched old new status before after answer full held back holds call wrote says =
    subst (λ (b : Bool).
    MatchBool b (Makes Call status_of Wrote old new status) (Refuses EmptyHandle Untouched old new status)) (sym full)
    (record {
      answer = answer;
      call = subst (λ (x : Holding). Call x new.holder answer) (sym held)
          (subst (λ (y : Holding). Call before y answer) (sym holds) call);
      back = back;
      wrote = wrote;
      says = says;
    })

pub exported : {R : Type 0} (Call : Acting → Acting → R → Type 0) (status_of : R → Status) (Wrote : R → Type 0)
    (Untouched : Type 0) (old new : Handle) (status : ℕ) (before after : Holding) (answer : R) → old.full ≡ true
    → old.holder ≡ before → new.full ≡ true → new.holder ≡ after → ByCaller Call before after answer → Wrote answer
    → status ≡ code (status_of answer) → Exports Call status_of Wrote Untouched old new status
exported Call status_of Wrote Untouched old new status before after answer full held back holds call wrote says =
    exported_held (ByCaller Call) status_of Wrote Untouched old new status before after answer full held back holds call
    wrote says
