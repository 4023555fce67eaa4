-- One key more is taken out of the selected set; a caller that takes keys out stays at its table.
use Rattle.std.proofs.Common.{◌≡◌, ℕ, ◌+◌, ◌<◌, List, [], ◌∷◌, ◌++◌, length, take, get_or, refl, sym, ap, ◌∙◌, subst, Bool, true, false}
use Rattle.std.proofs.Common.{Result, Ok, Err}
use Rattle.std.specs.Prelude.{MatchBool, nat_le}
use Rattle.std.proofs.lemmas.List.{take_more}
use Rattle.nio_base.specs.declared.numbers.KeyNo.{KeyNo}
use Rattle.nio_base.specs.declared.numbers.SelNo.{SelNo}
use Rattle.nio_caller.specs.Callers.{Acting}
use Rattle.nio_caller.specs.declared.refusal.CallError.{CallError}
use Rattle.nio_steps.specs.declared.refusal.ListError.{ListError}
use Rattle.nio_c.specs.Taking.{TakesAll, TakesListed, Unselects, UnselectsEach}

and_one : (keys : List KeyNo) (key : KeyNo) (old middle new : Acting) → UnselectsEach keys old middle
    → Unselects key middle new → UnselectsEach (keys ++ (key ∷ [])) old new
and_one [] key old middle new same one =
    (new, subst (λ (x : Acting). Unselects key x new) same one, refl)
and_one (first ∷ later) key old middle new each one =
    (each.0, each.1, and_one later key each.0 middle new each.2 one)

pub and_next : (keys : List KeyNo) (i : ℕ) (d key : KeyNo) (old middle new : Acting) → i < length keys
    → UnselectsEach (take i keys) old middle → key ≡ get_or keys i d → Unselects key middle new
    → UnselectsEach (take (i + 1) keys) old new
and_next keys i d key old middle new below each is one =
    subst (λ (xs : List KeyNo). UnselectsEach xs old new) (sym (take_more keys i d below))
    (and_one (take i keys) (get_or keys i d) old middle new each
    (subst (λ (k : KeyNo). Unselects k middle new) is one))

each_same : (keys : List KeyNo) (old new : Acting) → UnselectsEach keys old new → new.table ≡ old.table
each_same [] old new same = ap (λ (x : Acting). x.table) same
each_same (key ∷ later) old new each = each_same later each.0 new each.2 ∙ each.1.call.same.table

listed_same : (fits : Bool) (keys : List KeyNo) (old new : Acting)
    → MatchBool fits (UnselectsEach keys old new) (new ≡ old) → new.table ≡ old.table
listed_same true keys old new each = each_same keys old new each
listed_same false keys old new same = ap (λ (x : Acting). x.table) same

takes_same : (room : ℕ) (answer : Result (List KeyNo) (CallError ListError)) (old new : Acting)
    → TakesListed room answer old new → new.table ≡ old.table
takes_same room (Ok keys) old new takes = listed_same (nat_le (length keys) room) keys old new takes
takes_same room (Err error) old new same = ap (λ (x : Acting). x.table) same

-- A caller that takes all selected keys out makes its calls at the same table.
pub same_table : (s : SelNo) (room : ℕ) (old new : Acting) (answer : Result (List KeyNo) (CallError ListError))
    → TakesAll s room old new answer → new.table ≡ old.table
same_table s room old new answer takes =
    takes_same room answer takes.middle new takes.takes ∙ takes.lists.same.table
