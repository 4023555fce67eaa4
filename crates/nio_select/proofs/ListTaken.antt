-- A selector's list that was just taken.
use Rattle.std.proofs.Common.{◌≡◌, Option, None, true, [], ◌∷◌, ◌++◌, refl, ap, ◌∙◌, eq-eqb}
use Rattle.nio_base.specs.declared.numbers.CallerNo.{CallerNo}
use Rattle.nio_base.specs.declared.numbers.SelNo.{SelNo}
use Rattle.nio_history.proofs.Finds.{step_leaves}
use Rattle.nio_history.proofs.Put.{put-same}
use Rattle.nio_history.specs.Acts.{taken_by}
use Rattle.nio_history.specs.Conditions.{has_list, is_held_by}
use Rattle.nio_history.specs.Histories.{state_after}
use Rattle.nio_history.specs.PassViews.{PassView, Holds, known, ActsClause}
use Rattle.nio_history.specs.State.{State}
use Rattle.nio_history.specs.declared.act.Act.TheVariants.{TakeList}

-- who just took the list when nobody had it has it
pub list_taken : {me : CallerNo} {s : SelNo} {found : Option CallerNo} {v0 v1 : PassView}
    → ActsClause me (TakeList s found ∷ []) v0 v1 → found ≡ None → has_list (known v1) me s ≡ true
list_taken {me = me} {s = s} {found = found} {v0 = v0} {v1 = v1} clause free =
    let leaves = step_leaves v0.limits (Holds v0) me (TakeList s found) v0.seen v1.seen clause.history in
    let before : State = state_after (v0.seen ++ leaves.between) in
    ap (λ st. has_list st me s) leaves.state
    ∙ (ap (is_held_by me) (put-same before.lister s.0 (taken_by me found))
    ∙ (ap (λ (o : Option CallerNo). is_held_by me (taken_by me o)) free ∙ eq-eqb me.0 me.0 refl))
