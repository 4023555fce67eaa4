-- Selectors that are made.
use Rattle.std.proofs.Common.{◌≡◌, Bool, true, [], ◌∷◌, ◌++◌, ap, ◌∙◌}
use Rattle.nio_base.specs.declared.numbers.CallerNo.{CallerNo}
use Rattle.nio_base.specs.declared.numbers.SelNo.{SelNo}
use Rattle.nio_history.proofs.Finds.{step_leaves}
use Rattle.nio_history.proofs.Put.{put-same}
use Rattle.nio_history.specs.Histories.{state_after}
use Rattle.nio_history.specs.PassViews.{PassView, Holds, known, ActsClause}
use Rattle.nio_history.specs.State.{State}
use Rattle.nio_history.specs.declared.act.Act.TheVariants.{MakeSelector}

-- a selector that was just made is made
pub made_now : {me : CallerNo} {s : SelNo} {found : Bool} {v0 v1 : PassView}
    → ActsClause me (MakeSelector s found ∷ []) v0 v1 → (known v1).selector s.0 ≡ true
made_now {me = me} {s = s} {found = found} {v0 = v0} {v1 = v1} clause =
    let leaves = step_leaves v0.limits (Holds v0) me (MakeSelector s found) v0.seen v1.seen clause.history in
    let before : State = state_after (v0.seen ++ leaves.between) in
    ap (λ st. st.selector s.0) leaves.state ∙ put-same before.selector s.0 true
