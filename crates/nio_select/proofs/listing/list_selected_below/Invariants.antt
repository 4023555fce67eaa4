use Rattle.std.proofs.Common.{◌≤◌, Ok, vec_len}
use Rattle.std.specs.Vec.{vec_capacity}
use Rattle.nio_history.specs.Conditions.{AllClaimed}
use Rattle.nio_history.specs.PassViews.{HasNoPin}
use Rattle.nio_steps.specs.Calls.{PartClause}
use Rattle.nio_steps.specs.Plan.{reply, ◌>>=◌}
use Rattle.nio_steps.specs.SelectCalls.{list_all, list_selected}
use Rattle.nio_steps.specs.Sweeps.{sweep_to}
use Rattle.nio_words.specs.Passes.{IsReady, state_seen}
use Rattle.nio_words.specs.Views.{view}
use Rattle.nio_select.proofs.listing.list_selected_below.Given as goal

abbrev pub invariant-loop-i : goal.invariant-loop-i
invariant-loop-i l =
    IsReady l.w l.p l.me × HasNoPin (view l.w l.p) l.me × AllClaimed (state_seen l.p) l.sel l.bound
    × (vec_len l.listed ≤ l.i) × (l.bound ≤ vec_capacity l.listed)
    × PartClause l.me (list_all list_selected l.sel l.bound) (view l.w l.fn.p) (view l.w l.p)
    (sweep_to l.bound l.i (list_selected l.sel) l.listed.items >>= λ listed. reply (Ok listed))
