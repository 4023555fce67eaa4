-- What stands between two calls on the table stays.
use Rattle.std.proofs.Common.{false, List, [], ◌∷◌, ◌++◌, ap, ◌∙◌}
use Rattle.nio_base.specs.declared.numbers.SelNo.{SelNo}
use Rattle.nio_base.specs.declared.numbers.CallerNo.{CallerNo}
use Rattle.nio_history.proofs.PassViews.{selector_after}
use Rattle.nio_history.specs.Conditions.{has_pin}
use Rattle.nio_history.specs.Histories.{event_of, state_after}
use Rattle.nio_history.specs.PassViews.{ActsClause, HasNoPin}
use Rattle.nio_history.specs.declared.act.Act.{Act}
use Rattle.nio_history.specs.declared.act.Act.TheVariants.{DrawBit}
use Rattle.nio_words.specs.Drawing.{Draws}
use Rattle.nio_words.specs.Passes.{IsFirstPass, IsReady}
use Rattle.nio_words.specs.Views.{view}
use Rattle.nio_words.specs.declared.words.Pass.{Pass}
use Rattle.nio_words.specs.declared.words.Words.{Words}
use Rattle.nio_board.specs.Board.{IsIdle}

-- after a call that leaves the caller without a pin
pub idle_after : {w : Words} {p q : Pass} {me : CallerNo} {s : SelNo} {acts : List Act}
    → ActsClause me acts (view w p) (view w q) → IsReady w q me → HasNoPin (view w q) me → IsIdle w p me s
    → IsIdle w q me s
idle_after clause ready none idle =
    record { ready = ready; unpinned = none; selector = selector_after clause idle.selector }

-- once the first caller has drawn its number
pub drawn_unpinned : {w : Words} {p q : Pass} {me : CallerNo} → IsFirstPass w p → Draws w p q me false
    → HasNoPin (view w q) me
drawn_unpinned {me = me} first draws s i =
    ap (λ events. has_pin (state_after events) me s i)
    ((draws.only first.only).1 ∙ ap (λ events. events ++ event_of me (DrawBit me false) ∷ []) first.unseen)
