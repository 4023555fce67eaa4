-- The first caller has no pin once its number is drawn.
use Rattle.std.proofs.Common.{false, [], ◌∷◌, ◌++◌, ap, ◌∙◌}
use Rattle.nio_base.specs.declared.numbers.CallerNo.{CallerNo}
use Rattle.nio_history.specs.Conditions.{has_pin}
use Rattle.nio_history.specs.Histories.{event_of, state_after}
use Rattle.nio_history.specs.PassViews.{HasNoPin}
use Rattle.nio_history.specs.declared.act.Act.TheVariants.{DrawBit}
use Rattle.nio_words.specs.Drawing.{Draws}
use Rattle.nio_words.specs.Passes.{IsFirstPass}
use Rattle.nio_words.specs.Views.{view}
use Rattle.nio_words.specs.declared.words.Pass.{Pass}
use Rattle.nio_words.specs.declared.words.Words.{Words}

pub drawn_unpinned : {w : Words} {p q : Pass} (n : CallerNo) → IsFirstPass w p → Draws w p q n false
    → HasNoPin (view w q) n
drawn_unpinned n first draws s i =
    ap (λ events. has_pin (state_after events) n s i)
    ((draws.only first.only).1 ∙ ap (λ events. events ++ event_of n (DrawBit n false) ∷ []) first.unseen)
