use Rattle.std.specs.Prelude.{◌≡◌}
use Rattle.nio_select.specs.InHand.{selection_of}
use Rattle.nio_select.specs.InProgress.{Selects}
use Rattle.nio_words.specs.Passes.{IsReady}
use Rattle.nio_words.specs.Views.{view}
use Rattle.nio_poller.proofs.Telling.{SoFar}
use Rattle.nio_poller.proofs.selecting.poll_until_over.Given as goal

abbrev pub invariant-loop : goal.invariant-loop
invariant-loop g l =
    IsReady l.w l.p l.me × Selects (view l.w l.p) l.me (selection_of l.selection) × (l.selection ≡ l.fn.selection)
    × SoFar l.me (selection_of l.fn.selection) l.waiting l.is_first (view l.w l.fn.p) (view l.w l.p)
    (g.P.Poller.polls l.fn.poller) (g.P.Poller.polls l.poller)
    × (g.P.Poller.poll_faults l.poller ≡ g.P.Poller.poll_faults l.fn.poller)
    × g.P.Poller.kept l.fn.poller l.poller
