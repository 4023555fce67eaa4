-- Which channels a proxy has registered.
use Rattle.std.specs.Prelude.{◌≡◌, List, ◌++◌, OnOk, Result}
use mathlib.Core.List.{IsPrefix}
use Rattle.nio_base.specs.declared.numbers.ChanId.{ChanId}
use Rattle.nio_board.specs.Board.{BoardView, IsSameSeat}
use Rattle.nio_serve.specs.Serving.{run_channels}
use Rattle.nio_serve.specs.declared.connections.Connections.{Connections}

-- the board has registered the listener's channel, then both of each connection in the order of the accepts, and no more
abbrev pub WatchesAll : BoardView → Connections → Type 0
WatchesAll board c = board.registered ≡ run_channels c.clients

-- From a board to another one the proxy did work that left these connections and was answered so. The board has the same
-- seat. It has registered the first of these channels; at Ok all of them.
pub record Watching {A E : Type 0} (before now : BoardView) (c : Connections) (result : Result A E) : Type 0 where
  pub seat : IsSameSeat before now
  pub all : OnOk result (WatchesAll now c)
  pub within : IsPrefix now.registered (run_channels c.clients)

-- the same of a whole run, whose clients are told by the accepted links before and after it
abbrev pub HasRegisteredAll : List ChanId → List ChanId → List ChanId → Type 0
HasRegisteredAll before now registered =
    (clients : List ChanId) → now ≡ before ++ clients → registered ≡ run_channels clients

abbrev pub HasRegisteredSome : List ChanId → List ChanId → List ChanId → Type 0
HasRegisteredSome before now registered =
    (clients : List ChanId) → now ≡ before ++ clients → IsPrefix registered (run_channels clients)
