-- What holds of a caller before it has a board, and of deals.
use Rattle.std.specs.Prelude.{◌≡◌, ◌<◌, false}
use Rattle.nio_base.specs.declared.numbers.CallerNo.{CallerNo}
use Rattle.nio_base.specs.declared.numbers.ChanNo.{ChanNo}
use Rattle.nio_words.specs.Drawing.{Draws}
use Rattle.nio_words.specs.Passes.{IsFirstPass, acts_seen, limits_of}
use Rattle.nio_words.specs.declared.words.Pass.{Pass}
use Rattle.nio_words.specs.declared.words.Words.{Words}
use Rattle.nio_board.specs.Called.{IsUnregistered, board_channel, dealt_channel}
use Rattle.nio_board.specs.declared.deal.Deal.{Deal}

-- once a table's first pass has drawn a number, the caller of that number has registered nothing
abbrev pub DrawnIsUnregistered : Type 0
DrawnIsUnregistered = (w : Words) (p q : Pass) (me : CallerNo) → IsFirstPass w p → Draws w p q me false
    → IsUnregistered (limits_of w) (acts_seen q me)

-- What the table has for a worker's channel is that channel again where the worker numbers it. This asks that no link
-- of the worker has the listener's number in the table.
abbrev pub DealtComesBack : Type 0
DealtComesBack = (deal : Deal) (c : ChanNo) → deal.worker < deal.workers
    → (dealt_channel deal c ≡ deal.listener → c.0 ≡ 0) → board_channel deal (dealt_channel deal c) ≡ c
