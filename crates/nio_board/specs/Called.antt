-- The channels of a board, as its table numbers them, and the calls that its caller made on the table.
use Rattle.std.specs.Prelude.{◌≡◌, ◌+◌, ◌-◌, ◌*◌, ◌/◌, ◌%◌, ◌==◌, if◌then◌else◌, max, Option, Some, None}
use Rattle.std.specs.Prelude.{List, [], ◌∷◌, ◌++◌}
use Rattle.nio_base.specs.declared.limits.Limits.{Limits}
use Rattle.nio_base.specs.declared.numbers.ChanNo.{ChanNo}
use Rattle.nio_base.specs.declared.numbers.SelNo.{SelNo}
use Rattle.nio_history.specs.declared.act.Act.{Act}
use Rattle.nio_orderly.specs.Made.{Made, draw, table_call, waiting_call}
use Rattle.nio_orderly.specs.Orderly.{AreCallsOf}
use Rattle.nio_board.specs.declared.deal.Deal.{Deal}
use Rattle.nio_steps.specs.TableCalls.{row_of, wait_row_of}
use Rattle.nio_base.specs.declared.numbers.ChanId.{ChanId}

-- ---- the channels of a board

-- a worker's share of a table's channels: 0 is its listener; 2j + 1 and 2j + 2 are those of connection
-- worker + j · workers of the table, which has 2k + 1 and 2k + 2 for connection k
abbrev pub dealt_channel : Deal → ChanNo → ChanNo
dealt_channel deal c =
    if c.0 == 0 then deal.listener
    else record { 0 = 2 * (deal.worker + ((c.0 - 1) / 2) * deal.workers) + 1 + (c.0 - 1) % 2 }

-- the table's channel that is a board's channel
abbrev pub channel_in : Option Deal → ChanNo → ChanNo
channel_in None c = c
channel_in (Some deal) c = dealt_channel deal c

-- the worker's number of a channel of the table: it undoes dealt_channel (deal_law)
abbrev pub board_channel : Deal → ChanNo → ChanNo
board_channel deal c =
    if c.0 == deal.listener.0 then record { 0 = 0 }
    else record { 0 = 2 * ((c.0 - 1) / 2 / max deal.workers 1) + 1 + (c.0 - 1) % 2 }

-- the same of a channel of a number: its serial is the table's
abbrev pub table_channel : Option Deal → ChanId → ChanId
table_channel deal c = record { number = channel_in deal c.number; serial = c.serial }

-- the selector with each of these channels of the board, as the table names them
abbrev pub seats : Option Deal → SelNo → List ChanId → List (SelNo × ChanId)
seats deal s [] = []
seats deal s (c ∷ rest) = (s, table_channel deal c) ∷ seats deal s rest

-- ---- the calls of a caller

-- the selector and the channel, where the call registered a channel
abbrev pub registration : Made → List (SelNo × ChanId)
registration (draw n) = []
registration (table_call call answer) = (row_of call).registers answer
registration (waiting_call call answer) = (wait_row_of call).registers answer

-- those of all calls, in their order
abbrev pub registrations : List Made → List (SelNo × ChanId)
registrations [] = []
registrations (call ∷ later) = registration call ++ registrations later

-- A caller that did this made whole calls, one after the other. They registered these channels with these selectors,
-- in this order, and no others.
pub record HasRegistered (l : Limits) (own : List Act) (those : List (SelNo × ChanId)) : Type 0 where
  pub calls : List Made
  pub are : AreCallsOf l own calls
  pub registered : registrations calls ≡ those

-- it registered these channels of a board with the board's selector, in this order
abbrev pub HasCalled : Limits → List Act → Option Deal → SelNo → List ChanId → Type 0
HasCalled l own deal s registered = HasRegistered l own (seats deal s registered)

-- it registered nothing
abbrev pub IsUnregistered : Limits → List Act → Type 0
IsUnregistered l own = HasRegistered l own []
