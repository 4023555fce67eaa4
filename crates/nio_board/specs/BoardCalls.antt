-- Which calls a board's caller makes on the table in a call of the board, each with its reply.
use Rattle.std.specs.Prelude.{◌≡◌, ◌≢◌, ℕ, suc, ◌^◌, ◌≤◌, Bool, false, Option, Some, None, Ok, Err, List, [], ◌∷◌, ◌++◌}
use Rattle.nio_base.specs.declared.kind.Kind.{Kind}
use Rattle.nio_base.specs.declared.numbers.ChanId.{ChanId}
use Rattle.nio_base.specs.declared.numbers.KeyNo.{KeyNo}
use Rattle.nio_base.specs.declared.numbers.SelNo.{SelNo}
use Rattle.nio_history.specs.declared.act.Act.{Act}
use Rattle.nio_history.specs.declared.found.Mode.TheVariants.{Wait}
use Rattle.nio_orderly.specs.Made.{Made, table_call, waiting_call}
use Rattle.nio_orderly.specs.Orderly.{AreRuns, Parts}
use Rattle.nio_select.specs.InHand.{HeldSelector, known_by}
use Rattle.nio_board.specs.Board.{BoardView}
use Rattle.nio_board.specs.Called.{table_channel}
use Rattle.nio_board.specs.declared.deal.Deal.{Deal}
use Rattle.nio_steps.specs.SelectCalls.{Selection, Poll, done, again}
use Rattle.nio_steps.specs.TableCalls.{find, find_channel, set_interest, cancel, open_channel, reopen_channel}
use Rattle.nio_steps.specs.TableCalls.{close_channel}
use Rattle.nio_steps.specs.TableCalls.{try_begin}
use Rattle.nio_steps.specs.TableCalls.{told, leave, set_blocking, register}
use Rattle.nio_steps.specs.declared.refusal.BeginError.{BeginError}
use Rattle.nio_steps.specs.declared.refusal.ChannelError.{ChannelError}
use Rattle.nio_steps.specs.declared.refusal.KeyError.{KeyError}
use Rattle.nio_steps.specs.declared.refusal.ReopenError.{ReopenError}
use Rattle.nio_steps.specs.declared.selected.Selected.{Selected}
use Rattle.nio_words.specs.Passes.{acts_seen, limits_of}

-- From one moment of a board to a later one its caller made these calls on the table, each whole, one after the other,
-- and did nothing else there.
pub record AreMade (before now : BoardView) (calls : List Made) : Type 0 where
  pub acts : List Act
  pub own : acts_seen now.pass now.caller ≡ acts_seen before.pass before.caller ++ acts
  pub runs : AreRuns (limits_of before.words) calls acts

-- It made calls of which this holds.
pub record HasMade (before now : BoardView) (Holds : List Made → Type 0) : Type 0 where
  pub calls : List Made
  pub holds : Holds calls
  pub made : AreMade before now calls

-- ---- the key of a watched channel

-- it looks for the key in the selector, and finds this
abbrev pub finds : SelNo → KeyNo → Option KeyNo → Made
finds s k found = table_call (find s k.index k.serial) found

-- the same of a channel, in the table
abbrev pub finds_channel : ChanId → Option ChanId → Made
finds_channel c found = table_call (find_channel c.number.0 c.serial) found

-- it finds the key, and sets its interest set
pub data SetsInterest (s : SelNo) (k : KeyNo) (ops : ℕ) : List Made → Type 0 where
  interest_set : (found : KeyNo)
      → SetsInterest s k ops (finds s k (Some found) ∷ table_call (set_interest found ops) (Ok tt) ∷ [])

-- it finds no such key, or is refused the setting of its interest set
pub data FailsToSet (s : SelNo) (k : KeyNo) (ops : ℕ) : List Made → Type 0 where
  set_not_found : FailsToSet s k ops (finds s k None ∷ [])
  set_refused : (found : KeyNo) (refusal : KeyError)
      → FailsToSet s k ops (finds s k (Some found) ∷ table_call (set_interest found ops) (Err refusal) ∷ [])

-- it cancels the key, where it finds it
pub data CancelsKey (s : SelNo) (k : KeyNo) : List Made → Type 0 where
  key_not_found : CancelsKey s k (finds s k None ∷ [])
  key_cancelled : (found : KeyNo) → CancelsKey s k (finds s k (Some found) ∷ table_call (cancel found) tt ∷ [])

-- It closes the channel, where it finds it. A number of 2^32 and more is of no channel.
pub data ClosesChannel (c : ChanId) : List Made → Type 0 where
  no_number : 2 ^ 32 ≤ c.number.0 → ClosesChannel c []
  channel_not_found : ClosesChannel c (finds_channel c None ∷ [])
  channel_closed : (found : ChanId) (first : Bool)
      → ClosesChannel c (finds_channel c (Some found) ∷ table_call (close_channel found) first ∷ [])

-- it cancels the key, and then closes the board's channel
abbrev pub Unwatches : Option Deal → SelNo → KeyNo → ChanId → List Made → Type 0
Unwatches deal s k c = Parts (CancelsKey s k) (ClosesChannel (table_channel deal c))

-- ---- selections

-- it begins a selection that waits, by the selector's list where it has that
pub data BeginsSelection (s : HeldSelector) (selection : Selection) : List Made → Type 0 where
  selection_begun : BeginsSelection s selection (table_call (try_begin s.number Wait (known_by s)) (Ok selection) ∷
      [])

-- it is refused that
pub data FailsToBegin (s : HeldSelector) : List Made → Type 0 where
  begin_refused : (refusal : BeginError)
      → FailsToBegin s (table_call (try_begin s.number Wait (known_by s)) (Err refusal) ∷ [])

-- it tells the selection what the poll answered, and leaves it where it would go on
pub data TellsPoll (selection : Selection) (poll : Poll) : List Made → Type 0 where
  selection_over : (answer : Selected)
      → TellsPoll selection poll (table_call (told selection poll) (done answer) ∷ [])
  selection_again : (next : Selection)
      → TellsPoll selection poll (table_call (told selection poll) (again next) ∷ table_call (leave next) tt ∷ [])

-- it leaves the selection
pub data LeavesSelection (selection : Selection) : List Made → Type 0 where
  selection_left : LeavesSelection selection (table_call (leave selection) tt ∷ [])

-- ---- watching a channel

-- the next channel of the same number
abbrev pub after_it : ChanId → ChanId
after_it c = record { number = c.number; serial = suc c.serial }

-- the table opens this channel
abbrev pub opens : Kind → ChanId → Made
opens kind c = table_call (open_channel kind) (Ok c)

-- it finds a channel, which is closed, and reopens it: that opens the next one of its number
abbrev pub reopens : ChanId → List Made
reopens before = finds_channel before (Some before) ∷ table_call (reopen_channel before) (Ok (after_it before)) ∷ []

-- It has the table's channel. The first one of a number is opened without a deal, and found with one. A later one is had by
-- reopening the one before it.
pub data Takes (kind : Kind) : Option Deal → ChanId → List Made → Type 0 where
  first_opened : {c : ChanId} → c.serial ≡ 0 → Takes kind None c (opens kind c ∷ [])
  first_found : {deal : Deal} {c : ChanId} → c.serial ≡ 0 → Takes kind (Some deal) c (finds_channel c (Some c) ∷ [])
  reopened : {deal : Option Deal} (before : ChanId) → Takes kind deal (after_it before) (reopens before)

-- it registers the channel, which answers this key
abbrev pub registers : SelNo → ChanId → ℕ → KeyNo → Made
registers s c ops k = waiting_call (register s c ops 0) (Ok k)

-- the table opens no channel, or another one, which it closes
pub data FailsToOpen (kind : Kind) (c : ChanId) : List Made → Type 0 where
  open_refused : (refusal : ChannelError) → FailsToOpen kind c (table_call (open_channel kind) (Err refusal) ∷ [])
  opened_other : (other : ChanId) (first : Bool) → other ≢ c
      → FailsToOpen kind c (table_call (open_channel kind) (Ok other) ∷ table_call (close_channel other) first ∷ [])

-- the table finds no channel, or another one
pub data FailsToFind (c : ChanId) : List Made → Type 0 where
  found_none : FailsToFind c (finds_channel c None ∷ [])
  found_other : (other : ChanId) → other ≢ c → FailsToFind c (finds_channel c (Some other) ∷ [])

-- the table doesn't find the channel before it, or refuses to reopen that
pub data FailsToReopen (before : ChanId) : List Made → Type 0 where
  before_unfound : {calls : List Made} → FailsToFind before calls → FailsToReopen before calls
  reopen_refused : (refusal : ReopenError)
      → FailsToReopen before
      (finds_channel before (Some before) ∷ table_call (reopen_channel before) (Err refusal) ∷ [])

-- it hasn't the channel; for a number of 2^32 and more it makes no call
pub data FailsToTake (kind : Kind) : Option Deal → ChanId → List Made → Type 0 where
  take_no_number : {deal : Option Deal} {c : ChanId} → 2 ^ 32 ≤ c.number.0 → FailsToTake kind deal c []
  take_unopened : {c : ChanId} {calls : List Made} → c.serial ≡ 0 → FailsToOpen kind c calls
      → FailsToTake kind None c calls
  take_unfound : {deal : Deal} {c : ChanId} {calls : List Made} → c.serial ≡ 0 → FailsToFind c calls
      → FailsToTake kind (Some deal) c calls
  take_unreopened : {deal : Option Deal} (before : ChanId) {calls : List Made} → FailsToReopen before calls
      → FailsToTake kind deal (after_it before) calls

-- it is refused the registration of the channel, and closes it
pub data FailsToRegister (s : SelNo) (c : ChanId) (ops : ℕ) : List Made → Type 0 where
  register_refused : (refusal : ChannelError) (first : Bool)
      → FailsToRegister s c ops
      (waiting_call (register s c ops 0) (Err refusal) ∷ table_call (close_channel c) first ∷ [])

-- it takes the channel, makes it non-blocking and registers it, which answers this key
pub data WatchesChannel (deal : Option Deal) (s : SelNo) (kind : Kind) (c : ChanId) (ops : ℕ) (k : KeyNo)
    : List Made → Type 0 where
  channel_watched : {taking : List Made} → Takes kind deal c taking
      → WatchesChannel deal s kind c ops k
      (taking ++ waiting_call (set_blocking c false) (Ok tt) ∷ registers s c ops k ∷ [])

-- one of the three fails, and a channel that it took is closed
pub data FailsToWatch (deal : Option Deal) (s : SelNo) (kind : Kind) (c : ChanId) (ops : ℕ) : List Made → Type 0 where
  watch_not_taken : {calls : List Made} → FailsToTake kind deal c calls → FailsToWatch deal s kind c ops calls
  watch_still_blocking : {taking : List Made} (refusal : ChannelError) (first : Bool) → Takes kind deal c taking
      → FailsToWatch deal s kind c ops
      (taking ++ waiting_call (set_blocking c false) (Err refusal) ∷ table_call (close_channel c) first ∷ [])
  watch_not_registered : {taking calls : List Made} → Takes kind deal c taking → FailsToRegister s c ops calls
      → FailsToWatch deal s kind c ops (taking ++ waiting_call (set_blocking c false) (Ok tt) ∷ calls)
