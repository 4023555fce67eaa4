-- Orderly histories lose no cancellation: each caller that makes whole calls keeps the rules of careful histories,
-- and owes nothing once its calls are finished.
use Rattle.std.specs.Prelude.{◌≡◌, ℕ, true, IsTrue, IsFalse, List, ◌++◌}
use mathlib.Core.List.{IsPrefix}
use Rattle.nio_base.specs.Limits.{IsFit}
use Rattle.nio_base.specs.declared.limits.Limits.{Limits}
use Rattle.nio_base.specs.declared.numbers.CallerNo.{CallerNo}
use Rattle.nio_base.specs.declared.numbers.ChanId.{ChanId}
use Rattle.nio_base.specs.declared.numbers.SelNo.{SelNo}
use Rattle.nio_history.specs.Histories.{state_after, mine, IsLegal}
use Rattle.nio_history.specs.Sets.{is_valid}
use Rattle.nio_history.specs.declared.act.Act.{Act}
use Rattle.nio_history.specs.declared.event.Event.{Event}
use Rattle.nio_orderly.specs.AfterClosing.{HasClosedChannel, HasClosedSelector}
use Rattle.nio_orderly.specs.Careful.{IsCareful}
use Rattle.nio_orderly.specs.Made.{IsRun, table_call, waiting_call}
use Rattle.nio_orderly.specs.Orderly.{IsWhole, IsOrderly}
use Rattle.nio_orderly.specs.Owed.{publishes_key, publisher_duty, OwesSince, key_of, channel_of_key, Owed}
use Rattle.nio_orderly.specs.Settled.{IsSettled, HasNoLostKey}
use Rattle.nio_steps.specs.SelectCalls.{closed}
use Rattle.nio_steps.specs.TableCalls.{close_channel, try_finish, close}

-- an orderly history is careful, legal or not
abbrev pub OrderlyIsCareful : Type 0
OrderlyIsCareful = (l : Limits) (events : List Event) → IsOrderly l events → IsCareful events

-- a caller that made whole calls owes nothing
abbrev pub WholeIsSettled : Type 0
WholeIsSettled = (l : Limits) (events : List Event) (n : CallerNo) → IsWhole l events → IsSettled l (mine n events)

-- so what is owed in a legal and orderly history is owed by somebody who has still to do it, and in a whole one no
-- closed channel and no selector whose closer has entered has a valid key
abbrev pub OrderlyOwes : Type 0
OrderlyOwes = (l : Limits) (events : List Event) → IsFit l → IsLegal l events → IsOrderly l events → Owed events

abbrev pub WholeLosesNoKey : Type 0
WholeLosesNoKey = (l : Limits) (events : List Event) → IsFit l → IsLegal l events → IsWhole l events
    → HasNoLostKey events

-- ---- what is left once a closing has answered
--
-- What the caller did last is the call.

-- a `close_channel` that answers true has closed the channel, and owes the cancelling of no key of it
abbrev pub CloseChannelCloses : Type 0
CloseChannelCloses =
    (l : Limits) (n : CallerNo) (c : ChanId) (events : List Event) (own acts : List Act)
    → mine n events ≡ own ++ acts → IsRun l (table_call (close_channel c) true) acts → HasClosedChannel l n c events

-- a `try_finish` that answers Closed has closed the selector, and owes the clearing out of no index
abbrev pub FinishCloses : Type 0
FinishCloses =
    (l : Limits) (n : CallerNo) (s : SelNo) (events : List Event) (own acts : List Act) → IsLegal l events
    → IsOrderly l events
    → mine n events ≡ own ++ acts → IsRun l (table_call (try_finish s) closed) acts → HasClosedSelector n s events

-- After a `close_channel` that answers true, of each valid key of the channel its publisher owes the cancelling,
-- ever after.
abbrev pub AfterCloseChannel : Type 0
AfterCloseChannel =
    (l : Limits) (n : CallerNo) (c : ChanId) (before after : List Event) (own acts : List Act) → IsFit l
    → IsPrefix before after → IsLegal l after → IsOrderly l after
    → mine n before ≡ own ++ acts → IsRun l (table_call (close_channel c) true) acts
    → (s i : ℕ) → IsTrue (is_valid ((state_after after).key s i)) → channel_of_key (state_after after) s i ≡ c
    → OwesSince after (publishes_key c.number.0 s (key_of (state_after after) s i))
    (publisher_duty c.number.0 s (key_of (state_after after) s i))

-- so none is valid once each call is finished
abbrev pub NoKeyAfterCloseChannel : Type 0
NoKeyAfterCloseChannel =
    (l : Limits) (n : CallerNo) (c : ChanId) (before after : List Event) (own acts : List Act) → IsFit l
    → IsPrefix before after → IsLegal l after → IsWhole l after
    → mine n before ≡ own ++ acts → IsRun l (table_call (close_channel c) true) acts
    → (s i : ℕ) → channel_of_key (state_after after) s i ≡ c → IsFalse (is_valid ((state_after after).key s i))

-- after a `try_finish` that answers Closed no key of the selector is valid, ever after
abbrev pub NoKeyAfterFinish : Type 0
NoKeyAfterFinish =
    (l : Limits) (n : CallerNo) (s : SelNo) (before after : List Event) (own acts : List Act) → IsFit l
    → IsPrefix before after → IsLegal l after → IsOrderly l after
    → mine n before ≡ own ++ acts → IsRun l (table_call (try_finish s) closed) acts
    → (i : ℕ) → IsFalse (is_valid ((state_after after).key s.0 i))

-- so it is after a `close` that answers true
abbrev pub NoKeyAfterClose : Type 0
NoKeyAfterClose =
    (l : Limits) (n : CallerNo) (s : SelNo) (before after : List Event) (own acts : List Act) → IsFit l
    → IsPrefix before after → IsLegal l after → IsOrderly l after
    → mine n before ≡ own ++ acts → IsRun l (waiting_call (close s) true) acts
    → (i : ℕ) → IsFalse (is_valid ((state_after after).key s.0 i))
