-- Where the channels of a served plan were registered, on the one table of all callers.
--
-- Caller 0 accepts; it has selector 0 and the listener, which is channel 0. Of w workers, worker v is caller v + 1 with
-- selector v + 1. Slot k is for worker k modulo w, and has the numbers 2k + 1 and 2k + 2: of a connection that takes it the
-- client and the target are the channels of these numbers, with the serial that they have in the worker's net.
use Rattle.std.specs.Prelude.{◌≡◌, ◌≢◌, ℕ, ◌+◌, ◌*◌, ◌<◌, Some, Result, Ok, Err, List, [], ◌∷◌, ◌++◌, map, filter, All}
use Rattle.nio_base.specs.declared.limits.Limits.{Limits}
use Rattle.nio_base.specs.declared.numbers.CallerNo.{CallerNo}
use Rattle.nio_base.specs.declared.numbers.ChanId.{ChanId}
use Rattle.nio_base.specs.declared.numbers.SelNo.{SelNo}
use Rattle.nio_history.specs.Histories.{mine, IsLegal}
use Rattle.nio_history.specs.declared.event.Event.{Event}
use Rattle.nio_link.specs.Places.{is_same_channel}
use Rattle.nio_orderly.specs.Made.{Made}
use Rattle.nio_orderly.specs.Orderly.{AreCallsOf}
use Rattle.nio_reactor.specs.declared.handover.Handover.{Handover}
use Rattle.nio_reactor.specs.declared.many.ManyError.{ManyError}
use Rattle.nio_relay.specs.declared.plan.Served.{Served}
use Rattle.nio_board.specs.Called.{registrations, table_channel}
use Rattle.nio_board.specs.declared.deal.Deal.{Deal}
use Rattle.nio_serve.specs.Serving.{listener, target_of}
use Rattle.nio_steps.specs.Names.{selector}
use Rattle.nio_words.specs.Passes.{Holds, seen}
use Rattle.nio_words.specs.declared.words.Pass.{Pass}

-- the limits of a table for so many workers
abbrev pub table_for : ℕ → Limits
table_for w = record { callers = w + 1; selectors = w + 1; channels = 32768; keys = 32768 }

abbrev pub caller : ℕ → CallerNo
caller n = record { 0 = n }

-- The share of worker v of w, where there are so many slots. The channels of the lines come after those of the slots.
abbrev pub deal_of : ℕ → ℕ → ℕ → Deal
deal_of w v slots = record { workers = w; worker = v; listener = record { 0 = 2 * slots + 1 + v } }

-- what the call answers but for the pass
abbrev pub served_of : Result (Served × Pass) ManyError → Result Served ManyError
served_of (Ok done) = Ok done.0
served_of (Err error) = Err error

-- the pass holds the number of every caller of the table, and what it has seen is legal
pub record HoldsAll (l : Limits) (pass : Pass) : Type 0 where
  pub legal : IsLegal l (seen pass)
  pub holds : (n : CallerNo) → n.0 < l.callers → Holds pass n

-- with which selectors this channel was registered, by these registrations in their order
abbrev pub selectors_with : ChanId → List (SelNo × ChanId) → List SelNo
selectors_with c registered = map (λ x. x.0) (filter (λ x. is_same_channel x.1 c) registered)

-- By these calls of the callers the channel was registered exactly once: by the caller of this number, with the
-- selector of this number. No other caller registered it.
pub record IsRegisteredOnce (calls : CallerNo → List Made) (number : ℕ) (c : ChanId) : Type 0 where
  pub once : selectors_with c (registrations (calls (caller number))) ≡ selector number ∷ []
  pub alone : (n : CallerNo) → n.0 ≢ number → selectors_with c (registrations (calls n)) ≡ []

-- the table's channel that is this channel of the net of worker v
abbrev pub channel_of : ℕ → ℕ → ℕ → ChanId → ChanId
channel_of w slots v c = table_channel (Some (deal_of w v slots)) c

-- the connection that was handed over is placed: each of its two channels was registered once, by its worker
pub record IsPlaced (w slots : ℕ) (calls : CallerNo → List Made) (h : Handover) : Type 0 where
  pub client : IsRegisteredOnce calls (h.worker + 1) (channel_of w slots h.worker h.client)
  pub target : IsRegisteredOnce calls (h.worker + 1) (channel_of w slots h.worker (target_of h.client))

-- Each caller made these whole calls. By them the acceptor registered the listener alone, with its selector, and each
-- connection that the call has added to the list is placed.
pub record ArePlaced (w slots : ℕ) (handed_before handed_now : List Handover) (history : List Event) : Type 0 where
  pub calls : CallerNo → List Made
  pub are : (n : CallerNo) → AreCallsOf (table_for w) (mine n history) (calls n)
  pub acceptor : registrations (calls (caller 0)) ≡ (selector 0, listener) ∷ []
  pub added : List Handover
  pub handed : handed_now ≡ handed_before ++ added
  pub placed : All (IsPlaced w slots calls) added
