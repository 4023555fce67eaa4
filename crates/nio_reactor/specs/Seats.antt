-- What the callers of the shared table have to do with it: before they serve, and once they have served.
use Rattle.std.specs.Prelude.{◌≡◌, ℕ, ◌+◌, ◌<◌, ◌≤◌, Some, OnOk, Result, List, [], ◌∷◌, length}
use Rattle.std.specs.Prelude.{slice_index_or}
use Rattle.nio_base.specs.declared.numbers.CallerNo.{CallerNo}
use Rattle.nio_base.specs.declared.numbers.ChanId.{ChanId}
use Rattle.nio_history.specs.PassViews.{HasNoPin}
use Rattle.nio_history.specs.Histories.{mine}
use Rattle.nio_relay.specs.declared.plan.ProxyPlan.{ProxyPlan}
use Rattle.nio_relay.specs.declared.plan.Served.{Served}
use Rattle.nio_board.specs.Board.{BoardView}
use Rattle.nio_board.specs.Called.{HasCalled, IsUnregistered}
use Rattle.nio_serve.specs.Serving.{listener, run_channels}
use Rattle.nio_board.specs.declared.deal.Deal.{Deal}
use Rattle.nio_serve.specs.declared.serving.ServeError.{ServeError}
use Rattle.nio_steps.specs.Names.{selector}
use Rattle.nio_words.specs.Passes.{Holds, IsOnly, IsPassOf, IsReady, acts_seen, limits_of, seen}
use Rattle.nio_words.specs.Views.{view}
use Rattle.nio_words.specs.declared.words.Pass.{Pass}
use Rattle.nio_words.specs.declared.words.Words.{Words}
use Rattle.nio_reactor.specs.Dealing.{slots_of}
use Rattle.nio_reactor.specs.Placing.{caller, deal_of}
use Rattle.nio_reactor.specs.Working.{clients_of}
use Rattle.nio_reactor.specs.declared.handover.Handover.{Handover}

-- ---- before

-- The caller may step with the pass, and has no pin. It made whole calls, and registered nothing.
pub record IsNewcomer (w : Words) (p : Pass) (n : CallerNo) : Type 0 where
  pub ready : IsReady w p n
  pub unpinned : HasNoPin (view w p) n
  pub unregistered : IsUnregistered (limits_of w) (acts_seen p n)

-- each caller below k is a newcomer
abbrev pub AreNewcomers : Words → Pass → ℕ → Type 0
AreNewcomers w p k = (n : CallerNo) → n.0 < k → IsNewcomer w p n

-- The table's only pass has drawn the numbers below k, and the other callers have done nothing.
pub record HaveDrawn (w : Words) (p : Pass) (k : ℕ) : Type 0 where
  pub pass : IsPassOf w p
  pub only : IsOnly p
  pub drawn : AreNewcomers w p k
  pub rest : (n : CallerNo) → k ≤ n.0 → acts_seen p n ≡ []

-- Worker v, which is caller v + 1, is a newcomer with its own pass: `pass` is what each of the list shows.
abbrev pub HaveSeats : {X : Type 0} → Words → (X → Pass) → List X → Type 0
HaveSeats {X} w pass workers =
    (v : ℕ) (x : X) → v < length workers → IsNewcomer w (pass (slice_index_or workers v x)) (caller (v + 1))

-- The numbers from k on are left to a pass, beside that of the acceptor; those below were handed out.
pub record IsHandingOut (w : Words) (p : Pass) (passes : List Pass) (k n : ℕ) : Type 0 where
  pub acceptor : IsNewcomer w p (caller 0)
  pub rest : (v : ℕ) → k ≤ v → v < n → IsNewcomer w p (caller (v + 1))
  pub seats : HaveSeats w (λ pass. pass) passes
  pub count : length passes ≡ k

-- ---- the shares

-- that of the acceptor: each channel has its own number
abbrev pub acceptor_deal : Deal
acceptor_deal = record { workers = 1; worker = 0; listener = listener.number }

-- which channels a worker registers for these connections: where it has any, its line and the two of each
abbrev pub channels_for : List ChanId → List ChanId
channels_for [] = []
channels_for (client ∷ rest) = run_channels (client ∷ rest)

-- a board of the caller of this number, with the selector of this number, on which no channel is registered
pub record IsSeat (w : Words) (number : ℕ) (deal : Deal) (board : BoardView) : Type 0 where
  pub words : board.words ≡ w
  pub caller_is : board.caller ≡ caller number
  pub selector_is : board.selector ≡ selector number
  pub deal_is : board.deal ≡ Some deal
  pub registered_is : board.registered ≡ []

-- ---- at the end

-- The caller of this number may step with the pass. Where it has served, it has registered these channels of its share,
-- with the selector of its number, and nothing else.
pub record LeavesSeat {T E : Type 0} (w : Words) (number : ℕ) (deal : Deal) (registered : List ChanId) (pass : Pass)
    (result : Result T E) : Type 0 where
  pub ready : IsReady w pass (caller number)
  pub called : OnOk result
      (HasCalled (limits_of w) (acts_seen pass (caller number)) (Some deal) (selector number) registered)

-- So does each worker, whose channels are those of the connections that it has put in: `pass`, `put` and `outcome` are
-- what its lane shows.
abbrev pub LeaveSeats : {X : Type 0} → Words → ProxyPlan → (X → Pass) → (X → List Handover)
    → (X → Result Served ServeError) → List X → List X → Type 0
LeaveSeats {X} w plan pass put outcome before now =
    (v : ℕ) (x : X) → v < length before
    → LeavesSeat w (v + 1) (deal_of (length before) v (slots_of (length before) plan))
    (channels_for (clients_of (put (slice_index_or now v x)))) (pass (slice_index_or now v x))
    (outcome (slice_index_or now v x))

-- the numbers of the one pass are held by the other, and have done the same there
pub record StandsIn (before after : Pass) : Type 0 where
  pub holds : (n : CallerNo) → Holds before n → Holds after n
  pub own : (n : CallerNo) → Holds before n → mine n (seen after) ≡ mine n (seen before)
