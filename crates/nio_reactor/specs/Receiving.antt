-- What a worker has received on its line.
use Rattle.std.specs.Prelude.{◌≡◌, ℕ, ◌<◌, ◌≤◌, ◌⊎◌, ◌==◌, Bool, true, false, Option, Some, None, List, [], ◌∷◌, length}
use Rattle.std.specs.Prelude.{Result, OnOk, slice_get, slice_index_or}
use mathlib.Core.List.{IsPrefix}
use Rattle.nio_line.specs.Lines.{End as LineEnd, Exit as LineExit}
use Rattle.nio_relay.specs.declared.plan.ProxyPlan.{ProxyPlan}
use Rattle.nio_relay.specs.declared.plan.Served.{Served}
use Rattle.nio_serve.specs.declared.serving.ServeError.{ServeError}
use Rattle.nio_reactor.specs.Dealing.{share}
use Rattle.nio_reactor.specs.Doors.{worker_at}
use Rattle.nio_reactor.specs.declared.door.Door.{Door}
use Rattle.nio_reactor.specs.declared.door.Door.TheVariants as door
use Rattle.nio_reactor.specs.declared.handover.Handover.{Handover}
use Rattle.nio_reactor.specs.declared.heard.Heard.{Heard}
use Rattle.nio_reactor.specs.declared.heard.Heard.TheVariants as heard

-- the messages that were heard last and whose links weren't put in, by their connections; of the end, None
abbrev pub in_hand : {L : Type 0} → Heard L → List (Option ℕ)
in_hand heard.Nothing = []
in_hand (heard.Link handed) = Some handed.number ∷ []
in_hand (heard.Refused connection) = Some connection ∷ []
in_hand heard.End = None ∷ []
in_hand heard.Early = None ∷ []
in_hand (heard.Over gone) = gone

-- the line ended before all links had come
abbrev pub is_early : {L : Type 0} → Heard L → Bool
is_early heard.Nothing = false
is_early (heard.Link handed) = false
is_early (heard.Refused connection) = false
is_early heard.End = false
is_early heard.Early = true
is_early (heard.Over gone) = false

-- the end was heard
abbrev pub is_over : {L : Type 0} → Heard L → Bool
is_over heard.Nothing = false
is_over (heard.Link handed) = false
is_over (heard.Refused connection) = false
is_over heard.End = true
is_over heard.Early = true
is_over (heard.Over gone) = true

-- the message with which this link was sent, by its connection
abbrev pub put_number : Handover → Option ℕ
put_number h = Some h.connection

-- the door is that of this worker's line
abbrev pub is_door_of : ℕ → Door → Bool
is_door_of worker door.Unasked = false
is_door_of worker (door.Open at) = worker_at at == worker
is_door_of worker (door.Closed at) = worker_at at == worker

-- Worker v has put in no more links than it has connections, and all where it has served them. Where something came on
-- the line of its lane, that lane is its own.
pub record HasReceived {M : Type 0} (v conns : ℕ) (line : LineExit M) (worker : ℕ) (put : List Handover)
    (outcome : Result Served ServeError) : Type 0 where
  pub few : length put ≤ conns
  pub all : OnOk outcome (length put ≡ conns)
  pub own : (line.carried ≡ []) ⊎ (worker ≡ v)

-- every worker has: `line`, `worker`, `put` and `outcome` are what its lane shows
abbrev pub HaveReceived : {X M : Type 0} → ProxyPlan → (X → LineExit M) → (X → ℕ) → (X → List Handover)
    → (X → Result Served ServeError) → List X → List X → Type 0
HaveReceived {X} plan line worker put outcome before now =
    (v : ℕ) (x : X) → v < length before
    → HasReceived v (share (length before) v plan.conns) (line (slice_index_or now v x))
    (worker (slice_index_or now v x)) (put (slice_index_or now v x)) (outcome (slice_index_or now v x))

-- where something came on the line of a lane, its place is the number of its worker
abbrev pub AreOwn : {X M : Type 0} → (X → LineExit M) → (X → ℕ) → List X → Type 0
AreOwn {X} line worker lanes =
    (v : ℕ) (x : X) → slice_get lanes v ≡ Some x → ((line x).carried ≡ []) ⊎ (worker x ≡ v)

-- what each worker received is the first of what was sent to it
abbrev pub AreSettled : {X M : Type 0} → (X → LineExit M) → List X → List (LineEnd M) → Type 0
AreSettled {X} {M} line lanes entries =
    (v : ℕ) (x : X) (entry : LineEnd M) → slice_get lanes v ≡ Some x → slice_get entries v ≡ Some entry
    → IsPrefix (line x).carried entry.carried
