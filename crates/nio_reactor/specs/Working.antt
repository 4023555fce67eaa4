-- What one worker has come to.
use Rattle.std.specs.Prelude.{◌≡◌, ◌≢◌, ℕ, ◌<◌, ◌≤◌, ◌⊎◌, Bool, IsTrue, IfOk, IsOk, Result, Ok, Err, Option, Some}
use Rattle.std.specs.Prelude.{None, All, option_map, List, length, map, slice_get, slice_index_or}
use Rattle.nio_base.specs.declared.numbers.Addr.{Addr}
use Rattle.nio_base.specs.declared.numbers.ChanId.{ChanId}
use Rattle.nio_bytes.specs.Cause.{Rose}
use Rattle.nio_link.specs.Links.{Link}
use Rattle.nio_link.specs.Nets.{Members, view_of}
use Rattle.nio_relay.specs.declared.plan.ProxyPlan.{ProxyPlan}
use Rattle.nio_relay.specs.declared.plan.Served.{Served}
use Rattle.nio_serve.specs.Serving.{NoneRose, WasClean}
use Rattle.nio_serve.specs.declared.serving.ServeError.{ServeError}
use Rattle.nio_serve.specs.declared.serving.ServeError.TheVariants.{NetFault, Memory}
use Rattle.nio_reactor.specs.Dealing.{share}
use Rattle.nio_reactor.specs.Many.{HasServedPart, RelaysPart, sum_below}
use Rattle.nio_reactor.specs.declared.handover.Handover.{Handover}
use Rattle.nio_reactor.specs.declared.many.ManyError.{ManyError}
use Rattle.nio_reactor.specs.declared.many.ManyError.TheVariants as many

-- every connection was clean
pub record IsCleanPart (clients : List ChanId) (link : ChanId → Link) (served : Served) : Type 0 where
  pub faults : served.faults ≡ 0
  pub clean : All (WasClean link) clients

-- under which channels these links were put in
abbrev pub clients_of : List Handover → List ChanId
clients_of put = map (λ h. h.client) put

-- A worker with so many connections to this target has gone from x to y, and has put in these links. It was told early
-- that no more links come, or not.
pub record HasWorked {N : Type 0} (n : Members N) (target : Addr) (conns : ℕ) (x y : N) (put : List Handover)
    (early : Bool) (outcome : Result Served ServeError) : Type 0 where
  pub relays : RelaysPart target conns (clients_of put) (view_of n y)
  pub serves : IfOk outcome (λ served.
      HasServedPart target conns (clients_of put) (view_of n x) (view_of n y) served.faults)
  pub fault : outcome ≡ Err NetFault → IsTrue early ⊎ Rose (n.poll_faults x) (n.poll_faults y)
  pub complete : NoneRose (view_of n x) (view_of n y) → IfOk outcome (IsCleanPart (clients_of put) (n.link y))

-- Every worker has: `net`, `put`, `early` and `outcome` are what its lane shows.
abbrev pub HaveWorked : {X N : Type 0} → Members N → ProxyPlan → (X → N) → (X → List Handover) → (X → Bool)
    → (X → Result Served ServeError) → List X → List X → Type 0
HaveWorked {X} n plan net put early outcome before now =
    (v : ℕ) (x : X) → v < length before → HasWorked n plan.target (share (length before) v plan.conns)
    (net (slice_index_or before v x)) (net (slice_index_or now v x)) (put (slice_index_or now v x))
    (early (slice_index_or now v x)) (outcome (slice_index_or now v x))

-- how many of a worker's connections had a fault, where it has served them
abbrev pub faults_of : Option (Result Served ServeError) → ℕ
faults_of None = 0
faults_of (Some (Ok served)) = served.faults
faults_of (Some (Err error)) = 0

-- the first n workers have served their connections, of which so many had a fault
pub record AddsSoFar {X : Type 0} (outcome : X → Result Served ServeError) (lanes : List X) (n faults : ℕ)
    : Type 0 where
  pub sum : faults ≡ sum_below (λ v. faults_of (option_map outcome (slice_get lanes v))) n
  pub all : (v : ℕ) (x : X) → v < n → slice_get lanes v ≡ Some x → IsOk (outcome x)

-- every worker has served its connections
pub record AddsAll {X : Type 0} (outcome : X → Result Served ServeError) (conns : ℕ) (lanes : List X)
    (served : Served) : Type 0 where
  pub connections : served.connections ≡ conns
  pub faults : served.faults ≡ sum_below (λ v. faults_of (option_map outcome (slice_get lanes v))) (length lanes)
  pub all : (v : ℕ) (x : X) → slice_get lanes v ≡ Some x → IsOk (outcome x)

-- no worker that has served its connections, of so many, counted more faults than it has connections
abbrev pub CountFew : {X : Type 0} → (X → Result Served ServeError) → ℕ → List X → Type 0
CountFew {X} outcome conns lanes =
    (v : ℕ) (x : X) → slice_get lanes v ≡ Some x
    → IfOk (outcome x) (λ served. served.faults ≤ share (length lanes) v conns)

-- a worker has ended for this reason
pub record HasEnded {X : Type 0} (reason : ServeError) (outcome : X → Result Served ServeError) (lanes : List X)
    : Type 0 where
  pub worker : ℕ
  pub lane : X
  pub is : slice_get lanes worker ≡ Some lane
  pub reason_is : outcome lane ≡ Err reason

-- none has
abbrev pub NoneHasEnded : {X : Type 0} → ServeError → (X → Result Served ServeError) → List X → Type 0
NoneHasEnded reason outcome lanes = All (λ l. outcome l ≢ Err reason) lanes

-- what the workers came to, together, where none lacked memory
abbrev pub AddsUp : {X : Type 0} → (X → Result Served ServeError) → ℕ → List X → Result Served ManyError → Type 0
AddsUp outcome conns lanes (Ok served) = AddsAll outcome conns lanes served
AddsUp outcome conns lanes (Err many.NetFault) = HasEnded NetFault outcome lanes
AddsUp outcome conns lanes (Err many.Memory) = ⊥

-- What the proxy answers, by what its acceptor and its workers came to: that memory lacked comes before all else.
abbrev pub Concludes : {X : Type 0} → Result (Unit {0}) ManyError → (X → Result Served ServeError) → ℕ → List X
    → Result Served ManyError → Type 0
Concludes accepted outcome conns lanes (Ok served) = IsOk accepted × AddsAll outcome conns lanes served
Concludes accepted outcome conns lanes (Err many.NetFault) =
    NoneHasEnded Memory outcome lanes
    × ((accepted ≡ Err many.NetFault) ⊎ (IsOk accepted × HasEnded NetFault outcome lanes))
Concludes accepted outcome conns lanes (Err many.Memory) =
    (accepted ≡ Err many.Memory) ⊎ HasEnded Memory outcome lanes
