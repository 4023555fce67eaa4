-- What a proxy with one accepting selector and several working ones promises.
use Rattle.std.specs.Prelude.{◌≡◌, ◌≢◌, ℕ, zero, suc, ◌+◌, ◌≤◌, ◌⊎◌, Bool, IsTrue, IsFalse, Some}
use Rattle.std.specs.Prelude.{Result, Ok, Err, List, ◌∷◌, ◌++◌, length, slice_get, count_by, All, AllPairs}
use Rattle.nio_base.specs.declared.numbers.Addr.{Addr}
use Rattle.nio_base.specs.declared.numbers.ChanId.{ChanId}
use Rattle.nio_bytes.specs.Cause.{Rose}
use Rattle.nio_link.specs.Links.{IsUnused}
use Rattle.nio_link.specs.Nets.{Members, NetView, view_of}
use Rattle.nio_link.specs.Places.{never_asked, IsVacant}
use Rattle.nio_link.specs.declared.place.Place.{Place}
use Rattle.nio_link.specs.declared.place.Role.TheVariants as role
use Rattle.nio_link.specs.declared.place.Standing.TheVariants.{Gone}
use Rattle.nio_relay.specs.declared.plan.ProxyPlan.{ProxyPlan}
use Rattle.nio_relay.specs.declared.plan.Served.{Served}
use Rattle.nio_serve.specs.Serving.{target_of, listener, run_channels, HasFaulted, IsAtMost, IsUnfaulted, IsUntouched}
use Rattle.nio_serve.specs.Serving.{NoneRose, WasClean, WasRelayed}
use Rattle.nio_reactor.specs.Dealing.{share}
use Rattle.nio_reactor.specs.declared.many.ManyError.{ManyError}
use Rattle.nio_reactor.specs.declared.many.ManyError.TheVariants.{NetFault, Memory}

-- ---- the net that accepts

-- At every end: nothing stands there; no link has carried more; channels were asked to be nothing but a listener at the
-- plan's address and, for each connection, a link from it.
pub record LeavesAcceptor (plan : ProxyPlan) (clients : List ChanId) (old new : NetView) : Type 0 where
  pub vacant : (c : ChanId) → IsVacant (new.place c).standing
  pub listens : IsAtMost (role.Listener plan.listen) (new.place listener).role
  pub accepted : All (λ c. (new.place c).role ≡ role.Accepted listener) clients
  pub others : (c : ChanId) → All (λ own. c ≢ own) (listener ∷ clients) → new.place c ≡ never_asked
  pub links : (c : ChanId) → new.link c ≡ old.link c

-- ---- the net of a worker

-- Of w workers, worker v has the connections k below conns with k modulo w equal to v. In its net they are known by the
-- channels under which their clients' links were put in.

-- At every end, of a worker's net: nothing stands there. Channels were asked to be nothing but, for each of its
-- connections, a link that was put in and, at most, one to the plan's target.
pub record LeavesWorker (target : Addr) (clients : List ChanId) (v : NetView) : Type 0 where
  pub vacant : (c : ChanId) → IsVacant (v.place c).standing
  pub unasked : v.place listener ≡ never_asked
  pub no_bytes : IsUnused (v.link listener)
  pub put_in : All (λ c. (v.place c).role ≡ role.PutIn) clients
  pub targets : All (λ c. IsAtMost (role.Connected target) (v.place (target_of c)).role) clients
  pub others : (c : ChanId) → All (λ own. c ≢ own) (run_channels clients) → IsUntouched (v.link c) (v.place c)

-- At every end, of a worker's net, into which no more links were put than it has connections: each connection has links
-- of its own, and has relayed its bytes, both ways; and the net is left so.
pub record RelaysPart (target : Addr) (conns : ℕ) (clients : List ChanId) (v : NetView) : Type 0 where
  pub within : length clients ≤ conns
  pub apart : AllPairs (λ a b. a ≢ b) (run_channels clients)
  pub relays : All (WasRelayed v.link) clients
  pub leaves : LeavesWorker target clients v

-- the client of this connection was put in, and is closed; its link to this target was asked for
pub record WasPutIn (target : Addr) (place : ChanId → Place) (client : ChanId) : Type 0 where
  pub put_in : place client ≡ record { role = role.PutIn; standing = Gone }
  pub asked : (place (target_of client)).role ≡ role.Connected target

-- A worker served its connections, so many. Some of them, so many, are counted as faulty: of each of those the count
-- of faults of a link rose in this call. Each other one was clean, and its counts didn't rise.
pub record HasServedPart (target : Addr) (conns : ℕ) (clients : List ChanId) (old new : NetView) (some : ℕ)
    : Type 0 where
  pub all : length clients ≡ conns
  pub begun : All (WasPutIn target new.place) clients
  pub counted : ChanId → Bool
  pub faults : some ≡ count_by counted clients
  pub faulty : All (λ c. IsTrue (counted c) → HasFaulted old.faults new.faults c) clients
  pub unfaulted : All (λ c. IsFalse (counted c) → IsUnfaulted old.faults new.faults c) clients
  pub clean : All (λ c. IsFalse (counted c) → WasClean new.link c) clients

-- ---- what is answered

abbrev pub sum_below : (ℕ → ℕ) → ℕ → ℕ
sum_below f zero = 0
sum_below f (suc n) = sum_below f n + f n

-- All connections of the plan were accepted and served: by each worker its own.
pub record HasServedAll {N : Type 0} (n : Members N) (plan : ProxyPlan) (clients : List ChanId) (put : ℕ → List ChanId)
    (before now : List N) (served : Served) : Type 0 where
  pub all : length clients ≡ plan.conns
  pub connections : served.connections ≡ plan.conns
  pub faulty : ℕ → ℕ
  pub faults : served.faults ≡ sum_below faulty (length now)
  pub parts : (v : ℕ) (x y : N) → slice_get before v ≡ Some x → slice_get now v ≡ Some y
      → HasServedPart plan.target (share (length now) v plan.conns) (put v) (view_of n x) (view_of n y) (faulty v)

-- a poll of a worker's net failed
pub record APollRose {N : Type 0} (n : Members N) (before now : List N) : Type 0 where
  pub worker : ℕ
  pub first : N
  pub last : N
  pub was : slice_get before worker ≡ Some first
  pub is : slice_get now worker ≡ Some last
  pub rose : Rose (n.poll_faults first) (n.poll_faults last)

-- all were served; or a poll or the listener failed; or memory lacked
abbrev pub AnswersMany : {N : Type 0} → Members N → ProxyPlan → List ChanId → (ℕ → List ChanId) → N → N → List N
    → List N → Result Served ManyError → Type 0
AnswersMany n plan clients put old new before now (Ok served) = HasServedAll n plan clients put before now served
AnswersMany n plan clients put old new before now (Err NetFault) =
    (Rose (n.poll_faults old) (n.poll_faults new) ⊎ Rose (n.faults old listener) (n.faults new listener))
    ⊎ APollRose n before now
AnswersMany n plan clients put old new before now (Err Memory) = Unit {0}

-- no count of faults of any of the nets rose
pub record NoneRoseOfAll {N : Type 0} (n : Members N) (old new : N) (before now : List N) : Type 0 where
  pub acceptor : NoneRose (view_of n old) (view_of n new)
  pub workers : (v : ℕ) (x y : N) → slice_get before v ≡ Some x → slice_get now v ≡ Some y
      → NoneRose (view_of n x) (view_of n y)

-- every connection was served cleanly
pub record AreAllClean {N : Type 0} (n : Members N) (plan : ProxyPlan) (put : ℕ → List ChanId) (now : List N)
    (served : Served) : Type 0 where
  pub connections : served.connections ≡ plan.conns
  pub faults : served.faults ≡ 0
  pub clean : (v : ℕ) (y : N) → slice_get now v ≡ Some y → All (WasClean (n.link y)) (put v)

-- every connection was served cleanly, or memory lacked
abbrev pub ServesAllCleanOr : {N : Type 0} → Members N → ProxyPlan → (ℕ → List ChanId) → List N
    → Result Served ManyError → Type 0
ServesAllCleanOr n plan put now (Ok served) = AreAllClean n plan put now served
ServesAllCleanOr n plan put now (Err NetFault) = ⊥
ServesAllCleanOr n plan put now (Err Memory) = Unit {0}

-- ---- the promise

-- A proxy has gone from these nets to those, the one that accepts and those of its workers, and has answered so. At
-- every end: connection k is the one whose accept was the k-th in this call that answered true, counted from 0; and
-- each worker has put in links under these channels, each connection of its own, and has relayed its bytes.
pub record ServesMany {N : Type 0} (n : Members N) (plan : ProxyPlan) (old new : N) (before now : List N)
    (result : Result Served ManyError) : Type 0 where
  pub clients : List ChanId
  pub accepted : n.accepted new ≡ n.accepted old ++ clients
  pub within : length clients ≤ plan.conns
  pub apart : AllPairs (λ a b. a ≢ b) (listener ∷ clients)
  pub leaves : LeavesAcceptor plan clients (view_of n old) (view_of n new)
  pub put : ℕ → List ChanId
  pub workers : (v : ℕ) (y : N) → slice_get now v ≡ Some y
      → RelaysPart plan.target (share (length now) v plan.conns) (put v) (view_of n y)
  pub answers : AnswersMany n plan clients put old new before now result
  pub complete : NoneRoseOfAll n old new before now → ServesAllCleanOr n plan put now result
