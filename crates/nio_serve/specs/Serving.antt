-- What a proxy promises.
use Rattle.std.specs.Prelude.{◌≡◌, ◌≢◌, ℕ, ◌+◌, ◌≤◌, ◌⊎◌, Bool, IsTrue, IsFalse, IfSome, Result, Ok, Err, List, [], ◌∷◌, ◌++◌}
use Rattle.std.specs.Prelude.{length, count_by, All, AllPairs}
use Rattle.nio_base.specs.Numbers.{first_channel}
use Rattle.nio_base.specs.declared.numbers.Addr.{Addr}
use Rattle.nio_base.specs.declared.numbers.ChanId.{ChanId}
use Rattle.nio_bytes.specs.Cause.{Rose}
use Rattle.nio_link.specs.Links.{Link, IsUnused}
use Rattle.nio_link.specs.Nets.{NetView}
use Rattle.nio_link.specs.Places.{never_asked, IsVacant}
use Rattle.nio_link.specs.declared.place.Place.{Place}
use Rattle.nio_link.specs.declared.place.Role.{Role}
use Rattle.nio_link.specs.declared.place.Role.TheVariants as role
use Rattle.nio_link.specs.declared.place.Standing.TheVariants.{Gone}
use Rattle.nio_relay.specs.Connection.{Carried, IsRelayed, IsClean}
use Rattle.nio_relay.specs.declared.plan.ProxyPlan.{ProxyPlan}
use Rattle.nio_relay.specs.declared.plan.Served.{Served}
use Rattle.nio_serve.specs.declared.serving.ServeError.{ServeError}
use Rattle.nio_serve.specs.declared.serving.ServeError.TheVariants.{NetFault, Memory}

-- ---- before

-- no link has carried anything, and no channel was asked to be anything
pub record IsFresh (v : NetView) : Type 0 where
  pub carried : (c : ChanId) → IsUnused (v.link c)
  pub unasked : (c : ChanId) → v.place c ≡ never_asked

-- ---- the links of a run

-- the listener is the first channel of the number 0
abbrev pub listener : ChanId
listener = first_channel (record { 0 = 0 })

-- A connection is known by its client's link. The link to its target has the next number, and the same serial.
abbrev pub target_of : ChanId → ChanId
target_of client = record { number = record { 0 = client.number.0 + 1 }; serial = client.serial }

-- the links of these connections
abbrev pub links_of : List ChanId → List ChanId
links_of [] = []
links_of (client ∷ rest) = client ∷ target_of client ∷ links_of rest

-- all channels of a run with these connections
abbrev pub run_channels : List ChanId → List ChanId
run_channels clients = listener ∷ links_of clients

-- ---- what was carried

-- the link has carried this, as far as the net shows it
pub record HasCarried (l : Link) (c : Carried) : Type 0 where
  pub got : IfSome l.got (λ bytes. bytes ≡ c.got)
  pub ended : IfSome l.ended (λ x. x ≡ c.ended)
  pub put : IfSome l.put (λ bytes. bytes ≡ c.put)
  pub shut : IfSome l.shut (λ x. x ≡ c.shut)

-- as far as the net shows it, the two links have carried what stands in this relation
pub record HaveCarried (P : Carried → Carried → Type 0) (client target : Link) : Type 0 where
  pub of_client : Carried
  pub of_target : Carried
  pub by_client : HasCarried client of_client
  pub by_target : HasCarried target of_target
  pub related : P of_client of_target

-- what each of the two links gave was put on the other, but for the few bytes that are on their way
abbrev pub AreRelayed : Carried → Carried → Type 0
AreRelayed client target = IsRelayed client target × IsRelayed target client

-- the connection has relayed its bytes, both ways
abbrev pub WasRelayed : (ChanId → Link) → ChanId → Type 0
WasRelayed link client = HaveCarried AreRelayed (link client) (link (target_of client))

-- it relayed all bytes, both ways, and both of its ends are shut
abbrev pub WasClean : (ChanId → Link) → ChanId → Type 0
WasClean link client = HaveCarried IsClean (link client) (link (target_of client))

-- ---- what is left

-- the channel was asked to be this, or nothing
abbrev pub IsAtMost : Role → Role → Type 0
IsAtMost wanted r = (r ≡ role.Nothing) ⊎ (r ≡ wanted)

-- a channel that wasn't asked to be anything, and has carried nothing
pub record IsUntouched (l : Link) (p : Place) : Type 0 where
  pub no_bytes : IsUnused l
  pub unasked : p ≡ never_asked

-- At every end: nothing stands under any channel. Channels were asked to be nothing but a listener at the plan's
-- address and, for each connection, a link that was accepted from it and, at most, one to the plan's target.
pub record LeavesNothing (plan : ProxyPlan) (clients : List ChanId) (v : NetView) : Type 0 where
  pub vacant : (c : ChanId) → IsVacant (v.place c).standing
  pub listens : IsAtMost (role.Listener plan.listen) (v.place listener).role
  pub no_bytes : IsUnused (v.link listener)
  pub accepted : All (λ c. (v.place c).role ≡ role.Accepted listener) clients
  pub targets : All (λ c. IsAtMost (role.Connected plan.target) (v.place (target_of c)).role) clients
  pub others : (c : ChanId) → All (λ own. c ≢ own) (run_channels clients) → IsUntouched (v.link c) (v.place c)

-- ---- what is answered

-- the connection's client was accepted, and is closed; its link to this target was asked for
pub record WasBegun (target : Addr) (place : ChanId → Place) (client : ChanId) : Type 0 where
  pub accepted : place client ≡ record { role = role.Accepted listener; standing = Gone }
  pub asked : (place (target_of client)).role ≡ role.Connected target

-- the count of faults of one of the connection's two links rose
abbrev pub HasFaulted : (ChanId → ℕ) → (ChanId → ℕ) → ChanId → Type 0
HasFaulted before now client =
    Rose (before client) (now client) ⊎ Rose (before (target_of client)) (now (target_of client))

-- the counts of its two links are as they were
pub record IsUnfaulted (before now : ChanId → ℕ) (c : ChanId) : Type 0 where
  pub client : now c ≡ before c
  pub target : now (target_of c) ≡ before (target_of c)

-- All connections of the plan were served. Some are counted as faulty: of each of those the count of faults of a link
-- rose in this call. Each other one was clean, and its counts didn't rise.
pub record HasServed (plan : ProxyPlan) (clients : List ChanId) (old new : NetView) (served : Served) : Type 0 where
  pub all : length clients ≡ plan.conns
  pub connections : served.connections ≡ plan.conns
  pub begun : All (WasBegun plan.target new.place) clients
  pub counted : ChanId → Bool
  pub faults : served.faults ≡ count_by counted clients
  pub faulty : All (λ c. IsTrue (counted c) → HasFaulted old.faults new.faults c) clients
  pub unfaulted : All (λ c. IsFalse (counted c) → IsUnfaulted old.faults new.faults c) clients
  pub clean : All (λ c. IsFalse (counted c) → WasClean new.link c) clients

-- all were served; or a poll or the listener failed; or memory lacked
abbrev pub Answers : ProxyPlan → List ChanId → NetView → NetView → Result Served ServeError → Type 0
Answers plan clients old new (Ok served) = HasServed plan clients old new served
Answers plan clients old new (Err NetFault) =
    Rose old.poll_faults new.poll_faults ⊎ Rose (old.faults listener) (new.faults listener)
Answers plan clients old new (Err Memory) = Unit {0}

-- no count of faults rose
pub record NoneRose (old new : NetView) : Type 0 where
  pub polls : Rose old.poll_faults new.poll_faults → ⊥
  pub links : (c : ChanId) → Rose (old.faults c) (new.faults c) → ⊥

-- every connection was served cleanly
pub record ServesCleanly (plan : ProxyPlan) (clients : List ChanId) (link : ChanId → Link) (served : Served)
    : Type 0 where
  pub connections : served.connections ≡ plan.conns
  pub faults : served.faults ≡ 0
  pub clean : All (WasClean link) clients

-- every connection was served cleanly, or memory lacked
abbrev pub ServesAllOr : ProxyPlan → List ChanId → (ChanId → Link) → Result Served ServeError → Type 0
ServesAllOr plan clients link (Ok served) = ServesCleanly plan clients link served
ServesAllOr plan clients link (Err NetFault) = ⊥
ServesAllOr plan clients link (Err Memory) = Unit {0}

-- ---- the promise

-- A proxy has gone from a net that shows `old` to one that shows `new`, and has answered so. At every end: connection k
-- is the one whose accept was the k-th in this call that answered true, counted from 0; each connection has links of its
-- own, and has relayed its bytes, both ways.
pub record Serves (plan : ProxyPlan) (old new : NetView) (result : Result Served ServeError) : Type 0 where
  pub clients : List ChanId
  pub accepted : new.accepted ≡ old.accepted ++ clients
  pub within : length clients ≤ plan.conns
  pub apart : AllPairs (λ a b. a ≢ b) (run_channels clients)
  pub relays : All (WasRelayed new.link) clients
  pub leaves : LeavesNothing plan clients new
  pub answers : Answers plan clients old new result
  pub complete : NoneRose old new → ServesAllOr plan clients new.link result
