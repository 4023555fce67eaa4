-- Which connections' links each worker puts in, and under which channels.
use Rattle.std.specs.Prelude.{◌≡◌, ◌≢◌, ℕ, zero, suc, ◌+◌, ◌*◌, ◌<◌, ◌≤◌, ◌⊎◌, Result, Ok, Err, List, [], ◌∷◌, ◌++◌}
use Rattle.std.specs.Prelude.{Option, Some, None, OnOk, length, slice_get, All, AllPairs}
use Rattle.nio_relay.specs.declared.plan.Served.{Served}
use Rattle.nio_base.specs.declared.numbers.ChanId.{ChanId}
use Rattle.nio_bytes.specs.Cause.{Rose}
use Rattle.nio_link.specs.Nets.{Members}
use Rattle.nio_link.specs.declared.place.Place.{Place}
use Rattle.nio_link.specs.declared.place.Role.TheVariants as role
use Rattle.nio_reactor.specs.Dealing.{share}
use Rattle.nio_reactor.specs.declared.handover.Handover.{Handover}
use Rattle.nio_reactor.specs.declared.many.ManyError.{ManyError}
use Rattle.nio_reactor.specs.declared.many.ManyError.TheVariants.{NetFault, Memory}

-- the numbers below n
abbrev pub below : ℕ → List ℕ
below zero = []
below (suc n) = below n ++ n ∷ []

-- Of w workers, worker v has the connections v, v + w, v + 2 * w and so on. It has put in the j-th of these, counted
-- from 0, under this channel.
abbrev pub handover : ℕ → ℕ → ℕ → ChanId → Handover
handover w v j client = record { connection = v + j * w; worker = v; client = client }

-- those of these numbers, each under its channel
abbrev pub handovers_of : ℕ → ℕ → List ℕ → List ChanId → List Handover
handovers_of w v [] clients = []
handovers_of w v (j ∷ later) [] = []
handovers_of w v (j ∷ later) (client ∷ clients) = handover w v j client ∷ handovers_of w v later clients

-- the first ones, as many as these channels
abbrev pub handovers : ℕ → ℕ → List ChanId → List Handover
handovers w v clients = handovers_of w v (below (length clients)) clients

-- those of the first workers, one worker after the other
abbrev pub handed_by : ℕ → (ℕ → List ChanId) → ℕ → List Handover
handed_by w clients zero = []
handed_by w clients (suc v) = handed_by w clients v ++ handovers w v (clients v)

-- links were put in under these channels, under each no more than one
pub record ArePutIn (place : ChanId → Place) (clients : List ChanId) : Type 0 where
  pub roles : All (λ c. (place c).role ≡ role.PutIn) clients
  pub apart : AllPairs (λ a b. a ≢ b) clients

-- What a call adds to the list, with these nets of its workers at its end: of each worker's connections the first ones,
-- whose links it has put in; where the plan was served, all of them.
pub record AreHanded {N : Type 0} (n : Members N) (conns : ℕ) (now : List N) (handed_before handed_now : List Handover)
    (result : Result Served ManyError) : Type 0 where
  pub clients : ℕ → List ChanId
  pub handed : handed_now ≡ handed_before ++ handed_by (length now) clients (length now)
  pub few : (v : ℕ) → v < length now → length (clients v) ≤ share (length now) v conns
  pub all : OnOk result ((v : ℕ) → v < length now → length (clients v) ≡ share (length now) v conns)
  pub put_in : (v : ℕ) (y : N) → slice_get now v ≡ Some y → ArePutIn (n.place y) (clients v)

-- what the first n workers have put in, one worker after the other
abbrev pub put_at : {X : Type 0} → (X → List Handover) → Option X → List Handover
put_at put None = []
put_at put (Some lane) = put lane

abbrev pub put_below : {X : Type 0} → (X → List Handover) → List X → ℕ → List Handover
put_below put lanes zero = []
put_below put lanes (suc v) = put_below put lanes v ++ put_at put (slice_get lanes v)

-- ---- the links that were let go

-- What an answer says of a worker's links: at Ok that all were put in, at NetFault that, or that a poll of its net
-- failed.
abbrev pub KeepsLinks : Result Served ManyError → Type 0 → Type 0 → Type 0
KeepsLinks (Ok served) all failed = all
KeepsLinks (Err NetFault) all failed = all ⊎ failed
KeepsLinks (Err Memory) all failed = Unit {0}

-- Where the links went that were accepted in this call. Each worker has put in the first of its own, under
-- these channels, and the others were let go: none at Ok; at NetFault none but those of a worker of whose net a poll
-- failed.
pub record AccountsForLinks {N : Type 0} (n : Members N) (accepted_before accepted_now : List ChanId)
    (before now : List N) (handed_before handed_now : List Handover) (result : Result Served ManyError) : Type 0 where
  pub clients : List ChanId
  pub accepted : accepted_now ≡ accepted_before ++ clients
  pub put : ℕ → List ChanId
  pub handed : handed_now ≡ handed_before ++ handed_by (length before) put (length before)
  pub few : (v : ℕ) → v < length before → length (put v) ≤ share (length before) v (length clients)
  pub kept : (v : ℕ) (x y : N) → slice_get before v ≡ Some x → slice_get now v ≡ Some y
      → KeepsLinks result (length (put v) ≡ share (length before) v (length clients))
      (Rose (n.poll_faults x) (n.poll_faults y))
