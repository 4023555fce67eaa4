-- The net of the selector that accepts, at work.
use Rattle.std.specs.Prelude.{◌≡◌, ◌≢◌, ℕ, zero, suc, ◌<◌, ◌≤◌, ◌⊎◌, OnOk, Result, Err, List, ◌++◌, map, length, slice_get}
use Rattle.std.specs.Prelude.{Option, Some, None, [], ◌∷◌}
use Rattle.nio_base.specs.declared.numbers.ChanId.{ChanId}
use Rattle.nio_line.specs.Lines.{End as LineEnd}
use Rattle.nio_link.specs.Links.{IsUnused}
use Rattle.nio_link.specs.Nets.{Members, view_of}
use Rattle.nio_link.specs.Places.{channel, never_asked, IsVacant}
use Rattle.nio_link.specs.declared.place.Role.TheVariants as role
use Rattle.nio_serve.specs.Serving.{listener, IsFresh}
use Rattle.nio_reactor.specs.Dealing.{dealt, number_of}
use Rattle.nio_reactor.specs.Many.{LeavesAcceptor}
use Rattle.nio_reactor.specs.declared.many.ManyError.{ManyError}
use Rattle.nio_reactor.specs.declared.many.ManyError.TheVariants.{NetFault}
use Rattle.nio_relay.specs.Plan.{IsServable}
use Rattle.nio_relay.specs.declared.plan.ProxyPlan.{ProxyPlan}
use Rattle.nio_bytes.specs.Cause.{Rose}
use Rattle.nio_reactor.specs.declared.message.Message.{Message}
use Rattle.nio_reactor.specs.declared.message.Message.TheVariants.{End}

-- All links are accepted under one number: that of the connection k, counted from 0, has the serial k.
abbrev pub client_at : ℕ → ChanId
client_at k = channel (record { 0 = 1 }) k

-- those of the first connections
abbrev pub clients_below : ℕ → List ChanId
clients_below zero = []
clients_below (suc n) = clients_below n ++ client_at n ∷ []

-- So many links were accepted, in the order of their numbers. None of them stands there any more, and none has carried
-- anything.
pub record IsAccepting {N : Type 0} (n : Members N) (count : ℕ) (net : N) : Type 0 where
  pub fresh : (c : ChanId) → IsUnused (n.link net c)
  pub vacant : (c : ChanId) → c ≢ listener → IsVacant (n.place net c).standing
  pub clients : (k : ℕ) → k < count → (n.place net (client_at k)).role ≡ role.Accepted listener
  pub rest : (c : ChanId) → c ≢ listener → ((k : ℕ) → k < count → c ≢ client_at k) → n.place net c ≡ never_asked

-- from a net x, at which k links were accepted, to a net y, at which o were
pub record Accepts {N : Type 0} (n : Members N) (k o : ℕ) (x y : N) : Type 0 where
  pub links : (c : ChanId) → n.link y c ≡ n.link x c
  pub order : (start : List ChanId) → n.accepted x ≡ start ++ clients_below k → n.accepted y ≡ start ++ clients_below o
  pub later : n.faults x listener ≤ n.faults y listener
  pub polls : n.poll_faults x ≤ n.poll_faults y

-- where the connections below k were sent on these lines, after others, those below n are; the lines are the same
pub record Deals {L : Type 0} (k n : ℕ) (before now : List (LineEnd (Message L))) : Type 0 where
  pub count : length now ≡ length before
  pub same : map (λ e. e.line) now ≡ map (λ e. e.line) before
  pub dealt : (w v : ℕ) (x y : LineEnd (Message L)) (start : List (Option ℕ)) → length before ≡ w
      → slice_get before v ≡ Some x → slice_get now v ≡ Some y → map number_of x.carried ≡ start ++ dealt w v k
      → map number_of y.carried ≡ start ++ dealt w v n

-- `End` was sent on each line
pub record AreEnded {L : Type 0} (before now : List (LineEnd (Message L))) : Type 0 where
  pub count : length now ≡ length before
  pub same : map (λ e. e.line) now ≡ map (λ e. e.line) before
  pub ended : (v : ℕ) (x y : LineEnd (Message L)) → slice_get before v ≡ Some x → slice_get now v ≡ Some y
      → y.carried ≡ x.carried ++ End ∷ []

-- the same of the first k lines; the others are as they were
pub record EndedBelow {L : Type 0} (k : ℕ) (before now : List (LineEnd (Message L))) : Type 0 where
  pub count : length now ≡ length before
  pub same : map (λ e. e.line) now ≡ map (λ e. e.line) before
  pub ended : (v : ℕ) (x y : LineEnd (Message L)) → v < k → slice_get before v ≡ Some x → slice_get now v ≡ Some y
      → y.carried ≡ x.carried ++ End ∷ []
  pub rest : (v : ℕ) (x y : LineEnd (Message L)) → k ≤ v → slice_get before v ≡ Some x → slice_get now v ≡ Some y
      → y ≡ x

-- Each connection that was accepted was sent to its worker, and then `End` to all: the line of worker v carries its
-- connections in their order, and `End` as the last message.
pub record HasSent {L : Type 0} (accepted_before accepted_now : List ChanId) (before now : List (LineEnd (Message L)))
    : Type 0 where
  pub count : ℕ
  pub accepted : accepted_now ≡ accepted_before ++ clients_below count
  pub lines : length now ≡ length before
  pub same : map (λ e. e.line) now ≡ map (λ e. e.line) before
  pub sent : (v : ℕ) (x y : LineEnd (Message L)) → slice_get before v ≡ Some x → slice_get now v ≡ Some y
      → map number_of y.carried ≡ map number_of x.carried ++ dealt (length before) v count ++ None ∷ []

-- a fresh net, with so many lines
pub record CanAccept {N : Type 0} (n : Members N) (plan : ProxyPlan) (lines : ℕ) (net : N) : Type 0 where
  pub servable : IsServable plan
  pub fresh : IsFresh (view_of n net)
  pub some : 0 < lines

-- the net that accepts has gone from x to y
pub record HasAccepted {N : Type 0} (n : Members N) (plan : ProxyPlan) (x y : N)
    (result : Result (Unit {0}) ManyError) : Type 0 where
  pub count : ℕ
  pub some : count ≤ plan.conns
  pub all : OnOk result (count ≡ plan.conns)
  pub order : n.accepted y ≡ n.accepted x ++ clients_below count
  pub fault : result ≡ Err NetFault
      → Rose (n.poll_faults x) (n.poll_faults y) ⊎ Rose (n.faults x listener) (n.faults y listener)
  pub leaves : LeavesAcceptor plan (clients_below count) (view_of n x) (view_of n y)
