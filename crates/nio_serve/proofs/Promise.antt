-- What the proxy promises, from what stands of its connections.
use Rattle.std.proofs.Common.{◌≡◌, ◌≢◌, ℕ, ◌+◌, ◌-◌, ◌<◌, ◌≤◌, ◌⊎◌, inl, inr, Bool, true, false, IsTrue, IsFalse}
use Rattle.std.proofs.Common.{Option, Some, None, IsSome, is_some, Result, Ok, Err, is_err, List, [], ◌∷◌, ◌++◌, length}
use Rattle.std.proofs.Common.{slice_get, slice_index_or, refl, sym, ap, subst, ◌∙◌, arith, length-append}
use Rattle.std.specs.Prelude.{All, Contains}
use mathlib.Core.List.{IsPrefix}
use Rattle.std.proofs.lemmas.Bool.{cases_eq, cases_order, false_from_ne_true}
use Rattle.std.proofs.lemmas.List.{append-nil, append_cancel_left}
use Rattle.std.proofs.lemmas.List.Elements.{All-contains, All-nil}
use Rattle.nio_base.specs.declared.numbers.Addr.{Addr}
use Rattle.nio_base.specs.declared.numbers.ChanId.{ChanId}
use Rattle.nio_bytes.specs.Cause.{Rose}
use Rattle.nio_link.proofs.Channels.{all_same, channel_is_or_not}
use Rattle.nio_link.specs.Links.{Link, IsUnused, IsSameBut}
use Rattle.nio_link.specs.Nets.{Members, NetView, Listens, view_of}
use Rattle.nio_link.specs.Places.{channel, never_asked, IsVacant, place_after_close, place_after_listen}
use Rattle.nio_link.specs.declared.net.Failed.{Failed}
use Rattle.nio_link.specs.declared.place.Place.{Place}
use Rattle.nio_link.specs.declared.place.Role.{Role}
use Rattle.nio_link.specs.declared.place.Role.TheVariants as role
use Rattle.nio_link.specs.declared.place.Standing.{Standing}
use Rattle.nio_link.specs.declared.place.Standing.TheVariants.{Listening, Gone}
use Rattle.nio_relay.proofs.ConnectionLemmas.{lawful-few}
use Rattle.nio_relay.specs.Connection.{Carried, IsClean, IsRelayed, IsWhole}
use Rattle.nio_relay.specs.Flow.{Flow, IsLawful}
use Rattle.nio_relay.specs.declared.plan.ProxyPlan.{ProxyPlan}
use Rattle.nio_relay.specs.declared.plan.Served.{Served}
use Rattle.nio_board.specs.declared.board.Port.{Port}
use Rattle.nio_serve.specs.Changes.{AreUnbegun}
use Rattle.nio_serve.specs.Nets.{IsQuiet, OnlyCloses}
use Rattle.nio_serve.specs.Relaying.{carried, target_role}
use Rattle.nio_serve.specs.Serving.{IsFresh, HaveCarried, AreRelayed, WasRelayed, WasClean, IsAtMost, IsUntouched}
use Rattle.nio_serve.specs.Serving.{LeavesNothing, WasBegun, HasFaulted, IsUnfaulted, HasServed, Answers, NoneRose}
use Rattle.nio_serve.specs.Serving.{ServesAllOr, Serves, listener, run_channels, target_of}
use Rattle.nio_serve.specs.Slots.{AreClosed, AreServed, AreUntouched, IsClient, ListensAt, Serving, StandsAs}
use Rattle.nio_serve.specs.Slots.{client_at, status_at, status_of, target_at}
use Rattle.nio_serve.specs.Statuses.{HasEnded, HasRoles, IsBroken, IsLive, IsStatus, has_ended, has_faulted}
use Rattle.nio_serve.specs.Watching.{HasRegisteredAll, HasRegisteredSome}
use Rattle.nio_serve.specs.declared.connections.Connections.{Connections}
use Rattle.nio_serve.specs.declared.relay.Ended.TheVariants.{Clean, Faulted, Dropped}
use Rattle.nio_serve.specs.declared.relay.Relay.{Relay}
use Rattle.nio_serve.specs.declared.relay.Stage.{Stage}
use Rattle.nio_serve.specs.declared.relay.Stage.TheVariants as stage
use Rattle.nio_serve.specs.Statuses.{Status}
use Rattle.nio_serve.specs.Statuses.{Live, Over}
use Rattle.nio_serve.specs.declared.serving.ServeError.{ServeError}
use Rattle.nio_serve.specs.declared.serving.ServeError.TheVariants.{NetFault, Memory}
use Rattle.nio_serve.specs.declared.slot.Slot.{Slot}
use Rattle.nio_serve.proofs.Begun.{unused_relayed}
use Rattle.nio_serve.proofs.Clients.{a_client, a_target, all_clients, not_client, not_listener, run_apart, the_first}
use Rattle.nio_serve.proofs.Clients.{whose}
use Rattle.nio_serve.proofs.Counts.{count_all, count_few, count_none}
use Rattle.nio_serve.proofs.Ends.{end_gone, target_carried}
use Rattle.nio_serve.proofs.Idle.{counted_of, none_first, slots_first}
use Rattle.nio_serve.proofs.Slotting.{faulted_from, none_live, over_vacant, status_by, untouched_as}
use Rattle.nio_serve.proofs.Statuses.{client_listener, past_of, serial_of, status_over, statuses_live, target_listener}
use Rattle.nio_serve.proofs.Working.{gone_stays, later_all, quiet_then, role_stays, rose_from, vacant_stays}

-- ---- bytes

whole_relayed : (a b : Carried) → IsWhole a b → IsRelayed a b
whole_relayed a b whole =
    record {
      in_order = ([], append-nil b.put ∙ whole.bytes);
      few_missing = omega (arith, ap length whole.bytes);
      whole_at_shut = λ _. whole;
    }

-- what a lawful direction relays
lawful_relayed : (f g : Flow) → IsLawful f → IsRelayed (carried f g) (carried g f)
lawful_relayed f g lawful = record {
  in_order = lawful.in_order;
  few_missing = lawful-few f lawful;
  whole_at_shut = λ is_shut. record {
    bytes = lawful.shut_whole is_shut;
    ended = lawful.shut_after_end is_shut;
    shut = is_shut;
  };
}

live_relayed : (made : Stage) (there back : Flow) (client target : Link) (p q : Place)
    → IsLive made there back client target p q → HaveCarried AreRelayed client target
live_relayed made there back client target p q is = record {
  of_client = carried there back;
  of_target = carried back there;
  by_client = is.relaying.by_client.carried;
  by_target = target_carried made target q (carried back there) is.relaying.by_target;
  related = (lawful_relayed there back is.there_lawful, lawful_relayed back there is.back_lawful);
}

live_clean : (made : Stage) (there back : Flow) (client target : Link) (p q : Place)
    → IsLive made there back client target p q → IsTrue there.shut → IsTrue back.shut
    → HaveCarried IsClean client target
live_clean made there back client target p q is there_shut back_shut = record {
  of_client = carried there back;
  of_target = carried back there;
  by_client = is.relaying.by_client.carried;
  by_target = target_carried made target q (carried back there) is.relaying.by_target;
  related = record {
    there = (lawful_relayed there back is.there_lawful).whole_at_shut there_shut;
    back = (lawful_relayed back there is.back_lawful).whole_at_shut back_shut;
  };
}

have_moved : {P : Carried → Carried → Type 0} (c0 c1 t0 t1 : Link) → c1 ≡ c0 → t1 ≡ t0 → HaveCarried P c0 t0
    → HaveCarried P c1 t1
have_moved {P} c0 c1 t0 t1 clients targets have =
    subst (λ c. HaveCarried P c t1) (sym clients) (subst (λ t. HaveCarried P c0 t) (sym targets) have)

broken_relayed : (there back : Flow) (client target : Link) (p : Place) → IsLawful there → IsLawful back
    → IsBroken there back client target p → HaveCarried AreRelayed client target
broken_relayed there back client target p there_lawful back_lawful is = record {
  of_client = carried there back;
  of_target = carried back there;
  by_client = is.by_client.carried;
  by_target = is.by_target;
  related = (lawful_relayed there back there_lawful, lawful_relayed back there back_lawful);
}

-- a connection that is closed after a fault
pub ended_faulty : (there back : Flow) (c0 c1 t0 t1 : Link) (p0 p1 q1 : Place) → IsLawful there → IsLawful back
    → IsBroken there back c0 t0 p0 → c1 ≡ c0 → t1 ≡ t0 → p1 ≡ place_after_close p0 → IsVacant q1.standing
    → HasEnded AreRelayed c1 t1 p1 q1
ended_faulty there back c0 c1 t0 t1 p0 p1 q1 there_lawful back_lawful broken clients targets client target = record {
  carried = have_moved c0 c1 t0 t1 clients targets
      (broken_relayed there back c0 t0 p0 there_lawful back_lawful broken);
  client_closed = end_gone p1 client broken.by_client;
  target_closed = target;
}

-- a connection that is closed where both directions are shut
module _ (made : Stage) (there back : Flow) (c0 c1 t0 t1 : Link) (p0 p1 q0 q1 : Place)
    (live : IsLive made there back c0 t0 p0 q0) (clients : c1 ≡ c0) (targets : t1 ≡ t0)
    (client : p1 ≡ place_after_close p0) (target : IsVacant q1.standing) where
  pub ended_clean : IsTrue there.shut → IsTrue back.shut → HasEnded IsClean c1 t1 p1 q1
  ended_clean there_shut back_shut =
      record {
        carried = have_moved c0 c1 t0 t1 clients targets
            (live_clean made there back c0 t0 p0 q0 live there_shut back_shut);
        client_closed =
            end_gone p1 client live.relaying.by_client;
        target_closed = target;
      }

status_relayed : (status : Status) (client target : Link) (p q : Place) → IsStatus status client target p q
    → HaveCarried AreRelayed client target
status_relayed (Live relay) client target p q is =
    live_relayed relay.stage relay.there relay.back client target p q is
status_relayed (Over Clean) client target p q is = record {
  of_client = is.carried.of_client;
  of_target = is.carried.of_target;
  by_client = is.carried.by_client;
  by_target = is.carried.by_target;
  related = (
    whole_relayed is.carried.of_client is.carried.of_target is.carried.related.there,
    whole_relayed is.carried.of_target is.carried.of_client is.carried.related.back,
  );
}
status_relayed (Over Faulted) client target p q is = is.carried
status_relayed (Over Dropped) client target p q is = unused_relayed client target is.client_unused is.target_unused

-- of a connection that has ended without a fault
stands_clean : (to : Addr) (o : Option Status) (client target : Link) (p q : Place) → IsTrue (has_ended o)
    → IsFalse (has_faulted o) → StandsAs to o client target p q → HaveCarried IsClean client target
stands_clean to None client target p q ended clean is = absurd (cc)
stands_clean to (Some (Live relay)) client target p q ended clean is = absurd (cc)
stands_clean to (Some (Over Clean)) client target p q ended clean is = is.is_status.carried
stands_clean to (Some (Over Faulted)) client target p q ended clean is = absurd (cc)
stands_clean to (Some (Over Dropped)) client target p q ended clean is = absurd (cc)

-- ---- places

stands_gone : (to : Addr) (o : Option Status) (client target : Link) (p q : Place) → IsTrue (has_ended o)
    → StandsAs to o client target p q → p.standing ≡ Gone
stands_gone to None client target p q ended is = absurd (cc)
stands_gone to (Some (Live relay)) client target p q ended is = absurd (cc)
stands_gone to (Some (Over Clean)) client target p q ended is = is.is_status.client_closed
stands_gone to (Some (Over Faulted)) client target p q ended is = is.is_status.client_closed
stands_gone to (Some (Over Dropped)) client target p q ended is = absurd (cc)

pub place_as : (p : Place) (r : Role) (s : Standing) → p.role ≡ r → p.standing ≡ s
    → p ≡ record { role = r; standing = s }
place_as p r s roles stands =
    ap (λ (x : Role). let q : Place = record { role = x; standing = p.standing } in q) roles
    ∙ ap (λ (x : Standing). let q : Place = record { role = r; standing = x } in q) stands

role_at_most : (s : Stage) (to : Addr) → IsAtMost (role.Connected to) (target_role s to)
role_at_most stage.Accepted to = inl refl
role_at_most stage.Connecting to = inr refl
role_at_most stage.Connected to = inr refl

-- the roles of a connection that began
roles_begun : (to : Addr) (status : Status) (r s : Role) → HasRoles to status r s
    → (r ≡ role.Accepted listener) × IsAtMost (role.Connected to) s
roles_begun to (Live relay) r s has =
    (has.0, subst (IsAtMost (role.Connected to)) (sym has.1) (role_at_most relay.stage to))
roles_begun to (Over Clean) r s has = (has.0, inr has.1)
roles_begun to (Over Faulted) r s has = (has.0, inr has.1)
roles_begun to (Over Dropped) r s has = (has.0, inl has.1)

stands_roles : (to : Addr) (o : Option Status) (client target : Link) (p q : Place) → IsSome o
    → StandsAs to o client target p q → (p.role ≡ role.Accepted listener) × IsAtMost (role.Connected to) q.role
stands_roles to None client target p q some is = absurd (cc)
stands_roles to (Some status) client target p q some is = roles_begun to status p.role q.role is.roles

roles_ended : (to : Addr) (o : Option Status) (client target : Link) (p q : Place) → IsTrue (has_ended o)
    → StandsAs to o client target p q → (p.role ≡ role.Accepted listener) × (q.role ≡ role.Connected to)
roles_ended to None client target p q ended is = absurd (cc)
roles_ended to (Some (Live relay)) client target p q ended is = absurd (cc)
roles_ended to (Some (Over Clean)) client target p q ended is = is.roles
roles_ended to (Some (Over Faulted)) client target p q ended is = is.roles
roles_ended to (Some (Over Dropped)) client target p q ended is = absurd (cc)

stands_relayed : (to : Addr) (o : Option Status) (client target : Link) (p q : Place) → StandsAs to o client target p q
    → HaveCarried AreRelayed client target
stands_relayed to None client target p q is = unused_relayed client target is.client.no_bytes is.target.no_bytes
stands_relayed to (Some status) client target p q is = status_relayed status client target p q is.is_status

-- ---- channels

-- a channel that is none of a run's
pub untouched_else : (link : ChanId → Link) (place : ChanId → Place) (c : Connections) → AreServed link place c
    → (x : ChanId) → All (λ own. x ≢ own) (run_channels c.clients) → IsUntouched (link x) (place x)
untouched_else link place c served x none = elim (whose x) [
  | the_first s at ↦ elim (cases_eq s 0) [
    | inl first ↦ absurd (not_listener x c.clients none (at ∙ ap (channel listener.number) first))
    | inr later ↦ untouched_as (ap link at) (ap place at) (served.later s (omega (arith, later)))
  ]
  | a_client j s at ↦ untouched_as (ap link at) (ap place at)
      (by_status j s (status_at c.slots.items j s) refl (λ has. (not_client x c.clients none (client_at j s) has).0 at)).client
  | a_target j s at ↦ untouched_as (ap link at) (ap place at)
      (by_status j s (status_at c.slots.items j s) refl (λ has. (not_client x c.clients none (client_at j s) has).1 at)).target
]
  where
    by_status : (j s : ℕ) (o : Option Status) → status_at c.slots.items j s ≡ o
        → (Contains c.clients (client_at j s) → ⊥)
        → AreUntouched (link (client_at j s)) (link (target_at j s)) (place (client_at j s)) (place (target_at j s))
    by_status j s None is other =
        subst
        (λ o. StandsAs c.target o (link (client_at j s)) (link (target_at j s)) (place (client_at j s))
        (place (target_at j s))) is (served.connections j s)
    by_status j s (Some status) is other = absurd (other (served.known j s (subst IsSome (sym is) refl)))

-- ---- closing what is open

vacant_unused : (p q : Place) → OnlyCloses p q → p ≡ never_asked → IsVacant q.standing
vacant_unused p q closes is = vacant_stays p q closes (subst (λ (u : Place). IsVacant u.standing) (sym is) tt)

-- where the channels of all connections are closed, and the listener is, nothing stands
pub all_vacant : (link : ChanId → Link) (p0 p1 p2 : ChanId → Place) (c : Connections) → AreServed link p0 c
    → ((x : ChanId) → OnlyCloses (p0 x) (p1 x)) → ((x : ChanId) → OnlyCloses (p1 x) (p2 x))
    → ((j s : ℕ) → AreClosed j s p1) → IsVacant (p2 listener).standing → (x : ChanId) → IsVacant (p2 x).standing
all_vacant link p0 p1 p2 c served first second closed listens x = elim (whose x) [
  | the_first s at ↦ elim (cases_eq s 0) [
    | inl none ↦ subst (λ y. IsVacant (p2 y).standing) (sym (at ∙ ap (channel listener.number) none)) listens
    | inr later ↦ vacant_stays (p1 x) (p2 x) (second x)
        (vacant_unused (p0 x) (p1 x) (first x) (ap p0 at ∙ (served.later s (omega (arith, later))).unasked))
  ]
  | a_client j s at ↦ vacant_stays (p1 x) (p2 x) (second x)
      (subst (λ y. IsVacant (p1 y).standing) (sym at) (closed j s).client)
  | a_target j s at ↦ vacant_stays (p1 x) (p2 x) (second x)
      (subst (λ y. IsVacant (p1 y).standing) (sym at) (closed j s).target)
]

module _ {N : Type 0} (n : Members N) where
  closed_stays : (x y : N) (j s : ℕ) → IsQuiet n x y → AreClosed j s (n.place x) → AreClosed j s (n.place y)
  closed_stays x y j s quiet closed = record {
    client = vacant_stays (n.place x (client_at j s)) (n.place y (client_at j s)) (quiet.places (client_at j s))
        closed.client;
    target = vacant_stays (n.place x (target_at j s)) (n.place y (target_at j s)) (quiet.places (target_at j s))
        closed.target;
  }

  -- what isn't relayed is closed
  closed_over : (x : N) (c : Connections) (j s : ℕ) → AreServed (n.link x) (n.place x) c
      → ((relay : Relay) → status_at c.slots.items j s ≢ Some (Live relay)) → AreClosed j s (n.place x)
  closed_over x c j s served none =
      let both = over_vacant c.target (status_at c.slots.items j s) (n.link x (client_at j s)) (n.link x (target_at j s))
      (n.place x (client_at j s)) (n.place x (target_at j s)) none (served.connections j s) in
      record { client = both.0; target = both.1 }

  -- where the links of the slot i are closed, if it relays a connection
  pub closed_next : (net0 net1 net2 : N) (c : Connections) (i : ℕ) (slot : Slot) → AreServed (n.link net0) (n.place net0) c
      → slice_get c.slots.items i ≡ Some slot → IsQuiet n net0 net1 → IsQuiet n net1 net2
      → ((j s : ℕ) → j < i → AreClosed j s (n.place net1))
      → (IsSome slot.relay → AreClosed i (slot.uses - 1) (n.place net2))
      → (j s : ℕ) → j < i + 1 → AreClosed j s (n.place net2)
  closed_next net0 net1 net2 c i slot served at first second before closed j s few = elim (cases_order j i) [
    | inl same ↦ subst (λ k. AreClosed k s (n.place net2)) (sym same) (by_relay slot.relay refl s)
    | inr (inl less) ↦ closed_stays net1 net2 j s second (before j s less)
    | inr (inr more) ↦ absurd (omega arith)
  ]
    where
      quiet : IsQuiet n net0 net2
      quiet = quiet_then n net0 net1 net2 first second

      by_relay : (o : Option Relay) → slot.relay ≡ o → (t : ℕ) → AreClosed i t (n.place net2)
      by_relay None idle t =
          closed_stays net0 net2 i t quiet
          (closed_over net0 c i t served (none_live (n.link net0) (n.place net0) c served i slot at idle t))
      by_relay (Some relay) is t = elim (cases_eq t (serial_of slot)) [
        | inl last ↦
            let uses : slot.uses - 1 ≡ serial_of slot = omega (
              arith,
              (counted_of c i slot served.slots at).uses,
              ap length (statuses_live slot relay is),
              length-append (past_of slot) (Live relay ∷ []),
            ) in
            subst (λ u. AreClosed i u (n.place net2)) (uses ∙ sym last) (closed (subst IsSome (sym is) refl))
        | inr other ↦ closed_stays net0 net2 i t quiet
            (closed_over net0 c i t served (status_over c.slots.items i slot at t other))
      ]

-- ---- the answers

module _ (plan : ProxyPlan) (clients : List ChanId) (old new : NetView) where
  never_faulted : NoneRose old new → (c : ChanId) → HasFaulted old.faults new.faults c → ⊥
  never_faulted none c (inl rose) = none.links c rose
  never_faulted none c (inr rose) = none.links (target_of c) rose

  pub serves_all : (result : Result Served ServeError) → Answers plan clients old new result → NoneRose old new
      → ServesAllOr plan clients new.link result
  serves_all (Ok served) serves none =
      let nobody : All (λ c. IsFalse (serves.counted c)) clients = λ k d few.
      let c = slice_index_or clients k d in
      false_from_ne_true (serves.counted c) (λ is. never_faulted none c (serves.faulty k d few is)) in
      record {
        connections = serves.connections;
        faults = serves.faults ∙ count_none serves.counted clients nobody;
        clean = λ k d few. serves.clean k d few (nobody k d few);
      }
  serves_all (Err NetFault) (inl rose) none = absurd (none.polls rose)
  serves_all (Err NetFault) (inr rose) none = absurd (none.links listener rose)
  serves_all (Err Memory) serves none = tt

  pub answers_err : (error : ServeError)
      → (error ≡ NetFault → Rose old.poll_faults new.poll_faults ⊎ Rose (old.faults listener) (new.faults listener))
      → Answers plan clients old new (Err error)
  answers_err NetFault cause = cause refl
  answers_err Memory cause = tt

-- ---- before the first connection

pub listen_role : (r : Result (Unit {0}) Failed) (at : Addr) (p q : Place) → false ≡ is_err r
    → q ≡ place_after_listen r at p → q.role ≡ role.Listener at
listen_role (Ok done) at p q made is = ap (λ (x : Place). x.role) is
listen_role (Err failed) at p q made is = absurd (cc)

pub listen_stands : (r : Result (Unit {0}) Failed) (at : Addr) (p q : Place) → false ≡ is_err r
    → q ≡ place_after_listen r at p → q.standing ≡ Listening
listen_stands (Ok done) at p q made is = ap (λ (x : Place). x.standing) is
listen_stands (Err failed) at p q made is = absurd (cc)

listen_failed : (r : Result (Unit {0}) Failed) (at : Addr) (p q : Place) → true ≡ is_err r
    → q ≡ place_after_listen r at p → q ≡ p
listen_failed (Ok done) at p q failed is = absurd (cc)
listen_failed (Err error) at p q failed is = is

pub listens_first : (o : Option Port) (s : Standing) → IsSome o → s ≡ Listening → ListensAt o s
listens_first (Some port) s some is = is
listens_first None s some is = absurd (cc)

-- a net is fresh still where no listener could be made
pub fresh_still : (old new : NetView) (c : ChanId) (at : Addr) (result : Result (Unit {0}) Failed)
    → true ≡ is_err result → Listens c at old new result → IsFresh old → IsFresh new
fresh_still old new c at result failed listens fresh = record {
  carried = λ k. subst IsUnused (sym (listens.links k)) (fresh.carried k);
  unasked = λ k. all_same channel_is_or_not c old.place new.place
      (listen_failed result at (old.place c) (new.place c) failed listens.place) listens.places k ∙ fresh.unasked k;
}

-- where no listener was made
pub nothing_served : (plan : ProxyPlan) (old new : NetView) (error : ServeError) → IsFresh new
    → new.accepted ≡ old.accepted
    → (error ≡ NetFault → Rose old.poll_faults new.poll_faults ⊎ Rose (old.faults listener) (new.faults listener))
    → Serves plan old new (Err error)
nothing_served plan old new error fresh same cause =
    let answers = answers_err plan [] old new error cause in
    record {
      clients = [];
      accepted = same ∙ sym (append-nil old.accepted);
      within = omega arith;
      apart = λ i j d before within. absurd (omega arith);
      relays = All-nil (WasRelayed new.link);
      leaves = record {
        vacant = λ c. subst (λ (p : Place). IsVacant p.standing) (sym (fresh.unasked c)) tt;
        listens = inl (ap (λ (p : Place). p.role) (fresh.unasked listener));
        no_bytes = fresh.carried listener;
        accepted = All-nil (λ c. (new.place c).role ≡ role.Accepted listener);
        targets = All-nil (λ c. IsAtMost (role.Connected plan.target) (new.place (target_of c)).role);
        others = λ c _. record { no_bytes = fresh.carried c; unasked = fresh.unasked c };
      };
      answers = answers;
      complete = serves_all plan [] old new (Err error) answers;
    }

all_of_none : {X : Type 0} (P : X → Type 0) (xs : List X) → xs ≡ [] → All P xs
all_of_none P xs none k d within = absurd (omega (arith, ap length none))

pub served_first : (plan : ProxyPlan) (link : ChanId → Link) (place : ChanId → Place) (c : Connections)
    → ((k : ChanId) → IsUnused (link k)) → ((k : ChanId) → k ≢ listener → place k ≡ never_asked)
    → AreUnbegun plan c → plan.at_once ≤ 16000 → plan.conns ≤ 4294967295 → AreServed link place c
served_first plan link place c fresh unasked first few small =
    let none : (j s : ℕ) → status_at c.slots.items j s ≡ None = none_first plan c first in
    record {
      slots = slots_first plan c first few;
      connections = λ j s. subst
          (λ o. StandsAs c.target o (link (client_at j s)) (link (target_at j s)) (place (client_at j s))
          (place (target_at j s))) (sym (none j s)) (record {
            client = record { no_bytes = fresh (client_at j s); unasked = unasked (client_at j s) (client_listener j s) };
            target = record { no_bytes = fresh (target_at j s); unasked = unasked (target_at j s) (target_listener j s) };
          });
      clients = all_of_none (IsClient c.slots.items) c.clients first.clients;
      known = λ j s is. let never : false ≡ true = sym (ap is_some (none j s)) ∙ is in absurd (cc);
      apart = λ i j d before within. absurd (omega (arith, within, ap length first.clients));
      begun = first.begun ∙ sym (ap length first.clients);
      within = omega (arith, first.begun);
      bound = omega (arith, first.conns, small);
      ended = first.ended ∙ sym (count_none (λ x. has_ended (status_of c.slots.items x)) c.clients
          (all_of_none (λ x. IsFalse (has_ended (status_of c.slots.items x))) c.clients first.clients));
      faulted = first.faulted ∙ sym (count_none (λ x. has_faulted (status_of c.slots.items x)) c.clients
          (all_of_none (λ x. IsFalse (has_faulted (status_of c.slots.items x))) c.clients first.clients));
      later = λ s late. record {
        no_bytes = fresh (channel listener.number s);
        unasked = unasked (channel listener.number s) (λ same.
            let at : s ≡ 0 = ap (λ (x : ChanId). x.serial) same in absurd (omega (arith, late, at)));
      };
    }

-- ---- a whole run

module _ {N : Type 0} (n : Members N) where
  -- from a fresh net the listener was made, the connections were served, and what was open was closed
  pub record Ran (plan : ProxyPlan) (net0 net1 net2 net3 : N) (c0 c1 : Connections) : Type 0 where
    pub links : (c : ChanId) → n.link net1 c ≡ n.link net0 c
    pub fresh : (c : ChanId) → IsUnused (n.link net0 c)
    pub here : n.faults net0 listener ≤ n.faults net1 listener
    pub others : IsSameBut listener (n.faults net0) (n.faults net1)
    pub polls : n.poll_faults net1 ≡ n.poll_faults net0
    pub accepted : n.accepted net1 ≡ n.accepted net0
    pub asked : (n.place net1 listener).role ≡ role.Listener plan.listen
    pub first : AreUnbegun plan c0
    pub serving : Serving n net1 net2 c0 c1
    pub role : (n.place net2 listener).role ≡ (n.place net1 listener).role
    pub quiet : IsQuiet n net2 net3
    pub vacant : (c : ChanId) → IsVacant (n.place net3 c).standing

  module _ (plan : ProxyPlan) (net0 net1 net2 net3 : N) (c0 c1 : Connections)
      (ran : Ran plan net0 net1 net2 net3 c0 c1) where
    served : AreServed (n.link net2) (n.place net2) c1
    served = ran.serving.served

    all : c1.conns ≡ plan.conns
    all = ran.serving.conns ∙ ran.first.conns

    to : c1.target ≡ plan.target
    to = ran.serving.target ∙ ran.first.target

    same_role : (c : ChanId) → (n.place net3 c).role ≡ (n.place net2 c).role
    same_role c = role_stays (n.place net2 c) (n.place net3 c) (ran.quiet.places c)

    listened : (n.place net3 listener).role ≡ role.Listener plan.listen
    listened = same_role listener ∙ (ran.role ∙ ran.asked)

    first_later : (c : ChanId) → n.faults net0 c ≤ n.faults net1 c
    first_later = later_all (n.faults net0) (n.faults net1) listener ran.here ran.others

    -- the counts of links, from the beginning to the end
    counts_end : (c : ChanId) → n.faults net3 c ≡ n.faults net2 c
    counts_end = ran.quiet.faults

    -- what holds of each connection holds of all clients
    of_all : (P : ChanId → Type 0) → ((j s : ℕ) → IsSome (status_at c1.slots.items j s) → P (client_at j s))
        → All P c1.clients
    of_all P each = all_clients P c1.slots.items c1.clients served.clients each

    -- the links carried at the end what they had carried before
    carried_end : {P : Carried → Carried → Type 0} (c : ChanId)
        → HaveCarried P (n.link net2 c) (n.link net2 (target_of c))
        → HaveCarried P (n.link net3 c) (n.link net3 (target_of c))
    carried_end {P} c have =
        subst (λ l. HaveCarried P l (n.link net3 (target_of c))) (sym (ran.quiet.links c))
        (subst (λ l. HaveCarried P (n.link net2 c) l) (sym (ran.quiet.links (target_of c))) have)

    relays_of : (j s : ℕ) → WasRelayed (n.link net3) (client_at j s)
    relays_of j s =
        carried_end (client_at j s)
        (stands_relayed c1.target (status_at c1.slots.items j s) _ _ _ _ (served.connections j s))

    roles_of : (j s : ℕ) → IsSome (status_at c1.slots.items j s)
        → ((n.place net3 (client_at j s)).role ≡ role.Accepted listener)
        × IsAtMost (role.Connected plan.target) (n.place net3 (target_at j s)).role
    roles_of j s some =
        let roles = stands_roles c1.target (status_at c1.slots.items j s) _ _ _ _ some (served.connections j s) in (
          same_role (client_at j s) ∙ roles.0,
          subst (λ a. IsAtMost (role.Connected a) (n.place net3 (target_at j s)).role) to
              (subst (IsAtMost (role.Connected c1.target)) (sym (same_role (target_at j s))) roles.1),
        )

    -- what wasn't asked to be anything stays so
    unasked_still : (p q : Place) → OnlyCloses p q → p ≡ never_asked → q ≡ never_asked
    unasked_still p q (inl same) is = same ∙ is
    unasked_still p q (inr closes) is = closes ∙ ap place_after_close is

    leaves_of : LeavesNothing plan c1.clients (view_of n net3)
    leaves_of = record {
      vacant = ran.vacant;
      listens = inr listened;
      no_bytes = subst IsUnused (sym (ran.quiet.links listener ∙ (ran.serving.no_bytes ∙ ran.links listener)))
          (ran.fresh listener);
      accepted = of_all (λ c. (n.place net3 c).role ≡ role.Accepted listener) (λ j s some. (roles_of j s some).0);
      targets = of_all (λ c. IsAtMost (role.Connected plan.target) (n.place net3 (target_of c)).role)
          (λ j s some. (roles_of j s some).1);
      others = λ c none.
          let untouched = untouched_else (n.link net2) (n.place net2) c1 served c none in
          record {
            no_bytes = subst IsUnused (sym (ran.quiet.links c)) untouched.no_bytes;
            unasked = unasked_still (n.place net2 c) (n.place net3 c) (ran.quiet.places c) untouched.unasked;
          };
    }

    -- the accepted links are the clients
    pub in_order : n.accepted net3 ≡ n.accepted net0 ++ c1.clients
    in_order =
        ran.quiet.accepted
        ∙ ran.serving.order (n.accepted net0)
        (ran.accepted
        ∙ (sym (append-nil (n.accepted net0)) ∙ ap (λ xs. n.accepted net0 ++ xs) (sym ran.first.clients)))

    -- what was promised, by what is answered
    pub serves_by : (result : Result Served ServeError)
        → Answers plan c1.clients (view_of n net0) (view_of n net3) result
        → Serves plan (view_of n net0) (view_of n net3) result
    serves_by result answers = record {
      clients = c1.clients;
      accepted = in_order;
      within = omega (arith, served.begun, served.within, all);
      apart = run_apart c1.slots.items c1.clients served.clients served.apart;
      relays = of_all (WasRelayed (n.link net3)) (λ j s _. relays_of j s);
      leaves = leaves_of;
      answers = answers;
      complete = serves_all plan c1.clients (view_of n net0) (view_of n net3) result answers;
    }

    -- where all connections have ended
    module _ (over : c1.ended ≡ c1.conns) where
      -- all began
      all_count : length c1.clients ≡ plan.conns
      all_count = omega (
        arith,
        over,
        all,
        served.ended,
        served.begun,
        served.within,
        count_few (λ x. has_ended (status_of c1.slots.items x)) c1.clients,
      )

      all_ended : All (λ x. IsTrue (has_ended (status_of c1.slots.items x))) c1.clients
      all_ended = count_all (λ x. has_ended (status_of c1.slots.items x)) c1.clients
          (sym served.ended ∙ (over ∙ (all ∙ sym all_count)))

      ended_at : (j s : ℕ) → IsSome (status_at c1.slots.items j s) → IsTrue (has_ended (status_at c1.slots.items j s))
      ended_at j s some =
          subst (λ o. IsTrue (has_ended o)) (status_by c1.slots.items j s)
          (All-contains (λ x. IsTrue (has_ended (status_of c1.slots.items x))) c1.clients (client_at j s) all_ended
          (served.known j s some))

      begun_of : (j s : ℕ) → IsSome (status_at c1.slots.items j s)
          → WasBegun plan.target (n.place net3) (client_at j s)
      begun_of j s some =
          let o = status_at c1.slots.items j s in
          let roles = roles_ended c1.target o _ _ _ _ (ended_at j s some) (served.connections j s) in
          let gone = stands_gone c1.target o _ _ _ _ (ended_at j s some) (served.connections j s) in
          let stands = gone_stays (n.place net2 (client_at j s)) (n.place net3 (client_at j s))
          (ran.quiet.places (client_at j s)) gone in
          record {
            accepted = place_as (n.place net3 (client_at j s)) (role.Accepted listener) Gone
                (same_role (client_at j s) ∙ roles.0) stands;
            asked = same_role (target_at j s) ∙ (roles.1 ∙ ap role.Connected to);
          }

      clean_of : (j s : ℕ) → IsSome (status_at c1.slots.items j s)
          → IsFalse (has_faulted (status_at c1.slots.items j s)) → WasClean (n.link net3) (client_at j s)
      clean_of j s some not =
          carried_end (client_at j s)
          (stands_clean c1.target (status_at c1.slots.items j s) _ _ _ _ (ended_at j s some) not
          (served.connections j s))

      faulty_of : (j s : ℕ) → IsTrue (has_faulted (status_at c1.slots.items j s))
          → HasFaulted (n.faults net0) (n.faults net3) (client_at j s)
      faulty_of j s is = elim (ran.serving.faulty j s is) [
        | inl before ↦ let never : false ≡ true =
            sym (ap has_faulted (none_first plan c0 ran.first j s)) ∙ before in absurd (cc)
        | inr rose ↦ faulted_from (n.faults net0) (n.faults net1) (n.faults net3) (client_at j s) first_later
            (subst (λ a. Rose (n.faults net1 (client_at j s)) a
            ⊎ Rose (n.faults net1 (target_at j s)) (n.faults net3 (target_at j s))) (sym (counts_end (client_at j s)))
            (subst (λ b. Rose (n.faults net1 (client_at j s)) (n.faults net2 (client_at j s))
            ⊎ Rose (n.faults net1 (target_at j s)) b) (sym (counts_end (target_at j s))) rose))
      ]

      -- the connections that are counted as faulty
      abbrev counted : ChanId → Bool
      counted c = has_faulted (status_of c1.slots.items c)

      counted_at : (b : Bool) (j s : ℕ) → counted (client_at j s) ≡ b
          → has_faulted (status_at c1.slots.items j s) ≡ b
      counted_at b j s is = ap has_faulted (sym (status_by c1.slots.items j s)) ∙ is

      served_of : HasServed plan c1.clients (view_of n net0) (view_of n net3)
          (record { connections = plan.conns; faults = c1.faulted })
      served_of = record {
        all = all_count;
        connections = refl;
        begun = of_all (WasBegun plan.target (n.place net3)) begun_of;
        counted = counted;
        faults = served.faulted;
        faulty = of_all (λ c. IsTrue (counted c) → HasFaulted (n.faults net0) (n.faults net3) c)
            (λ j s _ is. faulty_of j s (counted_at true j s is));
        unfaulted = of_all (λ c. IsFalse (counted c) → IsUnfaulted (n.faults net0) (n.faults net3) c)
            (λ j s _ is. let still = ran.serving.unfaulted j s (counted_at false j s is) in record {
              client = counts_end (client_at j s)
                  ∙ (still.client ∙ ran.others (client_at j s) (client_listener j s));
              target = counts_end (target_at j s)
                  ∙ (still.target ∙ ran.others (target_at j s) (target_listener j s));
            });
        clean = of_all (λ c. IsFalse (counted c) → WasClean (n.link net3) c)
            (λ j s some is. clean_of j s some (counted_at false j s is));
      }

      pub serves_of : Serves plan (view_of n net0) (view_of n net3)
          (Ok (record { connections = plan.conns; faults = c1.faulted }))
      serves_of = serves_by (Ok (record { connections = plan.conns; faults = c1.faulted })) served_of

    pub fault_of : Rose (n.poll_faults net1) (n.poll_faults net2)
        ⊎ Rose (n.faults net1 listener) (n.faults net2 listener)
        → Rose (n.poll_faults net0) (n.poll_faults net3) ⊎ Rose (n.faults net0 listener) (n.faults net3 listener)
    fault_of (inl rose) =
        inl (subst (λ a. Rose a (n.poll_faults net3)) ran.polls
        (subst (Rose (n.poll_faults net1)) (sym ran.quiet.polls) rose))
    fault_of (inr rose) =
        inr (rose_from _ _ _ ran.here (subst (Rose (n.faults net1 listener)) (sym (counts_end listener)) rose))

    -- the board has registered the channels of the clients
    pub registers_all : (registered : List ChanId) → registered ≡ run_channels c1.clients
        → HasRegisteredAll (n.accepted net0) (n.accepted net3) registered
    registers_all registered is clients more =
        is ∙ ap run_channels (append_cancel_left (n.accepted net0) c1.clients clients (sym in_order ∙ more))

    pub registers_some : (registered : List ChanId) → IsPrefix registered (run_channels c1.clients)
        → HasRegisteredSome (n.accepted net0) (n.accepted net3) registered
    registers_some registered is clients more =
        subst (λ xs. IsPrefix registered (run_channels xs))
        (append_cancel_left (n.accepted net0) c1.clients clients (sym in_order ∙ more)) is
