-- What the calls of a net need, and what they promise, by its meanings before and after.
use Rattle.std.specs.Prelude.{◌≡◌, ◌≢◌, ℕ, Bool, Option, IsSome, ◌↔◌, IsTrue, IfErr, Result, IfOk, List}
use Rattle.nio_base.specs.Ops.{is_within}
use Rattle.nio_base.specs.declared.numbers.Addr.{Addr}
use Rattle.nio_base.specs.declared.numbers.ChanId.{ChanId}
use Rattle.nio_base.specs.declared.numbers.ChanNo.{ChanNo}
use Rattle.nio_bytes.specs.Cause.{HasCause}
use Rattle.nio_link.specs.Accepts.{accepted_after}
use Rattle.nio_link.specs.Links.{Link, IsSameBut, IsUnused, IsGot, IsPut, after_read, after_write, after_shut}
use Rattle.nio_link.specs.Places.{IsFree, IsLinked, is_there, stands, place_after_listen, place_after_accept, place_after_connect}
use Rattle.nio_link.specs.Places.{place_after_finish, place_after_shut, place_after_close, place_after_take_out}
use Rattle.nio_link.specs.Places.{place_after_put_in}
use Rattle.nio_link.specs.Readiness.{ready_after_read, ready_after_write, ready_after_accept, ready_after_connect}
use Rattle.nio_link.specs.Readiness.{ready_after_making, ready_after_close, ready_after_take_out}
use Rattle.nio_link.specs.declared.net.Failed.{Failed}
use Rattle.nio_link.specs.declared.net.Got.{Got}
use Rattle.nio_link.specs.declared.net.Put.{Put}
use Rattle.nio_link.specs.declared.place.Place.{Place}
use Rattle.nio_link.specs.declared.place.Standing.TheVariants as standing
use Rattle.nio_poller.specs.Polled.{Polled}

-- the meanings of a net at a moment
pub record NetView : Type 0 where
  pub link : ChanId → Link
  pub faults : ChanId → ℕ
  pub place : ChanId → Place
  pub accepted : List ChanId
  pub ready : ChanNo → ℕ
  pub poll_faults : ℕ
  pub polls : Option (List Polled)

-- the meanings of a type of nets, those of pollers first
abbrev pub Members : Type 0 → Type 1
Members N = record {
  poll_faults : N → ℕ;
  ready : N → ChanNo → ℕ;
  polls : N → Option (List Polled);
  kept : N → N → Type 0;
  link : N → ChanId → Link;
  faults : N → ChanId → ℕ;
  place : N → ChanId → Place;
  accepted : N → List ChanId;
}

-- what a net of such a type shows
abbrev pub view_of : {N : Type 0} → Members N → N → NetView
view_of n net = record {
  link = n.link net;
  faults = n.faults net;
  place = n.place net;
  accepted = n.accepted net;
  ready = n.ready net;
  poll_faults = n.poll_faults net;
  polls = n.polls net;
}

-- ---- what the calls need

-- the listener is there, and ready, and the channel of the link can be asked
pub record MayAccept (listener c : ChanId) (v : NetView) : Type 0 where
  pub ready : IsTrue (is_within 16 (v.ready listener.number))
  pub listens : (v.place listener).standing ≡ standing.Listening
  pub free : IsFree v.place c

pub record MayFinish (c : ChanId) (v : NetView) : Type 0 where
  pub ready : IsTrue (is_within 8 (v.ready c.number))
  pub connecting : (v.place c).standing ≡ standing.Connecting

pub record MayRead (c : ChanId) (v : NetView) : Type 0 where
  pub ready : IsTrue (is_within 1 (v.ready c.number))
  pub linked : IsLinked (v.place c).standing

pub record MayWrite (c : ChanId) (v : NetView) : Type 0 where
  pub ready : IsTrue (is_within 4 (v.ready c.number))
  pub linked : (v.place c).standing ≡ standing.Linked

-- a link can be taken out that was neither read, written nor shut
pub record MayTakeOut (c : ChanId) (v : NetView) : Type 0 where
  pub unused : IsUnused (v.link c)
  pub unshut : (v.place c).standing ≢ standing.Shut

-- ---- what they promise

-- a listener was made, or couldn't be
pub record Listens (c : ChanId) (at : Addr) (old new : NetView) (result : Result (Unit {0}) Failed) : Type 0 where
  pub cause : HasCause (old.faults c) (new.faults c) result
  pub others : IsSameBut c old.faults new.faults
  pub links : (k : ChanId) → new.link k ≡ old.link k
  pub ready : new.ready c.number ≡ ready_after_making (is_there (new.place c).standing) (old.ready c.number)
  pub ready_else : IsSameBut c.number old.ready new.ready
  pub place : new.place c ≡ place_after_listen result at (old.place c)
  pub places : IsSameBut c old.place new.place
  pub accepted : new.accepted ≡ old.accepted
  pub polls : new.poll_faults ≡ old.poll_faults
  pub shown : new.polls ≡ old.polls

-- a connection was taken from a listener, under the channel c, or none had come, or none could be taken
pub record Accepts (listener c : ChanId) (old new : NetView) (result : Result Bool Failed) : Type 0 where
  pub cause : HasCause (old.faults listener) (new.faults listener) result
  pub others : IsSameBut listener old.faults new.faults
  pub links : (k : ChanId) → new.link k ≡ old.link k
  pub ready : new.ready listener.number ≡ ready_after_accept result (old.ready listener.number)
  pub ready_made : new.ready c.number ≡ ready_after_making (is_there (new.place c).standing) (old.ready c.number)
  pub ready_else : (n : ChanNo) → n ≢ listener.number → n ≢ c.number → new.ready n ≡ old.ready n
  pub place : new.place c ≡ place_after_accept result listener (old.place c)
  pub places : IsSameBut c old.place new.place
  pub accepted : new.accepted ≡ accepted_after result c old.accepted
  pub polls : new.poll_faults ≡ old.poll_faults
  pub shown : new.polls ≡ old.polls

-- a connection to this address was begun; a link that couldn't be connected is gone
pub record Connects (c : ChanId) (to : Addr) (old new : NetView) (result : Result Bool Failed) : Type 0 where
  pub cause : HasCause (old.faults c) (new.faults c) result
  pub others : IsSameBut c old.faults new.faults
  pub links : (k : ChanId) → new.link k ≡ old.link k
  pub ready : new.ready c.number ≡ ready_after_making (is_there (new.place c).standing) (old.ready c.number)
  pub ready_else : IsSameBut c.number old.ready new.ready
  pub place : new.place c ≡ place_after_connect result to
  pub places : IsSameBut c old.place new.place
  pub accepted : new.accepted ≡ old.accepted
  pub polls : new.poll_faults ≡ old.poll_faults
  pub shown : new.polls ≡ old.polls

-- a connection was finished, or found not to be ready; a link that couldn't be connected is gone
pub record Finishes (c : ChanId) (old new : NetView) (result : Result Bool Failed) : Type 0 where
  pub cause : HasCause (old.faults c) (new.faults c) result
  pub others : IsSameBut c old.faults new.faults
  pub links : (k : ChanId) → new.link k ≡ old.link k
  pub ready : new.ready c.number ≡ ready_after_connect result (old.ready c.number)
  pub ready_else : IsSameBut c.number old.ready new.ready
  pub place : new.place c ≡ place_after_finish result (old.place c)
  pub places : IsSameBut c old.place new.place
  pub accepted : new.accepted ≡ old.accepted
  pub polls : new.poll_faults ≡ old.poll_faults
  pub shown : new.polls ≡ old.polls

-- a link was read into a buffer, or nothing had come, or it couldn't be read
pub record Reads (c : ChanId) (old new : NetView) (before now : List ℕ) (result : Result Got Failed) : Type 0 where
  pub cause : HasCause (old.faults c) (new.faults c) result
  pub others : IsSameBut c old.faults new.faults
  pub got : IfOk result (IsGot before)
  pub link : new.link c ≡ after_read result now (old.link c)
  pub links : IsSameBut c old.link new.link
  pub ready : new.ready c.number ≡ ready_after_read result (old.ready c.number)
  pub ready_else : IsSameBut c.number old.ready new.ready
  pub places : (k : ChanId) → new.place k ≡ old.place k
  pub accepted : new.accepted ≡ old.accepted
  pub polls : new.poll_faults ≡ old.poll_faults
  pub shown : new.polls ≡ old.polls

-- of these bytes some were written on a link, or there was no room, or none could be written
pub record Writes (c : ChanId) (old new : NetView) (bytes : List ℕ) (result : Result Put Failed) : Type 0 where
  pub cause : HasCause (old.faults c) (new.faults c) result
  pub others : IsSameBut c old.faults new.faults
  pub put : IfOk result (IsPut bytes)
  pub link : new.link c ≡ after_write result bytes (old.link c)
  pub links : IsSameBut c old.link new.link
  pub ready : new.ready c.number ≡ ready_after_write result (old.ready c.number)
  pub ready_else : IsSameBut c.number old.ready new.ready
  pub places : (k : ChanId) → new.place k ≡ old.place k
  pub accepted : new.accepted ≡ old.accepted
  pub polls : new.poll_faults ≡ old.poll_faults
  pub shown : new.polls ≡ old.polls

-- the side of a link on which bytes are written was shut, or couldn't be
pub record Shuts (c : ChanId) (old new : NetView) (result : Result (Unit {0}) Failed) : Type 0 where
  pub cause : HasCause (old.faults c) (new.faults c) result
  pub others : IsSameBut c old.faults new.faults
  pub link : new.link c ≡ after_shut result (old.link c)
  pub links : IsSameBut c old.link new.link
  pub ready : (n : ChanNo) → new.ready n ≡ old.ready n
  pub place : new.place c ≡ place_after_shut result (old.place c)
  pub places : IsSameBut c old.place new.place
  pub accepted : new.accepted ≡ old.accepted
  pub polls : new.poll_faults ≡ old.poll_faults
  pub shown : new.polls ≡ old.polls

-- what stood there was closed, where anything did
pub record Closes (c : ChanId) (old new : NetView) : Type 0 where
  pub faults : (k : ChanId) → new.faults k ≡ old.faults k
  pub links : (k : ChanId) → new.link k ≡ old.link k
  pub ready : new.ready c.number ≡ ready_after_close (old.place c).standing (old.ready c.number)
  pub ready_else : IsSameBut c.number old.ready new.ready
  pub place : new.place c ≡ place_after_close (old.place c)
  pub places : IsSameBut c old.place new.place
  pub accepted : new.accepted ≡ old.accepted
  pub polls : new.poll_faults ≡ old.poll_faults
  pub shown : new.polls ≡ old.polls

-- the link was taken out, where one stood there
pub record TakesOut {L : Type 0} (c : ChanId) (old new : NetView) (result : Option L) : Type 0 where
  pub stood : IsSome result ↔ IsTrue (stands (old.place c))
  pub faults : (k : ChanId) → new.faults k ≡ old.faults k
  pub links : (k : ChanId) → new.link k ≡ old.link k
  pub ready : new.ready c.number ≡ ready_after_take_out result (old.ready c.number)
  pub ready_else : IsSameBut c.number old.ready new.ready
  pub place : new.place c ≡ place_after_take_out result (old.place c)
  pub places : IsSameBut c old.place new.place
  pub accepted : new.accepted ≡ old.accepted
  pub polls : new.poll_faults ≡ old.poll_faults
  pub shown : new.polls ≡ old.polls

-- the link was put in; where there was no memory for it, it came back
pub record PutsIn {L : Type 0} (c : ChanId) (link : L) (old new : NetView) (result : Result (Unit {0}) L) : Type 0 where
  pub back : IfErr result (λ back. back ≡ link)
  pub faults : (k : ChanId) → new.faults k ≡ old.faults k
  pub links : (k : ChanId) → new.link k ≡ old.link k
  pub ready : new.ready c.number ≡ ready_after_making (is_there (new.place c).standing) (old.ready c.number)
  pub ready_else : IsSameBut c.number old.ready new.ready
  pub place : new.place c ≡ place_after_put_in result (old.place c)
  pub places : IsSameBut c old.place new.place
  pub accepted : new.accepted ≡ old.accepted
  pub polls : new.poll_faults ≡ old.poll_faults
  pub shown : new.polls ≡ old.polls
