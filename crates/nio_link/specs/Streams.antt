-- What the calls of a stream link answer, by its kept state, and what they leave.
use Rattle.std.specs.Prelude.{◌≡◌, ℕ, Bool, true, false, Option, Some, None, Result, Ok, Err, List}
use Rattle.nio_base.specs.declared.numbers.Addr.{Addr}
use Rattle.nio_base.specs.declared.numbers.ChanId.{ChanId}
use Rattle.nio_link.specs.Nets.{NetView, Connects, Finishes, Reads, Writes, Closes}
use Rattle.nio_link.specs.Places.{IsFree, IsLinked, IsVacant}
use Rattle.nio_link.specs.declared.net.Failed.{Failed}
use Rattle.nio_link.specs.declared.net.Got.{Got}
use Rattle.nio_link.specs.declared.net.Put.{Put}
use Rattle.nio_link.specs.declared.place.Place.{Place}
use Rattle.nio_link.specs.declared.place.Standing.TheVariants as standing
use Rattle.nio_link.specs.declared.stream.LinkError.{LinkError}
use Rattle.nio_link.specs.declared.stream.LinkError.TheVariants.{ClosedChannel, AlreadyConnected, ConnectionPending}
use Rattle.nio_link.specs.declared.stream.LinkError.TheVariants.{NoConnectionPending, NotYetConnected, Fault}
use Rattle.nio_link.specs.declared.stream.StreamState.{StreamState}
use Rattle.nio_link.specs.declared.stream.StreamState.TheVariants.{Unconnected, Connecting, Connected, Closed}

pub record Stream : Type 0 where
  pub channel : ChanId
  pub state : StreamState

-- what stands under its channel
abbrev pub StandsAs : StreamState → (ChanId → Place) → ChanId → Type 0
StandsAs Unconnected place c = IsFree place c
StandsAs Connecting place c = (place c).standing ≡ standing.Connecting
StandsAs Connected place c = IsLinked (place c).standing
StandsAs Closed place c = IsVacant (place c).standing

-- the refusal of each call, where the state refuses it
abbrev pub connect_refusal : StreamState → Option LinkError
connect_refusal Unconnected = None
connect_refusal Connecting = Some ConnectionPending
connect_refusal Connected = Some AlreadyConnected
connect_refusal Closed = Some ClosedChannel

abbrev pub transfer_refusal : StreamState → Option LinkError
transfer_refusal Unconnected = Some NotYetConnected
transfer_refusal Connecting = Some NotYetConnected
transfer_refusal Connected = None
transfer_refusal Closed = Some ClosedChannel

-- the state after a connection was begun or gone on with
abbrev pub state_after : Result Bool LinkError → StreamState
state_after (Ok true) = Connected
state_after (Ok false) = Connecting
state_after (Err error) = Closed

-- the net's answer, of which Failed is told as Fault
abbrev pub as_fault : {T : Type 0} → Result T Failed → Result T LinkError
as_fault (Ok value) = Ok value
as_fault (Err failed) = Err Fault

-- a call that didn't reach the net, and left the link as it was
pub record IsAnswered {N T : Type 0} (reply : Result T LinkError) (before now : Stream) (old new : N)
    (result : Result T LinkError) : Type 0 where
  pub answer : result ≡ reply
  pub link : now ≡ before
  pub net : new ≡ old

-- connecting
pub record BeginsStream (to : Addr) (before now : Stream) (old new : NetView)
    (result : Result Bool LinkError) : Type 0 where
  pub made : Result Bool Failed
  pub told : result ≡ as_fault made
  pub net : Connects before.channel to old new made
  pub link : now ≡ record before { state = state_after result }

abbrev pub ConnectClause : {N : Type 0} → (N → NetView) → Option LinkError → Addr → Stream → Stream → N → N
    → Result Bool LinkError → Type 0
ConnectClause view (Some error) to before now old new result = IsAnswered (Err error) before now old new result
ConnectClause view None to before now old new result = BeginsStream to before now (view old) (view new) result

pub record FinishesStream (before now : Stream) (old new : NetView) (result : Result Bool LinkError) : Type 0 where
  pub made : Result Bool Failed
  pub told : result ≡ as_fault made
  pub net : Finishes before.channel old new made
  pub link : now ≡ record before { state = state_after result }

abbrev pub FinishClause : {N : Type 0} → (N → NetView) → StreamState → Stream → Stream → N → N → Result Bool LinkError
    → Type 0
FinishClause view Unconnected before now old new result = IsAnswered (Err NoConnectionPending) before now old new result
FinishClause view Connecting before now old new result = FinishesStream before now (view old) (view new) result
FinishClause view Connected before now old new result = IsAnswered (Ok true) before now old new result
FinishClause view Closed before now old new result = IsAnswered (Err ClosedChannel) before now old new result

-- reading
pub record ReadsStream (before now : Stream) (old new : NetView) (buffer filled : List ℕ)
    (result : Result Got LinkError) : Type 0 where
  pub made : Result Got Failed
  pub told : result ≡ as_fault made
  pub net : Reads before.channel old new buffer filled made
  pub link : now ≡ before

abbrev pub ReadClause : {N : Type 0} → (N → NetView) → Option LinkError → Stream → Stream → N → N → List ℕ → List ℕ
    → Result Got LinkError → Type 0
ReadClause view (Some error) before now old new buffer filled result =
    IsAnswered (Err error) before now old new result × (filled ≡ buffer)
ReadClause view None before now old new buffer filled result =
    ReadsStream before now (view old) (view new) buffer filled result

-- writing
pub record WritesStream (before now : Stream) (old new : NetView) (bytes : List ℕ)
    (result : Result Put LinkError) : Type 0 where
  pub made : Result Put Failed
  pub told : result ≡ as_fault made
  pub net : Writes before.channel old new bytes made
  pub link : now ≡ before

abbrev pub WriteClause : {N : Type 0} → (N → NetView) → Option LinkError → Stream → Stream → N → N → List ℕ
    → Result Put LinkError → Type 0
WriteClause view (Some error) before now old new bytes result = IsAnswered (Err error) before now old new result
WriteClause view None before now old new bytes result = WritesStream before now (view old) (view new) bytes result

-- closing
pub record ClosesStream (before now : Stream) (old new : NetView) (result : Bool) : Type 0 where
  pub answer : result ≡ true
  pub net : Closes before.channel old new
  pub link : now ≡ record before { state = Closed }

pub record WasClosed {N : Type 0} (before now : Stream) (old new : N) (result : Bool) : Type 0 where
  pub answer : result ≡ false
  pub net : new ≡ old
  pub link : now ≡ before

abbrev pub CloseClause : {N : Type 0} → (N → NetView) → StreamState → Stream → Stream → N → N → Bool → Type 0
CloseClause view Unconnected before now old new result = ClosesStream before now (view old) (view new) result
CloseClause view Connecting before now old new result = ClosesStream before now (view old) (view new) result
CloseClause view Connected before now old new result = ClosesStream before now (view old) (view new) result
CloseClause view Closed before now old new result = WasClosed before now old new result
