-- What the calls of a datagram channel answer, by its kept state, and what they leave.
use Rattle.std.specs.Prelude.{◌≡◌, ℕ, nat_lt, Bool, true, false, if◌then◌else◌, Option, Some, None, Result, Ok, Err}
use Rattle.std.specs.Prelude.{List}
use Rattle.nio_base.specs.declared.numbers.Addr.{Addr}
use Rattle.nio_base.specs.declared.numbers.ChanId.{ChanId}
use Rattle.nio_link.specs.declared.net.Failed.{Failed}
use Rattle.nio_datagram.specs.Nets.{PacketView, Binds, Receives, Sends, Closes}
use Rattle.nio_datagram.specs.Packets.{is_stranger}
use Rattle.nio_datagram.specs.Places.{IsBound, IsFree, IsVacant}
use Rattle.nio_datagram.specs.declared.link.DatagramState.{DatagramState}
use Rattle.nio_datagram.specs.declared.link.DatagramState.TheVariants.{Unbound, Bound, Closed}
use Rattle.nio_datagram.specs.declared.link.Heard.{Heard}
use Rattle.nio_datagram.specs.declared.link.Heard.TheVariants as heard
use Rattle.nio_datagram.specs.declared.link.PacketError.{PacketError}
use Rattle.nio_datagram.specs.declared.link.PacketError.TheVariants.{ClosedChannel, AlreadyBound, AlreadyConnected}
use Rattle.nio_datagram.specs.declared.link.PacketError.TheVariants.{NotYetBound, TooLong, Fault}
use Rattle.nio_datagram.specs.declared.net.Came.{Came}
use Rattle.nio_datagram.specs.declared.net.Came.TheVariants as came
use Rattle.nio_datagram.specs.declared.net.Place.{Place}

pub record Datagram : Type 0 where
  pub channel : ChanId
  pub state : DatagramState
  -- to whom it is connected
  pub peer : Option Addr

-- what stands under its channel
abbrev pub StandsAs : DatagramState → (ChanId → Place) → ChanId → Type 0
StandsAs Unbound place c = IsFree place c
StandsAs Bound place c = IsBound (place c)
StandsAs Closed place c = IsVacant (place c)

-- ---- the refusal of each call, where the state or the argument refuses it

abbrev pub bind_refusal : DatagramState → Option PacketError
bind_refusal Unbound = None
bind_refusal Bound = Some AlreadyBound
bind_refusal Closed = Some ClosedChannel

-- by whether it is connected
abbrev pub refusal_of_peer : Option Addr → Option PacketError
refusal_of_peer None = None
refusal_of_peer (Some peer) = Some AlreadyConnected

abbrev pub disconnect_refusal : DatagramState → Option PacketError
disconnect_refusal Unbound = None
disconnect_refusal Bound = None
disconnect_refusal Closed = Some ClosedChannel

abbrev pub connect_refusal_in : DatagramState → Option Addr → Option PacketError
connect_refusal_in Unbound peer = refusal_of_peer peer
connect_refusal_in Bound peer = refusal_of_peer peer
connect_refusal_in Closed peer = Some ClosedChannel

abbrev pub connect_refusal : Datagram → Option PacketError
connect_refusal d = connect_refusal_in d.state d.peer

abbrev pub receive_refusal : DatagramState → Option PacketError
receive_refusal Unbound = Some NotYetBound
receive_refusal Bound = None
receive_refusal Closed = Some ClosedChannel

-- so many bytes, to this address: a connected channel sends to its peer alone
abbrev pub send_refusal_in : DatagramState → Option Addr → ℕ → Addr → Option PacketError
send_refusal_in Unbound peer len to = Some NotYetBound
send_refusal_in Bound peer len to =
    if is_stranger peer to then Some AlreadyConnected else if nat_lt 65507 len then Some TooLong else None
send_refusal_in Closed peer len to = Some ClosedChannel

abbrev pub send_refusal : Datagram → ℕ → Addr → Option PacketError
send_refusal d len to = send_refusal_in d.state d.peer len to

-- ---- the net's answer, as the call tells it

abbrev pub as_fault : {T : Type 0} → Result T Failed → Result T PacketError
as_fault (Ok value) = Ok value
as_fault (Err failed) = Err Fault

-- a packet that another than the peer sent is told as a stranger's
abbrev pub heard_of : Option Addr → Result Came Failed → Result Heard PacketError
heard_of peer (Ok (came.Packet len from)) =
    if is_stranger peer from then Ok heard.Stranger else Ok (heard.Packet len from)
heard_of peer (Ok came.NotYet) = Ok heard.NotYet
heard_of peer (Err failed) = Err Fault

abbrev pub state_after_bind : Result (Unit {0}) PacketError → DatagramState
state_after_bind (Ok done) = Bound
state_after_bind (Err error) = Unbound

-- ---- the calls

-- a call that didn't reach the net, and left the channel as it was
pub record IsAnswered {N T : Type 0} (reply : Result T PacketError) (before now : Datagram) (old new : N)
    (result : Result T PacketError) : Type 0 where
  pub answer : result ≡ reply
  pub link : now ≡ before
  pub net : new ≡ old

-- binding
pub record BindsDatagram (at : Addr) (before now : Datagram) (old new : PacketView)
    (result : Result (Unit {0}) PacketError) : Type 0 where
  pub made : Result (Unit {0}) Failed
  pub told : result ≡ as_fault made
  pub net : Binds before.channel at old new made
  pub link : now ≡ record before { state = state_after_bind result }

abbrev pub BindClause : {N : Type 0} → (N → PacketView) → Option PacketError → Addr → Datagram → Datagram → N → N
    → Result (Unit {0}) PacketError → Type 0
BindClause view (Some error) at before now old new result = IsAnswered (Err error) before now old new result
BindClause view None at before now old new result = BindsDatagram at before now (view old) (view new) result

-- connecting, which reaches no net
pub record IsRefused (error : PacketError) (before now : Datagram) (result : Result (Unit {0}) PacketError) : Type 0
  where
    pub answer : result ≡ Err error
    pub link : now ≡ before

pub record SetsPeer (peer : Option Addr) (before now : Datagram) (result : Result (Unit {0}) PacketError) : Type 0 where
  pub answer : result ≡ Ok tt
  pub link : now ≡ record before { peer = peer }

abbrev pub ConnectClause : Option PacketError → Addr → Datagram → Datagram → Result (Unit {0}) PacketError → Type 0
ConnectClause (Some error) to before now result = IsRefused error before now result
ConnectClause None to before now result = SetsPeer (Some to) before now result

abbrev pub DisconnectClause : Option PacketError → Datagram → Datagram → Result (Unit {0}) PacketError → Type 0
DisconnectClause (Some error) before now result = IsRefused error before now result
DisconnectClause None before now result = SetsPeer None before now result

-- receiving
pub record ReceivesDatagram (before now : Datagram) (old new : PacketView) (filled : List ℕ)
    (result : Result Heard PacketError) : Type 0 where
  pub made : Result Came Failed
  pub told : result ≡ heard_of before.peer made
  pub net : Receives before.channel old new filled made
  pub link : now ≡ before

abbrev pub ReceiveClause : {N : Type 0} → (N → PacketView) → Option PacketError → Datagram → Datagram → N → N → List ℕ
    → List ℕ → Result Heard PacketError → Type 0
ReceiveClause view (Some error) before now old new buffer filled result =
    IsAnswered (Err error) before now old new result × (filled ≡ buffer)
ReceiveClause view None before now old new buffer filled result =
    ReceivesDatagram before now (view old) (view new) filled result

-- sending
pub record SendsDatagram (to : Addr) (before now : Datagram) (old new : PacketView) (bytes : List ℕ)
    (result : Result Bool PacketError) : Type 0 where
  pub made : Result Bool Failed
  pub told : result ≡ as_fault made
  pub net : Sends before.channel to old new bytes made
  pub link : now ≡ before

abbrev pub SendClause : {N : Type 0} → (N → PacketView) → Option PacketError → Addr → Datagram → Datagram → N → N
    → List ℕ → Result Bool PacketError → Type 0
SendClause view (Some error) to before now old new bytes result = IsAnswered (Err error) before now old new result
SendClause view None to before now old new bytes result =
    SendsDatagram to before now (view old) (view new) bytes result

-- closing
pub record ClosesDatagram (before now : Datagram) (old new : PacketView) (result : Bool) : Type 0 where
  pub answer : result ≡ true
  pub net : Closes before.channel old new
  pub link : now ≡ record before { state = Closed }

pub record WasClosed {N : Type 0} (before now : Datagram) (old new : N) (result : Bool) : Type 0 where
  pub answer : result ≡ false
  pub link : now ≡ before
  pub net : new ≡ old

abbrev pub CloseClause : {N : Type 0} → (N → PacketView) → DatagramState → Datagram → Datagram → N → N → Bool → Type 0
CloseClause view Unbound before now old new result = ClosesDatagram before now (view old) (view new) result
CloseClause view Bound before now old new result = ClosesDatagram before now (view old) (view new) result
CloseClause view Closed before now old new result = WasClosed before now old new result
