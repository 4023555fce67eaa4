-- What a relay of packets promises.
use Rattle.std.specs.Prelude.{◌≡◌, ◌≢◌, ℕ, ◌-◌, ◌^◌, ◌≤◌, ◌⊎◌, min, Option, Some, Result, Ok, Err, List, ◌++◌, length}
use Rattle.std.specs.List.{All}
use Rattle.nio_base.specs.declared.numbers.Addr.{Addr}
use Rattle.nio_base.specs.declared.numbers.ChanId.{ChanId}
use Rattle.nio_bytes.specs.Cause.{Rose}
use Rattle.nio_datagram.specs.Nets.{NoneFailed}
use Rattle.nio_datagram.specs.Packets.{Packet, Traffic, bytes_of, heard_from, first_sender}
use Rattle.nio_datagram.specs.Passing.{IsTo, heard_by}
use Rattle.nio_datagram.specs.declared.net.Place.{Place}
use Rattle.nio_datagram.specs.declared.net.Place.TheVariants.{Unbound, Bound, Closed}
use Rattle.nio_relay.specs.declared.plan.PacketPlan.{PacketPlan}
use Rattle.nio_datagram.specs.declared.serving.PacketServeError.{PacketServeError}
use Rattle.nio_datagram.specs.declared.serving.PacketServeError.TheVariants.{NetFault, Memory}
use Rattle.nio_datagram.specs.declared.serving.PacketsServed.{PacketsServed}

-- the channel to which the client sends, and that to which the target answers
abbrev pub client_chan : ChanId
client_chan = record { number = record { 0 = 0 }; serial = 0 }

abbrev pub target_chan : ChanId
target_chan = record { number = record { 0 = 1 }; serial = 0 }

-- ---- what was passed on

-- the bytes of the packets from the client, who is the sender of the first one
abbrev pub heard_first : List Packet → List (List ℕ)
heard_first packets = heard_by (first_sender packets) packets

-- these packets went to this address, and are what was heard, in its order, at most one fewer
pub record IsPassedOn (to : Option Addr) (heard : List (List ℕ)) (went : List Packet) : Type 0 where
  pub sent_to : All (IsTo to) went
  pub rest : List (List ℕ)
  pub order : bytes_of went ++ rest ≡ heard
  pub at_most_one : length rest ≤ 1

-- What was received from the client went to the target, in its order, but for at most one packet; the same of the
-- target's packets and the client.
pub record RelaysPackets (target : Addr) (traffic : ChanId → Traffic) : Type 0 where
  pub to_target : IsPassedOn (Some target) (heard_first (traffic client_chan).came) (traffic target_chan).went
  pub to_client : IsPassedOn (first_sender (traffic client_chan).came) (heard_from target (traffic target_chan).came)
      (traffic client_chan).went

-- ---- what is answered

-- All packets of the plan were sent. The counts are how many went; that of the way back stops at its type's end. The
-- channels were bound where the plan says.
pub record HasRelayed (plan : PacketPlan) (traffic : ChanId → Traffic) (place : ChanId → Place) (served : PacketsServed)
    : Type 0 where
  pub all_went : length (traffic target_chan).went ≡ plan.count
  pub forth_count : served.forth ≡ plan.count
  pub back_count : served.back ≡ min (length (traffic client_chan).went) (2 ^ 32 - 1)
  pub listened : place client_chan ≡ Closed plan.listen
  pub bound : place target_chan ≡ Closed plan.local

-- a poll failed, or a call on one of the two channels
abbrev pub OneRose : (ChanId → ℕ) → (ChanId → ℕ) → ℕ → ℕ → Type 0
OneRose before now polls_before polls_now =
    Rose polls_before polls_now
    ⊎ (Rose (before client_chan) (now client_chan) ⊎ Rose (before target_chan) (now target_chan))

-- none of these counts rose
pub record NoneRose (before now : ChanId → ℕ) (polls_before polls_now : ℕ) : Type 0 where
  pub polls : Rose polls_before polls_now → ⊥
  pub on_client : Rose (before client_chan) (now client_chan) → ⊥
  pub on_target : Rose (before target_chan) (now target_chan) → ⊥

-- what the call answers: all were sent, and nothing failed; or the net failed; or memory lacked
abbrev pub Serves : PacketPlan → (ChanId → Traffic) → (ChanId → Place) → (ChanId → ℕ) → (ChanId → ℕ) → ℕ → ℕ
    → Result PacketsServed PacketServeError → Type 0
Serves plan traffic place before now polls_before polls_now (Ok served) =
    HasRelayed plan traffic place served × NoneFailed before now polls_before polls_now
Serves plan traffic place before now polls_before polls_now (Err NetFault) = OneRose before now polls_before polls_now
Serves plan traffic place before now polls_before polls_now (Err Memory) = Unit {0}

-- where no count rose, all were sent, or memory lacked
abbrev pub ServesAllOr : PacketPlan → (ChanId → Traffic) → (ChanId → Place) → Result PacketsServed PacketServeError
    → Type 0
ServesAllOr plan traffic place (Ok served) = HasRelayed plan traffic place served
ServesAllOr plan traffic place (Err NetFault) = ⊥
ServesAllOr plan traffic place (Err Memory) = Unit {0}

-- ---- what is left

-- No socket is bound there. One that was, was bound to this address.
abbrev pub IsLeft : Addr → Place → Type 0
IsLeft wanted Unbound = Unit {0}
IsLeft wanted (Bound at) = ⊥
IsLeft wanted (Closed at) = at ≡ wanted

-- At every end: nothing is bound, and each channel was bound to its address of the plan at most. Other channels are as
-- they were. No count of faults fell.
pub record LeavesNothing (plan : PacketPlan) (traffic0 traffic : ChanId → Traffic) (place0 place : ChanId → Place)
    (before now : ChanId → ℕ) (polls_before polls_now : ℕ) : Type 0 where
  pub listened : IsLeft plan.listen (place client_chan)
  pub bound : IsLeft plan.local (place target_chan)
  pub other_traffic : (c : ChanId) → c ≢ client_chan → c ≢ target_chan → traffic c ≡ traffic0 c
  pub other_places : (c : ChanId) → c ≢ client_chan → c ≢ target_chan → place c ≡ place0 c
  pub other_faults : (c : ChanId) → c ≢ client_chan → c ≢ target_chan → now c ≡ before c
  pub later : (c : ChanId) → before c ≤ now c
  pub polls : polls_before ≤ polls_now
