-- A net of packets in memory, as its callers see it.
use Rattle.std.specs.Prelude.{◌≡◌, ℕ, ◌==◌, nat_lt, Bool, true, false, not, ◌&&◌, if◌then◌else◌, Option, Some, Result, Ok}
use Rattle.std.specs.Prelude.{Err, List, [], ◌∷◌, ◌++◌, length, map, filter, fold, slice_set, bit_and, Vec}
use Rattle.std.specs.List.{slice_index_or}
use Rattle.std.specs.declared.alloc.Global.{Global}
use Rattle.nio_base.specs.declared.numbers.Addr.{Addr}
use Rattle.nio_base.specs.declared.numbers.ChanId.{ChanId}
use Rattle.nio_base.specs.declared.numbers.ChanNo.{ChanNo}
use Rattle.nio_bytes.specs.Calls.{Calls, no_calls, after_success, after_failure}
use Rattle.nio_link.specs.MemoryNet.{faulted_after, times}
use Rattle.nio_link.specs.NetPlans.{numbers_of}
use Rattle.nio_link.specs.Readiness.{without}
use Rattle.nio_link.specs.declared.net.Failed.{Failed}
use Rattle.nio_poller.specs.Polled.{Polled}
use Rattle.nio_poller.specs.Polls.{told_of_channel}
use Rattle.nio_steps.specs.declared.looked.LookedKey.{LookedKey}
use Rattle.nio_datagram.specs.Nets.{PacketView}
use Rattle.nio_datagram.specs.Packets.{Packet, Traffic}
use Rattle.nio_datagram.specs.Sides.{SideState, planned_side, side_after_bind, side_after_close, receive_answer}
use Rattle.nio_datagram.specs.Sides.{side_after_receive, side_after_send, side_ready}
use Rattle.nio_datagram.specs.Sockets.{no_sockets, traffic_of, place_of, is_bound_as, comes_after}
use Rattle.nio_datagram.specs.declared.memory.finding.Finding.{Finding}
use Rattle.nio_datagram.specs.declared.memory.finding.Finding.TheVariants.{Told as WasTold, Untold, NotReady, Forgotten}
use Rattle.nio_datagram.specs.declared.net.Came.{Came}
use Rattle.nio_datagram.specs.declared.net.Came.TheVariants as came
use Rattle.nio_datagram.specs.declared.net.Place.{Place}

pub record PacketsState : Type 0 where
  -- its numbers, from 0 on
  pub sides : List SideState
  -- the sends so far
  pub sends : Calls
  -- the channels on which a call failed, one for each failure
  pub faulted : List ChanId
  -- what polls told and what calls found since, the oldest first
  pub findings : List Finding

-- no packets, and no sockets: so is a number that the net doesn't have
abbrev pub no_side : SideState
no_side = record { coming = []; at = 0; sockets = no_sockets }

abbrev pub side_at : List SideState → ChanNo → SideState
side_at sides n = slice_index_or sides n.0 no_side

abbrev pub traffic_at : List SideState → ChanId → Traffic
traffic_at sides c = traffic_of (side_at sides c.number).sockets c.serial

abbrev pub place_at : List SideState → ChanId → Place
place_at sides c = place_of (side_at sides c.number).sockets c.serial

-- a socket is bound there
abbrev pub is_bound_at : List SideState → ChanId → Bool
is_bound_at sides c = is_bound_as (side_at sides c.number).sockets.last c.serial

-- the net has the number, and a socket of this channel can come after its last one
abbrev pub can_bind : List SideState → ChanId → Bool
can_bind sides c = nat_lt c.number.0 (length sides) && comes_after (side_at sides c.number).sockets.last c.serial

abbrev pub planned : List (Addr × Vec ℕ Global) → List (Addr × Vec ℕ Global) → Option ℕ → PacketsState
planned client target fail_send = record {
  sides = planned_side client ∷ planned_side target ∷ [];
  sends = no_calls (numbers_of fail_send);
  faulted = [];
  findings = [];
}

-- ---- readiness

-- what a channel is ready for, once this was found
abbrev pub heed : (ChanNo → ℕ) → Finding → ChanNo → ℕ
heed before (WasTold polled) c = told_of_channel polled.asked polled.answer.pairs c
heed before Untold c = 0
heed before (NotReady n op) c = if n.0 == c.0 then without op (before c) else before c
heed before (Forgotten n) c = if n.0 == c.0 then 0 else before c

-- what the last poll told of a channel, without what calls found since: nothing where it had no answer
abbrev pub ready_told : List Finding → ChanNo → ℕ
ready_told findings = fold heed (λ _. 0) findings

-- the polls that answered, once this was found
abbrev pub with_told : List Polled → Finding → List Polled
with_told before (WasTold polled) = before ++ polled ∷ []
with_told before Untold = before
with_told before (NotReady n op) = before
with_told before (Forgotten n) = before

-- the polls that answered, the oldest first
abbrev pub polls_told : List Finding → List Polled
polls_told findings = fold with_told [] findings

-- what a poll tells of a key: what its channel is ready for, of what it is asked for
abbrev pub told_pair : List SideState → LookedKey → ℕ × ℕ
told_pair sides entry = (entry.index, bit_and (side_ready (side_at sides entry.channel)) entry.interest)

-- the keys of which it tells something
abbrev pub told_pairs : List SideState → List LookedKey → List (ℕ × ℕ)
told_pairs sides asked = filter (λ pair. not (pair.1 == 0)) (map (told_pair sides) asked)

-- ---- failures

-- what was found, after a call that found the channel not ready for this, or not
abbrev pub findings_after : Bool → ChanNo → ℕ → List Finding → List Finding
findings_after true n op before = before ++ NotReady n op ∷ []
findings_after false n op before = before

-- what was found, after a socket that was bound or not was closed
abbrev pub findings_closed : Bool → ChanNo → List Finding → List Finding
findings_closed true n before = before ++ Forgotten n ∷ []
findings_closed false n before = before

abbrev pub is_early : Result Came Failed → Bool
is_early (Ok (came.Packet len from)) = false
is_early (Ok came.NotYet) = true
is_early (Err failed) = false

-- ---- the calls

abbrev pub sides_after_bind : List SideState → ChanId → Addr → List SideState
sides_after_bind sides c at = slice_set sides c.number.0 (side_after_bind (side_at sides c.number) c.serial at)

abbrev pub sides_after_close : List SideState → ChanId → List SideState
sides_after_close sides c = slice_set sides c.number.0 (side_after_close (side_at sides c.number) c.serial)

abbrev pub sides_after_receive : List SideState → ChanId → List SideState
sides_after_receive sides c = slice_set sides c.number.0 (side_after_receive (side_at sides c.number) c.serial)

abbrev pub sides_after_send : List SideState → ChanId → Packet → List SideState
sides_after_send sides c p = slice_set sides c.number.0 (side_after_send (side_at sides c.number) p)

abbrev pub after_bind : PacketsState → ChanId → Addr → PacketsState
after_bind s c at = record s { sides = sides_after_bind s.sides c at; findings = s.findings ++ Forgotten c.number ∷ [] }

-- after a call that failed, and left the rest
abbrev pub faulted_on : ChanId → PacketsState → PacketsState
faulted_on c s = record s { faulted = s.faulted ++ c ∷ [] }

abbrev pub after_receive : PacketsState → ChanId → PacketsState
after_receive s c =
    let answer = receive_answer (side_at s.sides c.number) c.serial in
    record s {
      sides = sides_after_receive s.sides c;
      faulted = faulted_after answer c s.faulted;
      findings = findings_after (is_early answer) c.number 1 s.findings;
    }

abbrev pub after_sent : PacketsState → ChanId → Packet → PacketsState
after_sent s c p = record s { sides = sides_after_send s.sides c p; sends = after_success s.sends }

-- after a send that failed by the plan, or for what stands there
abbrev pub after_planned_send : PacketsState → ChanId → PacketsState
after_planned_send s c = record s { sends = after_failure s.sends; faulted = s.faulted ++ c ∷ [] }

-- after one for which memory lacked
abbrev pub after_lost_send : PacketsState → ChanId → PacketsState
after_lost_send s c = record s { sends = after_success s.sends; faulted = s.faulted ++ c ∷ [] }

abbrev pub after_close : PacketsState → ChanId → PacketsState
after_close s c = record s {
  sides = sides_after_close s.sides c;
  findings = findings_closed (is_bound_at s.sides c) c.number s.findings;
}

-- after a poll that answered, and after one for whose answer memory lacked
abbrev pub after_poll : PacketsState → Polled → PacketsState
after_poll s polled = record s { findings = s.findings ++ WasTold polled ∷ [] }

abbrev pub after_lost_poll : PacketsState → PacketsState
after_lost_poll s = record s { findings = s.findings ++ Untold ∷ [] }

-- what polls leave as it was
pub record KeepsPackets (x y : PacketsState) : Type 0 where
  pub sides : y.sides ≡ x.sides
  pub faulted : y.faulted ≡ x.faulted

-- ---- as every net of packets

abbrev pub shown : PacketsState → PacketView
shown s = record {
  traffic = traffic_at s.sides;
  faults = times s.faulted;
  place = place_at s.sides;
  ready = ready_told s.findings;
  poll_faults = 0;
  polls = Some (polls_told s.findings);
}
