-- How a net in memory begins.
use Rattle.std.specs.Prelude.{ℕ, ◌+◌, ◌*◌, ◌-◌, ◌^◌, min, max, Bool, false, Option, Some, None, List, [], ◌∷◌, length}
use Rattle.std.specs.Prelude.{map, replicate}
use Rattle.nio_bytes.specs.Calls.{no_calls}
use Rattle.nio_link.specs.MemoryLinks.{LinkState}
use Rattle.nio_link.specs.MemoryNet.{NetState}
use Rattle.nio_link.specs.Pieces.{total}
use Rattle.nio_link.specs.PlaceLogs.{grown_occupants}
use Rattle.nio_link.specs.declared.memory.plan.NetPlan.{NetPlan}
use Rattle.nio_link.specs.declared.memory.peer_no.PeerNo.{PeerNo}
use Rattle.nio_link.specs.declared.memory.peer_no.PeerNo.TheVariants as peer
use Rattle.nio_link.specs.declared.memory.plan.PeerPlan.{PeerPlan}
use Rattle.nio_link.specs.declared.memory.slot.Slot.{Slot}
use Rattle.nio_link.specs.declared.memory.slot.Slot.TheVariants as slot

-- Nothing was carried. Reads are to give these pieces.
abbrev pub fresh_link : PeerNo → List (List ℕ) → ℕ → ℕ → LinkState
fresh_link peer pieces most limit = record {
  peer = peer;
  pieces = pieces;
  got = [];
  ended = false;
  put = [];
  shut = false;
  most = most;
  limit = limit;
  fail_connect = false;
}

-- the client's end, which takes what the target sends
abbrev pub client_of : ℕ → List (List ℕ) → List (List ℕ) → LinkState
client_of place sends answers = fresh_link (peer.Planned place) sends (2 ^ 64 - 1) (total answers)

-- how many bytes the target takes in all
abbrev pub limit_of : Option ℕ → ℕ → ℕ
limit_of None room = room
limit_of (Some after) room = min after room

-- the target's end, which is still to be connected, and takes what the client sends
abbrev pub target_of : ℕ → List (List ℕ) → List (List ℕ) → ℕ → Option ℕ → Bool → LinkState
target_of place sends answers most after fails =
    record (fresh_link (peer.Planned place) answers (max most 1) (limit_of after (total sends))) { fail_connect = fails }

-- both ends of the peer at this place of the plan
abbrev pub client_end : ℕ → PeerPlan → LinkState
client_end place peer =
    client_of place (map (λ piece. piece.items) peer.sends.items) (map (λ piece. piece.items) peer.answers.items)

abbrev pub target_end : ℕ → PeerPlan → LinkState
target_end place peer =
    target_of place (map (λ piece. piece.items) peer.sends.items) (map (λ piece. piece.items) peer.answers.items)
    peer.most peer.fail_write_after peer.fail_connect

-- the ends of these peers, of which the first has this place in the plan
abbrev pub ends_from : (ℕ → PeerPlan → LinkState) → ℕ → List PeerPlan → List LinkState
ends_from end place [] = []
ends_from end place (peer ∷ later) = end place peer ∷ ends_from end (place + 1) later

-- the numbers of the calls that fail
abbrev pub numbers_of : Option ℕ → List ℕ
numbers_of None = []
numbers_of (Some n) = n ∷ []

-- room for a listener and two links a peer
abbrev pub free_slots : ℕ → List Slot
free_slots peers = replicate (2 * peers + 1) slot.Free

abbrev pub planned : NetPlan → NetState
planned plan = record {
  slots = free_slots (length plan.peers.items);
  past = [];
  clients = ends_from client_end 0 plan.peers.items;
  targets = ends_from target_end 0 plan.peers.items;
  polls = no_calls (numbers_of plan.fail_poll);
  accepts = no_calls (numbers_of plan.fail_accept);
  faulted = [];
  changes = [];
  occupants = grown_occupants [] (2 * length plan.peers.items + 1);
  findings = [];
}
