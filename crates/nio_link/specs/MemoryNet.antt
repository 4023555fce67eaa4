-- A net in memory, as its callers see it.
use Rattle.std.specs.Prelude.{◌≡◌, ◌≢◌, ℕ, ◌+◌, ◌≤◌, ◌==◌, nat_lt, Bool, true, false, not, ◌&&◌, if◌then◌else◌, Option, Some, None}
use Rattle.std.specs.Prelude.{is_none, IfSome, IsSome, IsTrue, option_map, Result, Ok, Err, List, [], ◌∷◌, ◌++◌, length, map, filter, fold}
use Rattle.std.specs.Prelude.{count_by, slice_set, bit_and}
use Rattle.std.specs.List.{position_or_len, slice_get, remove}
use Rattle.std.specs.Option.{option_to_list}
use Rattle.nio_base.specs.declared.numbers.Addr.{Addr}
use Rattle.nio_base.specs.declared.numbers.ChanId.{ChanId}
use Rattle.nio_base.specs.declared.numbers.ChanNo.{ChanNo}
use Rattle.nio_bytes.specs.Calls.{Calls, after_success, after_failure}
use Rattle.nio_poller.specs.Polled.{Polled}
use Rattle.nio_poller.specs.Polls.{told_of_channel}
use Rattle.nio_steps.specs.SelectCalls.{Poll}
use Rattle.nio_steps.specs.declared.looked.LookedKey.{LookedKey}
use Rattle.nio_link.specs.Accepts.{accepted_by}
use Rattle.nio_link.specs.MemoryLinks.{LinkState, IsFresh, is_same_peer}
use Rattle.nio_link.specs.Nets.{NetView}
use Rattle.nio_link.specs.PlaceLogs.{occupant_at, occupant_after, grown_occupants}
use Rattle.nio_link.specs.Places.{channel, is_same_channel, is_connecting, is_link, is_listening, is_there, places_after}
use Rattle.nio_link.specs.Places.{standing_after, stands}
use Rattle.nio_link.specs.Readiness.{without}
use Rattle.nio_link.specs.Slots.{carried_at, slot_at, link_at, last_serial, ready_by, can_bear, if_linked, past_after, ArePast, read_answer}
use Rattle.nio_link.specs.Slots.{slots_after_read, write_answer, slots_after_write, slots_after_shut}
use Rattle.nio_link.specs.Slots.{finish_answer, grown}
use Rattle.nio_link.specs.declared.memory.finding.Finding.{Finding}
use Rattle.nio_link.specs.declared.memory.finding.Finding.TheVariants.{Told as WasTold, Untold, NotReady, Forgotten}
use Rattle.nio_link.specs.declared.memory.peer_no.PeerNo.{PeerNo}
use Rattle.nio_link.specs.declared.memory.peer_no.PeerNo.TheVariants as peer
use Rattle.nio_link.specs.declared.memory.slot.PastLink.{PastLink}
use Rattle.nio_link.specs.declared.memory.slot.Slot.{Slot}
use Rattle.nio_link.specs.declared.memory.slot.Slot.TheVariants as slot
use Rattle.nio_link.specs.declared.net.Failed.{Failed}
use Rattle.nio_link.specs.declared.net.Got.{Got}
use Rattle.nio_link.specs.declared.net.Got.TheVariants as got
use Rattle.nio_link.specs.declared.place.Change.{Change}
use Rattle.nio_link.specs.declared.place.Change.TheVariants as change
use Rattle.nio_link.specs.declared.place.Place.{Place}
use Rattle.nio_link.specs.declared.place.Role.TheVariants as role
use Rattle.nio_link.specs.declared.occupants.Occupant.{Occupant}

pub record NetState : Type 0 where
  -- the last link of each number, from 0 on, and the links before these, the newest first
  pub slots : List Slot
  pub past : List PastLink
  -- the links still to be accepted, and those still to be connected, the next first
  pub clients : List LinkState
  pub targets : List LinkState
  -- the polls and the calls of accept so far
  pub polls : Calls
  pub accepts : Calls
  -- the channels on which a call failed, one for each failure
  pub faulted : List ChanId
  -- the changes of places, the oldest first, and what stands under each number by them
  pub changes : List (ChanId × Change)
  pub occupants : List (Option Occupant)
  -- what polls told and what calls found since, the oldest first
  pub findings : List Finding

abbrev pub AreFresh : List LinkState → Type 0
AreFresh [] = Unit {0}
AreFresh (l ∷ later) = IsFresh l × AreFresh later

-- whether there is a next link
abbrev pub is_waiting : List LinkState → Bool
is_waiting [] = false
is_waiting (l ∷ later) = true

-- the last links of the numbers, by the places of their channels
pub record AreLast (slots : List Slot) (place : ChanId → Place) : Type 0 where
  -- each was asked for
  pub asked : (n : ChanNo) → IfSome (last_serial (slot_at slots n)) (λ s. (place (channel n s)).role ≢ role.Nothing)
  -- a link that is there, connected or not yet, is one of them
  pub there : (c : ChanId) → IsTrue (is_link (place c).standing) → IsSome (link_at slots c)

-- What a net has room for, of occupants and of past links: each link that is still to come may make one a past link.
pub record AreInHand (slots : List Slot) (past : List PastLink) (clients targets : List LinkState)
    (place : ChanId → Place) (occupants capacity : ℕ) : Type 0 where
  pub fresh_clients : AreFresh clients
  pub fresh_targets : AreFresh targets
  pub spent : ArePast slots past
  pub last : AreLast slots place
  pub held : length slots ≤ occupants
  pub room : length clients + (length targets + length past) ≤ capacity

-- ---- readiness

-- what a number is ready for, once this was found
abbrev pub heed : (ChanNo → ℕ) → Finding → ChanNo → ℕ
heed before (WasTold polled) c = told_of_channel polled.asked polled.answer.pairs c
heed before Untold c = 0
heed before (NotReady n op) c = if n.0 == c.0 then without op (before c) else before c
heed before (Forgotten n) c = if n.0 == c.0 then 0 else before c

-- what the last poll told of a number, without what calls found since: nothing where it had no answer
abbrev pub ready_told : List Finding → ChanNo → ℕ
ready_told findings = fold heed (λ _. 0) findings

-- the polls that answered, once this was found
abbrev pub with_told : List Polled → Finding → List Polled
with_told before (WasTold polled) = before ++ polled ∷ []
with_told before Untold = before
with_told before (NotReady n op) = before
with_told before (Forgotten n) = before

-- the polls that answered, the oldest first
abbrev pub polls_told : List Finding → List Polled
polls_told findings = fold with_told [] findings

-- what a poll tells of a key: what its channel is ready for, of what it is asked for
abbrev pub told_pair : List Slot → List (Option Occupant) → Bool → LookedKey → ℕ × ℕ
told_pair slots occupants waiting entry =
    let ready = ready_by waiting (occupant_at occupants entry.channel) (slot_at slots entry.channel) in
    (entry.index, bit_and ready entry.interest)

abbrev pub if_some : ℕ × ℕ → List (ℕ × ℕ)
if_some pair = filter (λ told. not (told.1 == 0)) (pair ∷ [])

-- the keys of which it tells something
abbrev pub told_pairs : List Slot → List (Option Occupant) → Bool → List LookedKey → List (ℕ × ℕ)
told_pairs slots occupants waiting asked =
    filter (λ pair. not (pair.1 == 0)) (map (told_pair slots occupants waiting) asked)

-- a net in memory never waits, so the time is over where nothing is ready
abbrev pub answer_of : List (ℕ × ℕ) → Poll
answer_of pairs = record { pairs = pairs; elapsed = length pairs == 0 }

-- ---- failures

abbrev pub times : List ChanId → ChanId → ℕ
times chans c = count_by (λ chan. is_same_channel chan c) chans

-- the channels on which calls failed, after a call on this one
abbrev pub faulted_after : {T : Type 0} → Result T Failed → ChanId → List ChanId → List ChanId
faulted_after (Ok value) c before = before
faulted_after (Err failed) c before = before ++ c ∷ []

-- what was found, after a call that found the channel not ready for this, or not
abbrev pub findings_after : Bool → ChanNo → ℕ → List Finding → List Finding
findings_after true n op before = before ++ NotReady n op ∷ []
findings_after false n op before = before

abbrev pub is_early : Result Got Failed → Bool
is_early (Ok (got.Bytes n)) = false
is_early (Ok got.End) = false
is_early (Ok got.NotYet) = true
is_early (Err failed) = false

-- a call on this channel failed
abbrev pub faulted_on : ChanId → NetState → NetState
faulted_on c s = record s { faulted = s.faulted ++ c ∷ [] }

-- ---- the calls

-- a place was changed
abbrev pub logged : ChanId → Change → NetState → NetState
logged c change s = record s {
  changes = s.changes ++ (c, change) ∷ [];
  occupants = slice_set s.occupants c.number.0
      (occupant_after c.serial (standing_after change) (occupant_at s.occupants c.number));
}

-- something was made under this channel: nothing was told of it yet
abbrev pub made_under : ChanId → Change → NetState → NetState
made_under c change s = logged c change (record s { findings = s.findings ++ Forgotten c.number ∷ [] })

-- the link of a channel, where it stands there and is connected
abbrev pub connected : NetState → ChanId → Option LinkState
connected s c = if_linked (stands (places_after s.changes c)) (link_at s.slots c)

abbrev pub after_read : NetState → ChanId → List ℕ → NetState
after_read s c buffer = record s {
  slots = slots_after_read s.slots c (connected s c) buffer;
  faulted = faulted_after (read_answer (connected s c) (length buffer)) c s.faulted;
  findings = findings_after (is_early (read_answer (connected s c) (length buffer))) c.number 1 s.findings;
}

-- a write is never early
abbrev pub after_write : NetState → ChanId → List ℕ → NetState
after_write s c bytes = record s {
  slots = slots_after_write s.slots c (connected s c) bytes;
  faulted = faulted_after (write_answer (connected s c) (length bytes)) c s.faulted;
}

-- after shutting the link of this channel, if it is connected
abbrev pub shut_by : Option LinkState → NetState → ChanId → NetState
shut_by None s c = faulted_on c s
shut_by (Some l) s c = logged c change.ShutWrite (record s { slots = slots_after_shut s.slots c (Some l) })

abbrev pub after_shut : NetState → ChanId → NetState
after_shut s c = shut_by (connected s c) s c

-- after finishing a connection, where the link was to be connected
abbrev pub after_finish : Result Bool Failed → NetState → ChanId → NetState
after_finish (Ok made) s c = logged c change.FinishConnect s
after_finish (Err failed) s c =
    logged c change.Close (record s { faulted = s.faulted ++ c ∷ []; findings = s.findings ++ Forgotten c.number ∷ [] })

-- the call on any channel: one where no link is being connected fails
abbrev pub finish_any : NetState → ChanId → Result Bool Failed
finish_any s c =
    if is_connecting (places_after s.changes c).standing then finish_answer (link_at s.slots c) else Err (record {})

abbrev pub after_finish_any : NetState → ChanId → NetState
after_finish_any s c =
    if is_connecting (places_after s.changes c).standing then after_finish (finish_answer (link_at s.slots c)) s c
    else faulted_on c s

-- the net has the channel's number
abbrev pub has_number : NetState → ChanId → Bool
has_number s c = nat_lt c.number.0 (length s.slots)

-- a channel of the net whose number can serve: nothing stands there, and its links came before
abbrev pub is_free : NetState → ChanId → Bool
is_free s c = is_none (occupant_at s.occupants c.number) && can_bear s.slots c

abbrev pub listen_answer : NetState → ChanId → Result (Unit {0}) Failed
listen_answer s c = if is_free s c then Ok tt else Err (record {})

abbrev pub after_listen : NetState → ChanId → Addr → NetState
after_listen s c at = if is_free s c then made_under c (change.Listen at) s else faulted_on c s

-- a link was put under this channel
abbrev pub with_link : ChanId → LinkState → NetState → NetState
with_link c l s = record s {
  slots = slice_set s.slots c.number.0 (slot.Link c.serial l);
  past = past_after c.number (slot_at s.slots c.number) s.past;
}

-- a link that is connected later, or none where all targets were connected
abbrev pub connect_answer : NetState → ChanId → Result Bool Failed
connect_answer s c = if is_free s c && is_waiting s.targets then Ok false else Err (record {})

-- the link is gone, unless something stands there already: that stays
abbrev pub refused : NetState → ChanId → Addr → NetState
refused s c to =
    if is_there (places_after s.changes c).standing then faulted_on c s
    else logged c (change.Connect to (Err (record {}))) (faulted_on c s)

abbrev pub with_target : List LinkState → ChanId → Addr → NetState → NetState
with_target [] c to s = refused s c to
with_target (l ∷ later) c to s =
    made_under c (change.Connect to (Ok false)) (with_link c l (record s { targets = later }))

abbrev pub after_connect : NetState → ChanId → Addr → NetState
after_connect s c to = if is_free s c then with_target s.targets c to s else refused s c to

abbrev pub can_accept : NetState → ChanId → ChanId → Bool
can_accept s listener c = is_listening (places_after s.changes listener).standing && is_free s c

abbrev pub with_client : List LinkState → ChanId → ChanId → NetState → NetState
with_client [] listener c s = record s { findings = s.findings ++ NotReady listener.number 16 ∷ [] }
with_client (l ∷ later) listener c s =
    made_under c (change.Accept listener) (with_link c l (record s { clients = later }))

-- after a call of accept that didn't fail
abbrev pub after_accept : NetState → ChanId → ChanId → NetState
after_accept s listener c = with_client s.clients listener c (record s { accepts = after_success s.accepts })

-- after one that failed
abbrev pub after_failed_accept : NetState → ChanId → NetState
after_failed_accept s listener = record s { accepts = after_failure s.accepts; faulted = s.faulted ++ listener ∷ [] }

-- what was found, after something that stood there or not was closed
abbrev pub findings_closed : Bool → ChanNo → List Finding → List Finding
findings_closed true n before = before ++ Forgotten n ∷ []
findings_closed false n before = before

abbrev pub after_close : NetState → ChanId → NetState
after_close s c =
    logged c change.Close
    (record s { findings = findings_closed (is_there (places_after s.changes c).standing) c.number s.findings })

-- ---- links handed over

-- what contracts see of a link that stands in no net: the link, and its peer's target, where that is still to be
-- connected
pub record Loose : Type 0 where
  pub link : LinkState
  pub target : Option LinkState

-- the place of this peer's target among those still to be connected, past the last where it isn't among them
abbrev pub target_place : List LinkState → PeerNo → ℕ
target_place targets peer = position_or_len (λ (l : LinkState). is_same_peer l.peer peer) targets

-- the target of this peer, where it is among them
abbrev pub target_beside : List LinkState → PeerNo → Option LinkState
target_beside targets peer = slice_get targets (target_place targets peer)

-- the targets without it
abbrev pub other_targets : List LinkState → PeerNo → List LinkState
other_targets targets peer = remove targets (target_place targets peer)

-- a link with its peer's target, where that is among these
abbrev pub with_peer : List LinkState → LinkState → Loose
with_peer targets l = record { link = l; target = target_beside targets l.peer }

-- what is taken out of this channel: the link, where a connected one stands there
abbrev pub taken_out : NetState → ChanId → Option Loose
taken_out s c = option_map (with_peer s.targets) (connected s c)

-- after this link of the channel was taken out, if one was
abbrev pub without_link : Option LinkState → NetState → ChanId → NetState
without_link None s c = s
without_link (Some l) s c = logged c change.TakeOut (record s {
  slots = slice_set s.slots c.number.0 (slot.TakenOut c.serial);
  targets = other_targets s.targets l.peer;
  findings = s.findings ++ Forgotten c.number ∷ [];
})

abbrev pub after_take_out : NetState → ChanId → NetState
after_take_out s c = without_link (connected s c) s c

-- an end of the peer of the link that is put in under this channel
abbrev pub end_under : ChanId → LinkState → LinkState
end_under c l = record l { peer = peer.PutIn c }

-- after a link was put in: the net has room for its number and the next, and its peer's target is connected next
abbrev pub after_put_in : NetState → ChanId → Loose → NetState
after_put_in s c loose = made_under c change.PutIn (with_link c (end_under c loose.link) (record s {
  slots = grown s.slots (c.number.0 + 2);
  targets = option_to_list (option_map (end_under c) loose.target) ++ s.targets;
  occupants = grown_occupants s.occupants (c.number.0 + 2);
}))

-- ---- polls

abbrev pub after_poll : NetState → Polled → NetState
after_poll s polled = record s { polls = after_success s.polls; findings = s.findings ++ WasTold polled ∷ [] }

-- after a poll for whose answer there was no memory
abbrev pub after_lost_poll : NetState → NetState
after_lost_poll s = record s { polls = after_success s.polls; findings = s.findings ++ Untold ∷ [] }

-- after a poll that failed
abbrev pub after_failed_poll : NetState → NetState
after_failed_poll s = record s { polls = after_failure s.polls; findings = s.findings ++ Untold ∷ [] }

-- polls leave what links carried, which calls failed, and what stands
pub record KeepsLinks (s now : NetState) : Type 0 where
  pub slots : now.slots ≡ s.slots
  pub past : now.past ≡ s.past
  pub faulted : now.faulted ≡ s.faulted
  pub changes : now.changes ≡ s.changes
  pub occupants : now.occupants ≡ s.occupants

-- ---- as every net

abbrev pub shown : NetState → NetView
shown s = record {
  link = carried_at s.slots s.past;
  faults = times s.faulted;
  place = places_after s.changes;
  accepted = accepted_by s.changes;
  ready = ready_told s.findings;
  poll_faults = s.polls.faults;
  polls = Some (polls_told s.findings);
}
