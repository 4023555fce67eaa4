-- The numbers of a net in memory: the last link of each, and what calls answer and leave there.
use Rattle.std.specs.Prelude.{ℕ, nat_lt, ◌&&◌, IsTrue, Bool, true, false, if◌then◌else◌, ◌==◌, Option, Some, None}
use Rattle.std.specs.Prelude.{option_map, Result, Ok, Err, List, [], ◌∷◌, ◌++◌, ◌-◌, length, replicate, slice_set}
use Rattle.std.specs.List.{slice_index_or}
use Rattle.nio_base.specs.declared.numbers.ChanId.{ChanId}
use Rattle.nio_base.specs.declared.numbers.ChanNo.{ChanNo}
use Rattle.nio_link.specs.Links.{Link}
use Rattle.nio_link.specs.MemoryLinks.{LinkState, carried, link_ready, link_after_read, link_after_write, put_of}
use Rattle.nio_link.specs.MemoryLinks.{connect_answer}
use Rattle.nio_link.specs.Pieces.{got_of, buffer_after}
use Rattle.nio_link.specs.Places.{channel, is_same_channel}
use Rattle.nio_link.specs.declared.memory.slot.PastLink.{PastLink}
use Rattle.nio_link.specs.declared.memory.slot.Slot.{Slot}
use Rattle.nio_link.specs.declared.memory.slot.Slot.TheVariants as slot
use Rattle.nio_link.specs.declared.net.Failed.{Failed}
use Rattle.nio_link.specs.declared.net.Got.{Got}
use Rattle.nio_link.specs.declared.net.Put.{Put}
use Rattle.nio_link.specs.declared.place.Standing.{Standing}
use Rattle.nio_link.specs.declared.place.Standing.TheVariants as standing
use Rattle.nio_link.specs.declared.occupants.Occupant.{Occupant}

-- ---- the links of a number

-- the last link of a number
abbrev pub slot_at : List Slot → ChanNo → Slot
slot_at slots n = slice_index_or slots n.0 slot.Free

-- the link there, where it has this serial
abbrev pub link_of : Slot → ℕ → Option LinkState
link_of slot.Free s = None
link_of (slot.TakenOut m) s = None
link_of (slot.Link m l) s = if m == s then Some l else None

abbrev pub link_at : List Slot → ChanId → Option LinkState
link_at slots c = link_of (slot_at slots c.number) c.serial

-- the serial of the last link of a number, if it had one
abbrev pub last_serial : Slot → Option ℕ
last_serial slot.Free = None
last_serial (slot.TakenOut m) = Some m
last_serial (slot.Link m l) = Some m

-- a link of this serial comes after the last one of the number
abbrev pub comes_after : Slot → ℕ → Bool
comes_after slot.Free s = true
comes_after (slot.TakenOut m) s = nat_lt m s
comes_after (slot.Link m l) s = nat_lt m s

-- it came before the last one
abbrev pub came_before : Slot → ℕ → Bool
came_before slot.Free s = false
came_before (slot.TakenOut m) s = nat_lt s m
came_before (slot.Link m l) s = nat_lt s m

-- the net has the number, and a link of this channel comes after its last one
abbrev pub can_bear : List Slot → ChanId → Bool
can_bear slots c = nat_lt c.number.0 (length slots) && comes_after (slot_at slots c.number) c.serial

-- links that came before the last ones of their numbers
abbrev pub ArePast : List Slot → List PastLink → Type 0
ArePast slots [] = Unit {0}
ArePast slots (p ∷ later) =
    IsTrue (came_before (slot_at slots p.channel.number) p.channel.serial) × ArePast slots later

-- the link, where it stands
abbrev pub if_linked : Bool → Option LinkState → Option LinkState
if_linked linked link = if linked then link else None

-- ---- what was carried

abbrev pub nothing_carried : Link
nothing_carried = record { got = Some []; ended = Some false; put = Some []; shut = Some false }

abbrev pub carried_before : List PastLink → ChanId → Link
carried_before [] c = nothing_carried
carried_before (p ∷ later) c = if is_same_channel p.channel c then carried p.link else carried_before later c

-- by the last link of the number, or else by those before
abbrev pub carried_by : Option LinkState → Link → Link
carried_by None before = before
carried_by (Some l) before = carried l

abbrev pub carried_at : List Slot → List PastLink → ChanId → Link
carried_at slots past c = carried_by (link_at slots c) (carried_before past c)

-- ---- putting links

-- the changed link of this channel, if there is one
abbrev pub placed : ChanId → List Slot → Option LinkState → List Slot
placed c slots None = slots
placed c slots (Some l) = slice_set slots c.number.0 (slot.Link c.serial l)

-- the past links, after a link was put over this one
abbrev pub past_after : ChanNo → Slot → List PastLink → List PastLink
past_after n slot.Free past = past
past_after n (slot.TakenOut m) past = past
past_after n (slot.Link m l) past = record { channel = channel n m; link = l } ∷ past

-- ---- reading

abbrev pub read_answer : Option LinkState → ℕ → Result Got Failed
read_answer None room = Err (record {})
read_answer (Some l) room = Ok (got_of l.pieces room)

abbrev pub read_buffer : Option LinkState → List ℕ → List ℕ
read_buffer None buffer = buffer
read_buffer (Some l) buffer = buffer_after l.pieces buffer

abbrev pub slots_after_read : List Slot → ChanId → Option LinkState → List ℕ → List Slot
slots_after_read slots c link buffer = placed c slots (option_map (λ l. link_after_read l buffer) link)

-- ---- writing

abbrev pub write_answer : Option LinkState → ℕ → Result Put Failed
write_answer None count = Err (record {})
write_answer (Some l) count = put_of l count

abbrev pub slots_after_write : List Slot → ChanId → Option LinkState → List ℕ → List Slot
slots_after_write slots c link bytes = placed c slots (option_map (λ l. link_after_write l bytes) link)

-- ---- shutting

abbrev pub shut_answer : Option LinkState → Result (Unit {0}) Failed
shut_answer None = Err (record {})
shut_answer (Some l) = Ok tt

abbrev pub slots_after_shut : List Slot → ChanId → Option LinkState → List Slot
slots_after_shut slots c link = placed c slots (option_map (λ (l : LinkState). record l { shut = true }) link)

-- ---- connecting

abbrev pub finish_answer : Option LinkState → Result Bool Failed
finish_answer None = Err (record {})
finish_answer (Some l) = connect_answer l.fail_connect

-- ---- taking out and putting in

abbrev pub slots_after_take : List Slot → ChanId → Option LinkState → List Slot
slots_after_take slots c None = slots
slots_after_take slots c (Some l) = slice_set slots c.number.0 (slot.TakenOut c.serial)

-- with places for the numbers below this one
abbrev pub grown : List Slot → ℕ → List Slot
grown slots places = slots ++ replicate (places - length slots) slot.Free

-- ---- readiness

abbrev pub ready_link : Option LinkState → ℕ
ready_link None = 0
ready_link (Some l) = link_ready l.ended l.shut

-- which operations what stands there is ready for, where clients are waiting or not
abbrev pub ready_standing : Bool → Standing → Option LinkState → ℕ
ready_standing waiting standing.Nothing link = 0
ready_standing waiting standing.Listening link = if waiting then 16 else 0
ready_standing waiting standing.Connecting link = 8
ready_standing waiting standing.Linked link = ready_link link
ready_standing waiting standing.Shut link = ready_link link
ready_standing waiting standing.Gone link = 0

abbrev pub ready_by : Bool → Option Occupant → Slot → ℕ
ready_by waiting None last = 0
ready_by waiting (Some h) last = ready_standing waiting h.standing (link_of last h.serial)
