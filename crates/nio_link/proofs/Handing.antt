-- What handing links over leaves of a net in memory.
use Rattle.std.proofs.Common.{◌≡◌, true, false, Bool, ℕ, ◌+◌, ◌-◌, ◌≤◌, Option, Some, None, is_some, option_map, IsSome, IsTrue}
use Rattle.std.proofs.Common.{Result, Ok, Err, OnOk, OnErr, IfErr, List, length, replicate, slice_set, refl, ap, sym, ◌∙◌}
use Rattle.std.proofs.Common.{arith, length-append}
use Rattle.std.proofs.lemmas.List.{length-replicate}
use Rattle.nio_base.specs.declared.numbers.ChanId.{ChanId}
use Rattle.nio_link.proofs.Changes.{accepted_here, changed_here, changed_else}
use Rattle.nio_link.proofs.Growing.{goes_on}
use Rattle.nio_link.proofs.Making.{free_ready}
use Rattle.nio_link.proofs.MemoryLaws.{grown_carried, made_ready, polls_forgotten, put_carried, spent_grown, take_carried}
use Rattle.nio_link.proofs.MemoryLaws.{unready_else, unready_here}
use Rattle.nio_link.specs.Links.{IsUnused}
use Rattle.nio_link.specs.MemoryLinks.{LinkState, IsFresh}
use Rattle.nio_link.specs.MemoryNet.{Loose, NetState, after_put_in, after_take_out, connected, end_under, ready_told, shown}
use Rattle.nio_link.specs.MemoryNet.{taken_out, with_peer, without_link}
use Rattle.nio_link.specs.Nets.{PutsIn, TakesOut}
use Rattle.nio_link.specs.Places.{places_after, stands, IsFree}
use Rattle.nio_link.specs.Slots.{carried_at, comes_after, grown, if_linked, link_at, past_after, slot_at, slots_after_take}
use Rattle.nio_link.specs.Slots.{ArePast}
use Rattle.nio_link.specs.declared.memory.slot.PastLink.{PastLink}
use Rattle.nio_link.specs.declared.memory.slot.Slot.{Slot}
use Rattle.nio_link.specs.declared.memory.slot.Slot.TheVariants as slot
use Rattle.nio_link.specs.declared.place.Change.TheVariants as change

-- a link that stands is taken out
takes_link : (s : NetState) (c : ChanId) (l : LinkState) → IsTrue (stands (places_after s.changes c))
    → link_at s.slots c ≡ Some l → ArePast s.slots s.past → IsUnused (carried_at s.slots s.past c)
    → TakesOut {L = Loose} c (shown s) (shown (without_link (Some l) s c)) (Some (with_peer s.targets l))
takes_link s c l stood is spent unused = record {
  stood = (λ some. stood, λ standing. refl);
  faults = λ k. refl;
  links = λ k. ap (λ (o : Option LinkState). carried_at (slots_after_take s.slots c o) s.past k) (sym is)
      ∙ take_carried s.slots s.past c spent unused k;
  ready = unready_here s.findings c.number;
  ready_else = unready_else s.findings c.number;
  place = changed_here s.changes c change.TakeOut;
  places = changed_else s.changes c change.TakeOut;
  accepted = accepted_here s.changes c change.TakeOut;
  polls = refl;
  shown = ap (λ polls. Some polls) (polls_forgotten s.findings c.number);
}

pub takes_out : (s now : NetState) (c : ChanId) (result : Option Loose) → IsTrue (stands (places_after s.changes c))
    → result ≡ taken_out s c → IsSome result → now ≡ after_take_out s c → ArePast s.slots s.past
    → IsUnused (carried_at s.slots s.past c) → TakesOut c (shown s) (shown now) result
takes_out s now c result stood is some after spent unused = by_link (link_at s.slots c) refl
  where
    there : connected s c ≡ link_at s.slots c
    there = ap (λ (b : Bool). if_linked b (link_at s.slots c)) stood

    by_link : (o : Option LinkState) → link_at s.slots c ≡ o → TakesOut c (shown s) (shown now) result
    by_link None none =
        let nothing : result ≡ None =
        is ∙ ap (λ (o : Option LinkState). option_map (with_peer s.targets) o) (there ∙ none) in
        let clash : false ≡ true = sym (ap (λ (o : Option Loose). is_some o) nothing) ∙ some in
        absurd (cc clash)
    by_link (Some l) at =
        let given : result ≡ Some (with_peer s.targets l) =
        is ∙ ap (λ (o : Option LinkState). option_map (with_peer s.targets) o) (there ∙ at) in
        let state : now ≡ without_link (Some l) s c =
        after ∙ ap (λ (o : Option LinkState). without_link o s c) (there ∙ at) in
        rw (given, state) (takes_link s c l stood at spent unused)

-- where no link stands, none is
pub takes_none : (s : NetState) (c : ChanId) → stands (places_after s.changes c) ≡ false
    → TakesOut {L = Loose} c (shown s) (shown s) None
takes_none s c none = record {
  stood = (λ some. absurd (cc some), λ standing. absurd (cc (sym none ∙ standing)));
  faults = λ k. refl;
  links = λ k. refl;
  ready = refl;
  ready_else = λ n differ. refl;
  place = refl;
  places = λ k differ. refl;
  accepted = refl;
  polls = refl;
  shown = refl;
}

pub length_grown : (slots : List Slot) (n : ℕ) → n ≤ length (grown slots n)
length_grown slots n =
    omega (
      arith,
      length-append slots (replicate (n - length slots) slot.Free),
      length-replicate (n - length slots) slot.Free,
    )

put_in_carried : (slots : List Slot) (past : List PastLink) (c : ChanId) (l : LinkState) → IsFresh l
    → ArePast slots past → comes_after (slot_at slots c.number) c.serial ≡ true → (k : ChanId)
    → carried_at (slice_set (grown slots (c.number.0 + 2)) c.number.0 (slot.Link c.serial (end_under c l)))
    (past_after c.number (slot_at (grown slots (c.number.0 + 2)) c.number) past) k ≡ carried_at slots past k
put_in_carried slots past c l fresh spent after k =
    put_carried (grown slots (c.number.0 + 2)) past c (end_under c l)
    (omega (arith, length_grown slots (c.number.0 + 2)))
    (ap (λ x. comes_after x c.serial)
    (goes_on slot.Free slots (c.number.0 + 2 - length slots) c.number.0) ∙ after)
    (spent_grown slots past (c.number.0 + 2) spent)
    (record { got = fresh.got; ended = fresh.ended; put = fresh.put; shut = fresh.shut }) k
    ∙ grown_carried slots past (c.number.0 + 2) k

goes_in : (s : NetState) (c : ChanId) (loose : Loose) → IsFresh loose.link → ArePast s.slots s.past
    → comes_after (slot_at s.slots c.number) c.serial ≡ true
    → PutsIn c loose (shown s) (shown (after_put_in s c loose)) (Ok tt)
goes_in s c loose fresh spent after = record {
  back = tt;
  faults = λ k. refl;
  links = put_in_carried s.slots s.past c loose.link fresh spent after;
  ready = made_ready s c change.PutIn refl;
  ready_else = unready_else s.findings c.number;
  place = changed_here s.changes c change.PutIn;
  places = changed_else s.changes c change.PutIn;
  accepted = accepted_here s.changes c change.PutIn;
  polls = refl;
  shown = ap (λ polls. Some polls) (polls_forgotten s.findings c.number);
}

-- the link came back
comes_back : {L : Type 0} (s : NetState) (c : ChanId) (link : L) → IsFree (places_after s.changes) c
    → PutsIn c link (shown s) (shown s) (Err link)
comes_back s c link free = record {
  back = refl;
  faults = λ k. refl;
  links = λ k. refl;
  ready = sym (free_ready (places_after s.changes) c (ready_told s.findings c.number) free);
  ready_else = λ n differ. refl;
  place = refl;
  places = λ k differ. refl;
  accepted = refl;
  polls = refl;
  shown = refl;
}

pub puts_in : (s now : NetState) (c : ChanId) (loose : Loose) (result : Result (Unit {0}) Loose)
    → IsFree (places_after s.changes) c → OnOk result (now ≡ after_put_in s c loose) → OnErr result (now ≡ s)
    → IfErr result (λ back. back ≡ loose) → IsFresh loose.link → ArePast s.slots s.past
    → comes_after (slot_at s.slots c.number) c.serial ≡ true → PutsIn c loose (shown s) (shown now) result
puts_in s now c loose (Ok done) free ok err back fresh spent after = rw ok (goes_in s c loose fresh spent after)
puts_in s now c loose (Err link) free ok err back fresh spent after = rw (err, back) (comes_back s c loose free)
