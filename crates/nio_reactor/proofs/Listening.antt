-- The line of a worker, as a serving loop sees it: a listener.
use Rattle.std.proofs.Common.{◌≡◌, ◌≢◌, ℕ, ◌+◌, ◌==◌, if◌then◌else◌, refl, ap, sym, ◌∙◌, inl, inr, arith, Bool, true, false}
use Rattle.std.proofs.Common.{◌⊎◌, Ok, Some, None, Option, option_map, IfSome, IsSome, List, [], ◌∷◌, ◌++◌, bit_or, fold, map, eq-eqb}
use Rattle.std.proofs.Common.{Result}
use Rattle.std.specs.Prelude.{nat_lt}
use Rattle.std.specs.Option.{option_to_list}
use lib.Bits.{or_zero_r}
use Rattle.std.proofs.lemmas.Bool.{cases_eq, ltb-false, ltb-true, ne_eqb}
use Rattle.std.proofs.lemmas.List.{map_push}
use Rattle.nio_base.specs.declared.numbers.Addr.{Addr}
use Rattle.nio_base.specs.declared.numbers.ChanId.{ChanId}
use Rattle.nio_base.specs.declared.numbers.ChanNo.{ChanNo}
use Rattle.nio_link.proofs.Channels.{number_differs}
use Rattle.nio_link.specs.Nets.{NetView, Accepts, Closes, Listens, PutsIn}
use Rattle.nio_link.specs.Places.{IsFree, channel}
use Rattle.nio_link.specs.Readiness.{ready_after_making}
use Rattle.nio_link.specs.declared.place.Place.{Place}
use Rattle.nio_poller.specs.Polls.{told_of_channel}
use Rattle.nio_history.specs.Lists.{ListEntry}
use Rattle.nio_select.specs.Asked.{key_with, keys_to}
use Rattle.nio_serve.specs.Serving.{listener}
use Rattle.nio_steps.specs.Lists.{listed_at}
use Rattle.nio_steps.specs.SelectCalls.{told_at}
use Rattle.nio_steps.specs.declared.looked.LookedKey.{LookedKey}
use Rattle.nio_reactor.proofs.Seen.{faults_same, free_number, free_over, place_other, place_same}
use Rattle.nio_reactor.specs.Lanes.{IsListenerKey, IsOpen, IsSpare, lane_view, place_over, polls_over}
use Rattle.nio_reactor.specs.Lanes.{ready_over, seen}
use Rattle.nio_reactor.specs.declared.door.Door.{Door}
use Rattle.nio_reactor.specs.declared.door.Door.TheVariants as door
use Rattle.nio_reactor.specs.declared.handover.Handover.{Handover}
use Rattle.nio_reactor.specs.declared.ready.Ready.{Ready}
use Rattle.nio_reactor.specs.declared.ready.Ready.TheVariants as ready

-- the listener's number is ready for nothing any more, and each other one for what it was
abbrev IsWithout : Ready → Ready → Type 0
IsWithout before now = (of_net : ChanNo → ℕ) (c : ChanNo) → ready_over now of_net c
    ≡ (if c.0 == 0 then 0 else ready_over before of_net c)

else_without : (r q : Ready) → IsWithout r q → (of_net : ChanNo → ℕ) (c : ChanNo) → c ≢ listener.number
    → ready_over q of_net c ≡ ready_over r of_net c
else_without r q without of_net c other =
    without of_net c
    ∙ ap (λ t. if t then 0 else ready_over r of_net c) (ne_eqb c.0 0 (number_differs c listener.number other))

-- ---- listening

pub open_listens : (r q : Ready) (d : Door) (early : Bool) (put : List ChanId) (v : NetView) (at : Addr)
    → IsWithout r q
    → Listens listener at (lane_view r d early put v) (lane_view q (door.Open at) early put v) (Ok tt)
open_listens r q d early put v at without = record {
  cause = record { later = omega arith; still = refl; failed = tt };
  others = λ k other. refl;
  links = λ k. refl;
  ready = without v.ready listener.number;
  ready_else = λ n other. else_without r q without v.ready n other;
  place = refl;
  places = λ k other. place_other (door.Open at) v.place k other ∙ sym (place_other d v.place k other);
  accepted = refl;
  polls = refl;
  shown = refl;
}

pub open_spare : (d : Door) (place : ChanId → Place) (at : Addr) → IsFree (place_over d place) listener
    → IsSpare d place → IsSpare (door.Open at) place
open_spare d place at free spare = record {
  unasked = spare.unasked;
  none = λ opened s. (free_over d place listener spare free).later s (omega arith);
}

pub close_spare : (d : Door) (place : ChanId → Place) (at : Addr) → IsSpare d place → IsSpare (door.Closed at) place
close_spare d place at spare = record { unasked = spare.unasked; none = λ opened s. absurd (cc) }

-- ---- closing

pub close_open : (r q : Ready) (early : Bool) (put : List ChanId) (v : NetView) (at : Addr) → IsWithout r q
    → Closes listener (lane_view r (door.Open at) early put v) (lane_view q (door.Closed at) early put v)
close_open r q early put v at without = record {
  faults = λ k. refl;
  links = λ k. refl;
  ready = without v.ready listener.number;
  ready_else = λ n other. else_without r q without v.ready n other;
  place = refl;
  places = λ k other. place_other (door.Closed at) v.place k other ∙ sym (place_other (door.Open at) v.place k other);
  accepted = refl;
  polls = refl;
  shown = refl;
}

-- no line is listened at
pub close_none : (r : Ready) (d : Door) (early : Bool) (put : List ChanId) (v : NetView)
    → (IsOpen d → ⊥)
    → Closes listener (lane_view r d early put v) (lane_view r d early put v)
close_none r door.Unasked early put v none = record {
  faults = λ k. refl;
  links = λ k. refl;
  ready = refl;
  ready_else = λ n other. refl;
  place = refl;
  places = λ k other. refl;
  accepted = refl;
  polls = refl;
  shown = refl;
}
close_none r (door.Open at) early put v none = absurd (none refl)
close_none r (door.Closed at) early put v none = record {
  faults = λ k. refl;
  links = λ k. refl;
  ready = refl;
  ready_else = λ n other. refl;
  place = refl;
  places = λ k other. refl;
  accepted = refl;
  polls = refl;
  shown = refl;
}

-- ---- accepting

line_none : (of_net : ChanNo → ℕ) (n : ChanNo) → n ≢ listener.number → ready_over ready.Line of_net n ≡ 0
line_none of_net n other = ap (λ t. if t then 16 else 0) (ne_eqb n.0 0 (number_differs n listener.number other))

making_none : (b : Bool) → ready_after_making b 0 ≡ 0
making_none true = refl
making_none false = refl

module _ (d : Door) (e f : Bool) (put : List Handover) (c : ChanId) (v w : NetView) (same : f ≡ e)
    (listens : IsOpen d) (free : IsFree (place_over d v.place) c) where
  abbrev clients : List ChanId
  clients = map (λ h. h.client) put

  number : c.number ≢ listener.number
  number = free_number d v.place c listens free

  apart : c ≢ listener
  apart is = number (ap (λ (k : ChanId). k.number) is)

  early : (polls : ℕ) → polls_over f polls ≡ polls_over e polls
  early polls = ap (λ b. polls_over b polls) same

  unready : (b : Bool) → 0 ≡ ready_after_making b (ready_over ready.Line v.ready c.number)
  unready b = sym (ap (ready_after_making b) (line_none v.ready c.number number) ∙ making_none b)

  -- the link that came was put in
  pub accepts_put : {L : Type 0} (link : L) (h : Handover) (now : List Handover) → h.client ≡ c → now ≡ put ++ h ∷ []
      → PutsIn c link v w (Ok tt)
      → Accepts listener c (lane_view ready.Line d e clients v)
      (lane_view ready.Line d f (map (λ h. h.client) now) w) (Ok true)
  accepts_put link h now its now_is is = record {
    cause = record { later = omega arith; still = refl; failed = tt };
    others = λ k other. faults_same v.faults w.faults k (is.faults k);
    links = is.links;
    ready = refl;
    ready_made = line_none w.ready c.number number ∙ unready _;
    ready_else = λ n other else_. refl;
    place = place_other d w.place c apart ∙ ap seen is.place;
    places = λ k other. place_same d v.place w.place k (is.places k other);
    accepted = ap (map (λ h. h.client)) now_is ∙ map_push (λ (h : Handover). h.client) put h
        ∙ ap (λ k. clients ++ k ∷ []) its;
    polls = early w.poll_faults ∙ ap (polls_over e) is.polls;
    shown = refl;
  }

  -- none came, or the net has no memory for it
  pub accepts_none : ((k : ChanId) → w.faults k ≡ v.faults k) → ((k : ChanId) → w.link k ≡ v.link k)
      → ((k : ChanId) → w.place k ≡ v.place k) → w.poll_faults ≡ v.poll_faults
      → Accepts listener c (lane_view ready.Line d e clients v) (lane_view ready.Nothing d f clients w) (Ok false)
  accepts_none faults links places polls = record {
    cause = record { later = omega arith; still = refl; failed = tt };
    others = λ k other. faults_same v.faults w.faults k (faults k);
    links = links;
    ready = refl;
    ready_made = unready _;
    ready_else = λ n other else_. sym (line_none v.ready n other);
    place = place_same d v.place w.place c (places c);
    places = λ k other. place_same d v.place w.place k (places k);
    accepted = refl;
    polls = early w.poll_faults ∙ ap (polls_over e) polls;
    shown = refl;
  }

-- what is spare stays so where a link is put in, or can't be
pub put_spare : {L : Type 0} (d : Door) (c : ChanId) (link : L) (v w : NetView) (result : Result (Unit {0}) L)
    → PutsIn c link v w result → IsOpen d → IsFree (place_over d v.place) c → IsSpare d v.place → IsSpare d w.place
put_spare d c link v w result is opened free spare =
    let other = free_number d v.place c opened free in record {
      unasked = is.places listener (λ same. other (ap (λ (k : ChanId). k.number) (sym same))) ∙ spare.unasked;
      none = λ _ s.
          is.places (channel listener.number s) (λ same. other (ap (λ (k : ChanId). k.number) (sym same)))
          ∙ spare.none opened s;
    }

-- ---- the line is told

-- what is told of the key with this index alone
abbrev at_line : ℕ → List (ℕ × ℕ)
at_line i = (i, 16) ∷ []

module _ (i : ℕ) (c : ChanNo) where
  abbrev tells : ℕ → LookedKey → ℕ
  tells bits e = if e.channel.0 == c.0 then bit_or bits (told_at (at_line i) e.index) else bits

  told_other : (j : ℕ) → j ≢ i → told_at (at_line i) j ≡ 0
  told_other j other = ap (λ t. if t then bit_or 0 16 else 0) (ne_eqb i j (λ same. other (sym same)))

  told_here : told_at (at_line i) i ≡ 16
  told_here = ap (λ t. if t then bit_or 0 16 else 0) (eq-eqb i i refl)

  -- other keys change nothing
  tells_none : (e : LookedKey) (bits : ℕ) → e.index ≢ i → tells bits e ≡ bits
  tells_none e bits other =
      ap (λ n. if e.channel.0 == c.0 then bit_or bits n else bits) (told_other e.index other)
      ∙ by_test (e.channel.0 == c.0)
    where
      by_test : (t : Bool) → (if t then bit_or bits 0 else bits) ≡ bits
      by_test true = or_zero_r bits
      by_test false = refl

  -- the keys of later indexes
  tells_to : (keys : List LookedKey) (bits : ℕ) → fold tells bits keys ≡ fold tells bits (keys_to (i + 1) keys)
  tells_to [] bits = refl
  tells_to (e ∷ keys) bits = by_test (nat_lt e.index (i + 1)) refl (λ n. tells_to keys n)
    where
      by_test : (t : Bool) → nat_lt e.index (i + 1) ≡ t
          → ((n : ℕ) → fold tells n keys ≡ fold tells n (keys_to (i + 1) keys))
          → fold tells (tells bits e) keys ≡ fold tells bits (if t then e ∷ keys_to (i + 1) keys else keys_to (i + 1) keys)
      by_test true is rest = rest (tells bits e)
      by_test false is rest =
          ap (λ n. fold tells n keys)
          (tells_none e bits (λ same. absurd (omega (arith, ltb-false e.index (i + 1) is, same))))
          ∙ rest bits

  -- and of earlier ones
  tells_below : (keys : List LookedKey) (bits : ℕ) → fold tells bits (keys_to i keys) ≡ bits
  tells_below [] bits = refl
  tells_below (e ∷ keys) bits = by_test (nat_lt e.index i) refl (tells_below keys bits)
    where
      by_test : (t : Bool) → nat_lt e.index i ≡ t → fold tells bits (keys_to i keys) ≡ bits
          → fold tells bits (if t then e ∷ keys_to i keys else keys_to i keys) ≡ bits
      by_test true is rest =
          ap (λ n. fold tells n (keys_to i keys))
          (tells_none e bits (λ same. absurd (omega (arith, ltb-true e.index i is, same))))
          ∙ rest
      by_test false is rest = rest

  tells_last : (keys : List LookedKey) (bits : ℕ) (key : LookedKey)
      → fold tells bits (keys ++ key ∷ []) ≡ tells (fold tells bits keys) key
  tells_last [] bits key = refl
  tells_last (e ∷ keys) bits key = tells_last keys (tells bits e) key

  abbrev accepts_if : Bool → ℕ
  accepts_if t = if t then 16 else 0

  listener_first : (k : ChanNo) → k ≡ listener.number → accepts_if (k.0 == c.0) ≡ accepts_if (c.0 == 0)
  listener_first k is = ap (λ (x : ChanNo). accepts_if (x.0 == c.0)) is ∙ flip (cases_eq c.0 0)
    where
      flip : (c.0 ≡ 0) ⊎ (c.0 ≢ 0) → accepts_if (0 == c.0) ≡ accepts_if (c.0 == 0)
      flip (inl same) = ap accepts_if (eq-eqb 0 c.0 (sym same)) ∙ sym (ap accepts_if (eq-eqb c.0 0 same))
      flip (inr other) =
          ap accepts_if (ne_eqb 0 c.0 (λ is. other (sym is))) ∙ sym (ap accepts_if (ne_eqb c.0 0 other))

  tells_key : (keys : List LookedKey) (key : LookedKey) → key.index ≡ i
      → keys_to (i + 1) keys ≡ keys_to i keys ++ key ∷ []
      → told_of_channel keys (at_line i) c ≡ accepts_if (key.channel.0 == c.0)
  tells_key keys key index next =
      tells_to keys 0 ∙ ap (fold tells 0) next ∙ tells_last (keys_to i keys) 0 key
      ∙ ap (λ n. tells n key) (tells_below keys 0)
      ∙ ap (λ n. if key.channel.0 == c.0 then bit_or 0 n else 0) (ap (told_at (at_line i)) index ∙ told_here)

  -- a poll that tells of the line alone
  pub line_told : (keys : List LookedKey) (of_net : ChanNo → ℕ) (pairs : List (ℕ × ℕ)) → pairs ≡ (i, 16) ∷ []
      → IsListenerKey keys i → ready_over ready.Line of_net c ≡ told_of_channel keys pairs c
  line_told keys of_net pairs pairs_are is =
      by_listed (listed_at keys i) is ∙ sym (ap (λ l. told_of_channel keys l c) pairs_are)
    where
      by_listed : (o : Option ListEntry)
          → IfSome (option_map (key_with i) o) (λ key. key.channel ≡ listener.number)
          × (IsSome (option_map (key_with i) o)
          × (keys_to (i + 1) keys ≡ keys_to i keys ++ option_to_list (option_map (key_with i) o)))
          → ready_over ready.Line of_net c ≡ told_of_channel keys (at_line i) c
      by_listed None its = absurd (cc its.1.0)
      by_listed (Some found) its =
          sym (tells_key keys (key_with i found) refl its.1.1 ∙ listener_first found.channel its.0)
