-- How a serving loop sees a worker's net.
use Rattle.std.proofs.Common.{◌≡◌, ◌≢◌, ℕ, ◌==◌, if◌then◌else◌, refl, ap, sym, subst, ◌∙◌, inl, inr, arith, Bool, true, false}
use Rattle.std.proofs.Common.{IsTrue, Result, Ok, Err, None, List}
use Rattle.std.proofs.lemmas.Bool.{ne_eqb}
use Rattle.nio_base.specs.Ops.{is_within}
use Rattle.nio_base.specs.declared.numbers.ChanId.{ChanId}
use Rattle.nio_base.specs.declared.numbers.ChanNo.{ChanNo}
use Rattle.nio_base.specs.declared.numbers.Addr.{Addr}
use Rattle.nio_board.specs.Polling.{AddsPollFor}
use Rattle.nio_bytes.specs.Cause.{HasCause}
use Rattle.nio_history.specs.declared.found.Mode.{Mode}
use Rattle.nio_link.proofs.Channels.{channel_is_or_not, is_another, is_or_not, number_differs}
use Rattle.nio_link.specs.Links.{IsSameBut}
use Rattle.nio_link.specs.Nets.{NetView, MayFinish, MayRead, MayWrite, Listens, Connects, Finishes, Reads, Writes, Shuts}
use Rattle.nio_link.specs.Nets.{Closes}
use Rattle.nio_link.specs.Places.{IsFree, IsLinked, IsVacant, channel, is_there, never_asked, place_after_close}
use Rattle.nio_link.specs.Places.{place_after_connect, place_after_finish, place_after_listen, place_after_shut}
use Rattle.nio_link.specs.Readiness.{ready_after_close, ready_after_connect, ready_after_making, ready_after_read, ready_after_write}
use Rattle.nio_link.specs.declared.net.Failed.{Failed}
use Rattle.nio_link.specs.declared.net.Got.{Got}
use Rattle.nio_link.specs.declared.net.Put.{Put}
use Rattle.nio_link.specs.declared.place.Place.{Place}
use Rattle.nio_link.specs.declared.place.Role.{Role}
use Rattle.nio_link.specs.declared.place.Role.TheVariants as role
use Rattle.nio_link.specs.declared.place.Standing.{Standing}
use Rattle.nio_link.specs.declared.place.Standing.TheVariants as standing
use Rattle.nio_poller.specs.Polls.{AddsPoll, CountsFaults}
use Rattle.nio_poller.specs.declared.poller.PollError.{PollError}
use Rattle.nio_poller.specs.declared.poller.PollError.TheVariants.{Fault}
use Rattle.nio_select.specs.declared.told.Told.{Told}
use Rattle.nio_serve.proofs.Promise.{place_as}
use Rattle.nio_serve.specs.Serving.{listener}
use Rattle.nio_steps.specs.declared.looked.LookedKey.{LookedKey}
use Rattle.nio_reactor.specs.Lanes.{IsOpen, IsSpare, IsToldOpen, door_place, faults_over, is_listener, lane_view, place_over}
use Rattle.nio_reactor.specs.Lanes.{polls_over, ready_over, seen, seen_role}
use Rattle.nio_reactor.specs.declared.door.Door.{Door}
use Rattle.nio_reactor.specs.declared.door.Door.TheVariants as door
use Rattle.nio_reactor.specs.declared.ready.Ready.{Ready}
use Rattle.nio_reactor.specs.declared.ready.Ready.TheVariants as ready

-- ---- by channels

pub place_other : (d : Door) (place : ChanId → Place) (c : ChanId) → c ≢ listener → place_over d place c ≡ seen (place c)
place_other d place c apart = ap (λ t. if t then door_place d else seen (place c)) (is_another c listener apart)

pub faults_other : (faults : ChanId → ℕ) (c : ChanId) → c ≢ listener → faults_over faults c ≡ faults c
faults_other faults c apart = ap (λ t. if t then 0 else faults c) (is_another c listener apart)

-- the same at a channel, where the net's is
pub place_same : (d : Door) (before now : ChanId → Place) (c : ChanId) → now c ≡ before c
    → place_over d now c ≡ place_over d before c
place_same d before now c same = ap (λ p. if is_listener c then door_place d else seen p) same

pub faults_same : (before now : ChanId → ℕ) (c : ChanId) → now c ≡ before c → faults_over now c ≡ faults_over before c
faults_same before now c same = ap (λ n. if is_listener c then 0 else n) same

standing_other : (d : Door) (place : ChanId → Place) (c : ChanId) → c ≢ listener
    → (place_over d place c).standing ≡ (place c).standing
standing_other d place c apart = ap (λ (p : Place). p.standing) (place_other d place c apart)

-- ---- back from what is seen

pub seen_nothing : (r : Role) → seen_role r ≡ role.Nothing → r ≡ role.Nothing
seen_nothing role.Nothing is = refl
seen_nothing (role.Listener at) is = absurd (cc)
seen_nothing (role.Accepted from) is = absurd (cc)
seen_nothing (role.Connected to) is = absurd (cc)
seen_nothing role.PutIn is = absurd (cc)

pub seen_accepted : (r : Role) → seen_role r ≡ role.Accepted listener → r ≡ role.PutIn
seen_accepted role.Nothing is = absurd (cc)
seen_accepted (role.Listener at) is = absurd (cc)
seen_accepted (role.Accepted from) is = absurd (cc)
seen_accepted (role.Connected to) is = absurd (cc)
seen_accepted role.PutIn is = refl

pub seen_connected : (r : Role) (to : Addr) → seen_role r ≡ role.Connected to → r ≡ role.Connected to
seen_connected role.Nothing to is = absurd (cc)
seen_connected (role.Listener at) to is = absurd (cc)
seen_connected (role.Accepted from) to is = absurd (cc)
seen_connected (role.Connected at) to is = is
seen_connected role.PutIn to is = absurd (cc)

pub from_put_in : (p : Place) → seen p ≡ record { role = role.Accepted listener; standing = standing.Gone }
    → p ≡ record { role = role.PutIn; standing = standing.Gone }
from_put_in p is =
    place_as p role.PutIn standing.Gone (seen_accepted p.role (ap (λ (q : Place). q.role) is))
    (ap (λ (q : Place). q.standing) is)

pub from_never : (p : Place) → seen p ≡ never_asked → p ≡ never_asked
from_never p is =
    place_as p role.Nothing standing.Nothing (seen_nothing p.role (ap (λ (q : Place). q.role) is))
    (ap (λ (q : Place). q.standing) is)

-- ---- the listener's number

-- a channel that was never asked as it is seen was never asked
pub never_over : (d : Door) (place : ChanId → Place) (c : ChanId) → IsSpare d place
    → place_over d place c ≡ never_asked → place c ≡ never_asked
never_over d place c spare is = elim (channel_is_or_not c listener) [
  | inl same ↦ ap place same ∙ spare.unasked
  | inr apart ↦ from_never (place c) (sym (place_other d place c apart) ∙ is)
]

pub vacant_over : (d : Door) (place : ChanId → Place) (c : ChanId) → IsSpare d place
    → IsVacant (place_over d place c).standing → IsVacant (place c).standing
vacant_over d place c spare vacant = elim (channel_is_or_not c listener) [
  | inl same ↦ subst (λ (p : Place). IsVacant p.standing)
      (sym (ap place same ∙ spare.unasked)) tt
  | inr apart ↦ subst IsVacant (standing_other d place c apart) vacant
]

-- a channel that is free as it is seen is free
pub free_over : (d : Door) (place : ChanId → Place) (c : ChanId) → IsSpare d place → IsFree (place_over d place) c
    → IsFree place c
free_over d place c spare free = record {
  later = λ s more. never_over d place (channel c.number s) spare (free.later s more);
  vacant = λ s. vacant_over d place (channel c.number s) spare (free.vacant s);
}

-- no channel of the listener's number is free while the line is listened at
pub free_number : (d : Door) (place : ChanId → Place) (c : ChanId) → IsOpen d
    → IsFree (place_over d place) c → c.number ≢ listener.number
free_number d place c listens free same =
    let vacant : IsVacant (door_place d).standing
    = subst (λ n. IsVacant (place_over d place (channel n 0)).standing) same (free.vacant 0) in
    subst IsVacant listens vacant

-- a listener or a link that stands as it is seen isn't the line's where that stands otherwise
linked_other : (d : Door) (place : ChanId → Place) (c : ChanId) → IsLinked (place_over d place c).standing
    → c ≢ listener
linked_other d place c linked same =
    never d (subst (λ k. IsLinked (place_over d place k).standing) same linked)
  where
    never : (d : Door) → IsLinked (door_place d).standing → ⊥
    never door.Unasked is = is
    never (door.Open at) is = is
    never (door.Closed at) is = is

stands_other : (d : Door) (place : ChanId → Place) (c : ChanId) (s : Standing) → s ≢ standing.Nothing
    → s ≢ standing.Listening → s ≢ standing.Gone → (place_over d place c).standing ≡ s → c ≢ listener
stands_other d place c s some other there stands same =
    never d (sym (ap (λ k. (place_over d place k).standing) same) ∙ stands)
  where
    never : (d : Door) → (door_place d).standing ≡ s → ⊥
    never door.Unasked is = some (sym is)
    never (door.Open at) is = other (sym is)
    never (door.Closed at) is = there (sym is)

-- the net's calls keep what is spare
spare_on : (d : Door) (c : ChanId) (before now : ChanId → Place) → c ≢ listener → IsSameBut c before now
    → (IsOpen d → c.number ≡ listener.number → before c ≡ never_asked → now c ≡ never_asked) → IsSpare d before
    → IsSpare d now
spare_on d c before now apart others here spare = record {
  unasked = others listener (λ same. apart (sym same)) ∙ spare.unasked;
  none = λ opened s. elim (channel_is_or_not (channel listener.number s) c) [
    | inl same ↦
        ap now same
        ∙ here opened (sym (ap (λ (k : ChanId). k.number) same)) (ap before (sym same) ∙ spare.none opened s)
    | inr other ↦ others (channel listener.number s) other ∙ spare.none opened s
  ];
}

pub spare_same : (d : Door) (before now : ChanId → Place) → ((c : ChanId) → now c ≡ before c) → IsSpare d before
    → IsSpare d now
spare_same d before now same spare = record {
  unasked = same listener ∙ spare.unasked;
  none = λ opened s. same (channel listener.number s) ∙ spare.none opened s;
}

-- ---- readiness

pub ready_same : (r : Ready) (before now : ChanNo → ℕ) (n : ChanNo) → now n ≡ before n
    → ready_over r now n ≡ ready_over r before n
ready_same ready.Net before now n same = same
ready_same ready.Links before now n same = ap (λ ops. if n.0 == 0 then 0 else ops) same
ready_same ready.Line before now n same = refl
ready_same ready.Nothing before now n same = refl

-- what a link's number is told ready for is told by the net
module _ (op : ℕ) (none : is_within op 0 ≡ false) (other : is_within op 16 ≡ false) where
  told_by_net : (r : Ready) (of_net : ChanNo → ℕ) (n : ChanNo) → IsTrue (is_within op (ready_over r of_net n))
      → (z : ChanNo → ℕ) → ready_over r z n ≡ z n
  told_by_net ready.Net of_net n told z = refl
  told_by_net ready.Links of_net n told z = by_test (n.0 == 0) told
    where
      by_test : (t : Bool) → IsTrue (is_within op (if t then 0 else of_net n)) → (if t then 0 else z n) ≡ z n
      by_test true is = absurd (cc (sym is ∙ none))
      by_test false is = refl
  told_by_net ready.Line of_net n told z = by_test (n.0 == 0) told
    where
      by_test : (t : Bool) → IsTrue (is_within op (if t then 16 else 0)) → (if t then 16 else 0) ≡ z n
      by_test true is = absurd (cc (sym is ∙ other))
      by_test false is = absurd (cc (sym is ∙ none))
  told_by_net ready.Nothing of_net n told z = absurd (cc (sym told ∙ none))

making_none : (b : Bool) → ready_after_making b 0 ≡ 0
making_none true = refl
making_none false = refl

close_none : (s : Standing) → ready_after_close s 0 ≡ 0
close_none standing.Nothing = refl
close_none standing.Listening = refl
close_none standing.Connecting = refl
close_none standing.Linked = refl
close_none standing.Shut = refl
close_none standing.Gone = refl

-- something was made, and not under the listener's number while the line is told of
making_over : (r : Ready) (before now : ChanNo → ℕ) (n : ChanNo) (b : Bool) → (r ≡ ready.Line → n ≢ listener.number)
    → now n ≡ ready_after_making b (before n) → ready_over r now n ≡ ready_after_making b (ready_over r before n)
making_over ready.Net before now n b line is = is
making_over ready.Links before now n b line is = by_test (n.0 == 0)
  where
    by_test : (t : Bool) → (if t then 0 else now n) ≡ ready_after_making b (if t then 0 else before n)
    by_test true = sym (making_none b)
    by_test false = is
making_over ready.Line before now n b line is =
    let none : ready_over ready.Line before n ≡ 0
    = ap (λ t. if t then 16 else 0) (ne_eqb n.0 0 (number_differs n listener.number (line refl))) in
    none ∙ sym (ap (ready_after_making b) none ∙ making_none b)
making_over ready.Nothing before now n b line is = sym (making_none b)

closing_over : (r : Ready) (before now : ChanNo → ℕ) (n : ChanNo) (s : Standing)
    → (r ≡ ready.Line → n ≡ listener.number → s ≡ standing.Nothing) → now n ≡ ready_after_close s (before n)
    → ready_over r now n ≡ ready_after_close s (ready_over r before n)
closing_over ready.Net before now n s line is = is
closing_over ready.Links before now n s line is = by_test (n.0 == 0)
  where
    by_test : (t : Bool) → (if t then 0 else now n) ≡ ready_after_close s (if t then 0 else before n)
    by_test true = sym (close_none s)
    by_test false = is
closing_over ready.Line before now n s line is = elim (is_or_not n listener.number) [
  | inl same ↦ sym (ap (λ t. ready_after_close t (ready_over ready.Line before n)) (line refl same))
  | inr other ↦
      let none : ready_over ready.Line before n ≡ 0
      = ap (λ t. if t then 16 else 0) (ne_eqb n.0 0 (number_differs n listener.number other)) in
      none ∙ sym (ap (ready_after_close s) none ∙ close_none s)
]
closing_over ready.Nothing before now n s line is = sym (close_none s)

-- ---- places, as they are seen after the net's calls

seen_listen : (result : Result (Unit {0}) Failed) (at : Addr) (p : Place)
    → seen (place_after_listen result at p) ≡ place_after_listen result at (seen p)
seen_listen (Ok done) at p = refl
seen_listen (Err failed) at p = refl

seen_connect : (result : Result Bool Failed) (to : Addr) → seen (place_after_connect result to)
    ≡ place_after_connect result to
seen_connect (Ok true) to = refl
seen_connect (Ok false) to = refl
seen_connect (Err failed) to = refl

seen_finish : (result : Result Bool Failed) (p : Place) → seen (place_after_finish result p)
    ≡ place_after_finish result (seen p)
seen_finish (Ok true) p = refl
seen_finish (Ok false) p = refl
seen_finish (Err failed) p = refl

seen_shut : (result : Result (Unit {0}) Failed) (p : Place) → seen (place_after_shut result p)
    ≡ place_after_shut result (seen p)
seen_shut (Ok done) p = refl
seen_shut (Err failed) p = refl

-- ---- the net's calls, as they are seen

module _ (r : Ready) (d : Door) (early : Bool) (put : List ChanId) (c : ChanId) (v w : NetView) where
  abbrev old : NetView
  old = lane_view r d early put v

  abbrev new : NetView
  new = lane_view r d early put w

  place_then : (f : Place → Place) → c ≢ listener → ((p : Place) → seen (f p) ≡ f (seen p)) → w.place c ≡ f (v.place c)
      → new.place c ≡ f (old.place c)
  place_then f apart along is =
      place_other d w.place c apart ∙ ap seen is ∙ along (v.place c) ∙ ap f (sym (place_other d v.place c apart))

  cause_over : {T E : Type 0} (result : Result T E) → c ≢ listener → HasCause (v.faults c) (w.faults c) result
      → HasCause (old.faults c) (new.faults c) result
  cause_over result apart cause =
      subst (λ n. HasCause n (new.faults c) result) (sym (faults_other v.faults c apart))
      (subst (λ n. HasCause (v.faults c) n result) (sym (faults_other w.faults c apart)) cause)

  others_over : IsSameBut c v.faults w.faults → IsSameBut c old.faults new.faults
  others_over same k other = faults_same v.faults w.faults k (same k other)

  places_over : IsSameBut c v.place w.place → IsSameBut c old.place new.place
  places_over same k other = place_same d v.place w.place k (same k other)

  else_over : IsSameBut c.number v.ready w.ready → IsSameBut c.number old.ready new.ready
  else_over same n other = ready_same r v.ready w.ready n (same n other)

  -- at a channel of which the net told this
  ready_told : (op : ℕ) → is_within op 0 ≡ false → is_within op 16 ≡ false
      → IsTrue (is_within op (old.ready c.number)) → (f : ℕ → ℕ) → w.ready c.number ≡ f (v.ready c.number)
      → new.ready c.number ≡ f (old.ready c.number)
  ready_told op none other told f is =
      told_by_net op none other r v.ready c.number told w.ready ∙ is
      ∙ ap f (sym (told_by_net op none other r v.ready c.number told v.ready))

  module _ (told : IsToldOpen r d) where
    -- ---- making

    module _ (apart : c ≢ listener) (free : IsFree old.place c) where
      made_ready : (w.ready c.number ≡ ready_after_making (is_there (w.place c).standing) (v.ready c.number))
          → new.ready c.number ≡ ready_after_making (is_there (new.place c).standing) (old.ready c.number)
      made_ready is =
          making_over r v.ready w.ready c.number (is_there (w.place c).standing)
          (λ line. free_number d v.place c (told line) free) is
          ∙ ap (λ (s : Standing). ready_after_making (is_there s) (old.ready c.number))
          (sym (standing_other d w.place c apart))

      made_spare : IsSameBut c v.place w.place → IsSpare d v.place → IsSpare d w.place
      made_spare same spare =
          spare_on d c v.place w.place apart same (λ listens number _. absurd (free_number d v.place c listens free number))
          spare

      pub listens_over : (at : Addr) (result : Result (Unit {0}) Failed) → Listens c at v w result
          → Listens c at old new result
      listens_over at result is = record {
        cause = cause_over result apart is.cause;
        others = others_over is.others;
        links = is.links;
        ready = made_ready is.ready;
        ready_else = else_over is.ready_else;
        place = place_then (place_after_listen result at) apart (seen_listen result at) is.place;
        places = places_over is.places;
        accepted = refl;
        polls = ap (polls_over early) is.polls;
        shown = refl;
      }

      pub listens_spare : (at : Addr) (result : Result (Unit {0}) Failed) → Listens c at v w result → IsSpare d v.place
          → IsSpare d w.place
      listens_spare at result is spare = made_spare is.places spare

      pub connects_over : (to : Addr) (result : Result Bool Failed) → Connects c to v w result
          → Connects c to old new result
      connects_over to result is = record {
        cause = cause_over result apart is.cause;
        others = others_over is.others;
        links = is.links;
        ready = made_ready is.ready;
        ready_else = else_over is.ready_else;
        place = place_other d w.place c apart ∙ ap seen is.place ∙ seen_connect result to;
        places = places_over is.places;
        accepted = refl;
        polls = ap (polls_over early) is.polls;
        shown = refl;
      }

      pub connects_spare : (to : Addr) (result : Result Bool Failed) → Connects c to v w result → IsSpare d v.place
          → IsSpare d w.place
      connects_spare to result is spare = made_spare is.places spare

    -- ---- closing

    module _ (apart : c ≢ listener) (spare : IsSpare d v.place) (is : Closes c v w) where
      never_here : IsOpen d → c.number ≡ listener.number → v.place c ≡ never_asked
      never_here opened number = ap (λ n. v.place (channel n c.serial)) number ∙ spare.none opened c.serial

      pub closes_over : Closes c old new
      closes_over = record {
        faults = λ k. faults_same v.faults w.faults k (is.faults k);
        links = is.links;
        ready = closing_over r v.ready w.ready c.number (v.place c).standing
            (λ line number. ap (λ (p : Place). p.standing) (never_here (told line) number)) is.ready
            ∙ ap (λ (s : Standing). ready_after_close s (old.ready c.number)) (sym (standing_other d v.place c apart));
        ready_else = else_over is.ready_else;
        place = place_then place_after_close apart (λ p. refl) is.place;
        places = places_over is.places;
        accepted = refl;
        polls = ap (polls_over early) is.polls;
        shown = refl;
      }

      pub closes_spare : IsSpare d w.place
      closes_spare =
          spare_on d c v.place w.place apart is.places (λ listens number never. is.place ∙ ap place_after_close never) spare

  -- ---- going on

  pub finish_net : MayFinish c old → MayFinish c v
  finish_net may =
      let apart = stands_other d v.place c standing.Connecting (λ is. absurd (cc)) (λ is. absurd (cc)) (λ is. absurd (cc))
      may.connecting in
      record {
        ready = subst (λ ops. IsTrue (is_within 8 ops)) (told_by_net 8 refl refl r v.ready c.number may.ready v.ready)
            may.ready;
        connecting = sym (standing_other d v.place c apart) ∙ may.connecting;
      }

  pub finishes_over : (result : Result Bool Failed) → MayFinish c old → Finishes c v w result → Finishes c old new result
  finishes_over result may is =
      let apart = stands_other d v.place c standing.Connecting (λ is. absurd (cc)) (λ is. absurd (cc)) (λ is. absurd (cc))
      may.connecting in
      record {
        cause = cause_over result apart is.cause;
        others = others_over is.others;
        links = is.links;
        ready = ready_told 8 refl refl may.ready (ready_after_connect result) is.ready;
        ready_else = else_over is.ready_else;
        place = place_then (place_after_finish result) apart (seen_finish result) is.place;
        places = places_over is.places;
        accepted = refl;
        polls = ap (polls_over early) is.polls;
        shown = refl;
      }

  pub finishes_spare : (result : Result Bool Failed) → MayFinish c old → Finishes c v w result → IsSpare d v.place
      → IsSpare d w.place
  finishes_spare result may is spare =
      let apart = stands_other d v.place c standing.Connecting (λ is. absurd (cc)) (λ is. absurd (cc)) (λ is. absurd (cc))
      may.connecting in
      spare_on d c v.place w.place apart is.places
      (λ listens number never.
      let stands : standing.Nothing ≡ standing.Connecting
      = sym (ap (λ (p : Place). p.standing) never) ∙ (finish_net may).connecting in absurd (cc))
      spare

  pub read_net : MayRead c old → MayRead c v
  read_net may =
      let apart = linked_other d v.place c may.linked in
      record {
        ready = subst (λ ops. IsTrue (is_within 1 ops)) (told_by_net 1 refl refl r v.ready c.number may.ready v.ready)
            may.ready;
        linked = subst IsLinked (standing_other d v.place c apart) may.linked;
      }

  pub reads_over : (before now : List ℕ) (result : Result Got Failed) → MayRead c old → Reads c v w before now result
      → Reads c old new before now result
  reads_over before now result may is = record {
    cause = cause_over result (linked_other d v.place c may.linked) is.cause;
    others = others_over is.others;
    got = is.got;
    link = is.link;
    links = is.links;
    ready = ready_told 1 refl refl may.ready (ready_after_read result) is.ready;
    ready_else = else_over is.ready_else;
    places = λ k. place_same d v.place w.place k (is.places k);
    accepted = refl;
    polls = ap (polls_over early) is.polls;
    shown = refl;
  }

  pub write_net : MayWrite c old → MayWrite c v
  write_net may =
      let apart = stands_other d v.place c standing.Linked (λ is. absurd (cc)) (λ is. absurd (cc)) (λ is. absurd (cc))
      may.linked in
      record {
        ready = subst (λ ops. IsTrue (is_within 4 ops)) (told_by_net 4 refl refl r v.ready c.number may.ready v.ready)
            may.ready;
        linked = sym (standing_other d v.place c apart) ∙ may.linked;
      }

  pub writes_over : (bytes : List ℕ) (result : Result Put Failed) → MayWrite c old → Writes c v w bytes result
      → Writes c old new bytes result
  writes_over bytes result may is =
      let apart = stands_other d v.place c standing.Linked (λ is. absurd (cc)) (λ is. absurd (cc)) (λ is. absurd (cc))
      may.linked in
      record {
        cause = cause_over result apart is.cause;
        others = others_over is.others;
        put = is.put;
        link = is.link;
        links = is.links;
        ready = ready_told 4 refl refl may.ready (ready_after_write result) is.ready;
        ready_else = else_over is.ready_else;
        places = λ k. place_same d v.place w.place k (is.places k);
        accepted = refl;
        polls = ap (polls_over early) is.polls;
        shown = refl;
      }

  pub shut_net : (old.place c).standing ≡ standing.Linked → (v.place c).standing ≡ standing.Linked
  shut_net stands =
      let apart = stands_other d v.place c standing.Linked (λ is. absurd (cc)) (λ is. absurd (cc)) (λ is. absurd (cc))
      stands in
      sym (standing_other d v.place c apart) ∙ stands

  pub shuts_over : (result : Result (Unit {0}) Failed) → (old.place c).standing ≡ standing.Linked → Shuts c v w result
      → Shuts c old new result
  shuts_over result stands is =
      let apart = stands_other d v.place c standing.Linked (λ is. absurd (cc)) (λ is. absurd (cc)) (λ is. absurd (cc))
      stands in
      record {
        cause = cause_over result apart is.cause;
        others = others_over is.others;
        link = is.link;
        links = is.links;
        ready = λ n. ready_same r v.ready w.ready n (is.ready n);
        place = place_then (place_after_shut result) apart (seen_shut result) is.place;
        places = places_over is.places;
        accepted = refl;
        polls = ap (polls_over early) is.polls;
        shown = refl;
      }

  pub shuts_spare : (result : Result (Unit {0}) Failed) → (old.place c).standing ≡ standing.Linked → Shuts c v w result
      → IsSpare d v.place → IsSpare d w.place
  shuts_spare result stands is spare =
      let apart = stands_other d v.place c standing.Linked (λ is. absurd (cc)) (λ is. absurd (cc)) (λ is. absurd (cc))
      stands in
      spare_on d c v.place w.place apart is.places
      (λ listens number never.
      let linked : standing.Nothing ≡ standing.Linked
      = sym (ap (λ (p : Place). p.standing) never) ∙ shut_net stands in absurd (cc))
      spare

-- ---- polls

-- a poll of the net, where the line didn't end early
pub polls_count : {T : Type 0} (e f : Bool) (n o : ℕ) (result : Result T PollError) → e ≡ false → f ≡ false
    → CountsFaults Fault n o result → CountsFaults Fault (polls_over e n) (polls_over f o) result
polls_count {T} e f n o result before now counts =
    subst (λ (b : Bool). CountsFaults Fault (polls_over b n) (polls_over f o) result) (sym before)
    (subst (λ (b : Bool). CountsFaults Fault n (polls_over b o) result) (sym now) counts)

-- the line ended early
pub early_counts : {T : Type 0} (e f : Bool) (n : ℕ) → e ≡ false → f ≡ true
    → CountsFaults {T = T} Fault (polls_over e n) (polls_over f n) (Err Fault)
early_counts {T} e f n before now =
    subst (λ (b : Bool). CountsFaults {T = T} Fault (polls_over b n) (polls_over f n) (Err Fault)) (sym before)
    (subst (λ (b : Bool). CountsFaults {T = T} Fault n (polls_over b n) (Err Fault)) (sym now)
    (record {
      later = omega arith;
      still = λ apart. absurd (apart refl);
      failed = λ is. inl (omega arith);
    }))

-- a lane shows no polls
pub shows_none : (asked : List LookedKey) (mode : Mode) (result : Result Told PollError)
    → AddsPollFor None None asked result
shows_none asked mode result = record { mode = mode; adds = adds result }
  where
    adds : (answer : Result Told PollError) → AddsPoll None None asked mode answer
    adds (Ok told) = refl
    adds (Err error) = refl
