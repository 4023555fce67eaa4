-- Pieces of work one after the other.
use Rattle.std.proofs.Common.{◌≡◌, ◌≢◌, ℕ, ◌≤◌, inl, inr, refl}
use Rattle.std.proofs.Common.{sym, ap, subst, ◌∙◌, arith}
use Rattle.std.proofs.Math.Nat.{eq-or-lt_of_le}
use Rattle.nio_base.specs.declared.numbers.ChanId.{ChanId}
use Rattle.nio_bytes.specs.Cause.{Rose}
use Rattle.nio_base.specs.declared.numbers.ChanNo.{ChanNo}
use Rattle.nio_link.proofs.Channels.{channel_is_or_not}
use Rattle.nio_link.specs.Links.{IsSameBut}
use Rattle.nio_link.specs.Places.{IsVacant, closed, place_after_close}
use Rattle.nio_link.specs.declared.place.Place.{Place}
use Rattle.nio_link.specs.declared.place.Standing.{Standing}
use Rattle.nio_link.specs.declared.place.Standing.TheVariants as standing
use Rattle.nio_link.specs.Nets.{Members, Closes, view_of}
use Rattle.nio_serve.specs.Nets.{Works, Accepts, Begins, IsQuiet, OnlyCloses}

pub rose_from : (before mid now : ℕ) → before ≤ mid → Rose mid now → Rose before now
rose_from before mid now later (inl rose) = inl (omega arith)
rose_from before mid now later (inr most) = inr most

pub rose_on : (before mid now : ℕ) → before ≤ mid → Rose before mid → mid ≤ now → Rose before now
rose_on before mid now later (inl rose) more = inl (omega arith)
rose_on before mid now later (inr full) more =
    elim (eq-or-lt_of_le more) [ inl same ↦ inr (sym same ∙ full) | inr less ↦ inl (omega arith) ]

-- ---- channels

pub later_all : (before now : ChanId → ℕ) (own : ChanId) → before own ≤ now own → IsSameBut own before now
    → (c : ChanId) → before c ≤ now c
later_all before now own here others c = elim (channel_is_or_not c own) [
  | inl same ↦ subst (λ x. before x ≤ now x) (sym same) here
  | inr other ↦ let at : now c ≡ before c = others c other in omega arith
]

-- ---- closing

pub closed_vacant : (s : Standing) → IsVacant (closed s)
closed_vacant standing.Nothing = tt
closed_vacant standing.Listening = tt
closed_vacant standing.Connecting = tt
closed_vacant standing.Linked = tt
closed_vacant standing.Shut = tt
closed_vacant standing.Gone = tt

closed_again : (s : Standing) → closed (closed s) ≡ closed s
closed_again standing.Nothing = refl
closed_again standing.Listening = refl
closed_again standing.Connecting = refl
closed_again standing.Linked = refl
closed_again standing.Shut = refl
closed_again standing.Gone = refl

pub vacant_after_close : (before now : Place) → now ≡ place_after_close before → IsVacant now.standing
vacant_after_close before now is = subst (λ (p : Place). IsVacant p.standing) (sym is) (closed_vacant before.standing)

pub vacant_stays : (before now : Place) → OnlyCloses before now → IsVacant before.standing → IsVacant now.standing
vacant_stays before now (inl same) vacant = subst (λ (p : Place). IsVacant p.standing) (sym same) vacant
vacant_stays before now (inr is) vacant = vacant_after_close before now is

-- what is closed stays so
pub gone_stays : (before now : Place) → OnlyCloses before now → before.standing ≡ standing.Gone
    → now.standing ≡ standing.Gone
gone_stays before now (inl same) gone = ap (λ (p : Place). p.standing) same ∙ gone
gone_stays before now (inr is) gone = ap (λ (p : Place). p.standing) is ∙ ap closed gone

-- closing keeps what a channel was asked to be
pub role_stays : (before now : Place) → OnlyCloses before now → now.role ≡ before.role
role_stays before now (inl same) = ap (λ (p : Place). p.role) same
role_stays before now (inr is) = ap (λ (p : Place). p.role) is

closes_then : (before mid now : Place) → OnlyCloses before mid → OnlyCloses mid now → OnlyCloses before now
closes_then before mid now (inl same) second = subst (λ p. OnlyCloses p now) same second
closes_then before mid now (inr is) (inl same) = inr (same ∙ is)
closes_then before mid now (inr is) (inr again) =
    let twice : place_after_close mid ≡ place_after_close (place_after_close before) = ap place_after_close is in
    let once : place_after_close (place_after_close before) ≡ place_after_close before =
    ap (λ (s : Standing). let p : Place = record { role = before.role; standing = s } in p)
    (closed_again before.standing) in
    inr (again ∙ (twice ∙ once))

module _ {N : Type 0} (n : Members N) where
  pub works_none : (a b : ChanId) (x : N) → Works n a b x x
  works_none a b x = record {
    links = λ c _ _. refl;
    places = λ c _ _. refl;
    faults = λ c _ _. refl;
    ready = λ c _ _. refl;
    later = λ c. omega arith;
    roles = λ c. refl;
    polls = refl;
    accepted = refl;
  }

  pub works_then : (a b : ChanId) (x y z : N) → Works n a b x y → Works n a b y z → Works n a b x z
  works_then a b x y z first second = record {
    links = λ c not_a not_b. second.links c not_a not_b ∙ first.links c not_a not_b;
    places = λ c not_a not_b. second.places c not_a not_b ∙ first.places c not_a not_b;
    faults = λ c not_a not_b. second.faults c not_a not_b ∙ first.faults c not_a not_b;
    ready = λ c not_a not_b. second.ready c not_a not_b ∙ first.ready c not_a not_b;
    later = λ c. omega (arith, first.later c, second.later c);
    roles = λ c. second.roles c ∙ first.roles c;
    polls = second.polls ∙ first.polls;
    accepted = second.accepted ∙ first.accepted;
  }

  -- as work on two links
  pub works_first : (a b : ChanId) (x y : N) → Works n a a x y → Works n a b x y
  works_first a b x y work = record {
    links = λ c not_a not_b. work.links c not_a not_a;
    places = λ c not_a not_b. work.places c not_a not_a;
    faults = λ c not_a not_b. work.faults c not_a not_a;
    ready = λ c not_a not_b. work.ready c not_a not_a;
    later = work.later;
    roles = work.roles;
    polls = work.polls;
    accepted = work.accepted;
  }

  pub works_swapped : (a b : ChanId) (x y : N) → Works n a b x y → Works n b a x y
  works_swapped a b x y work = record {
    links = λ c not_b not_a. work.links c not_a not_b;
    places = λ c not_b not_a. work.places c not_a not_b;
    faults = λ c not_b not_a. work.faults c not_a not_b;
    ready = λ c not_b not_a. work.ready c not_a not_b;
    later = work.later;
    roles = work.roles;
    polls = work.polls;
    accepted = work.accepted;
  }

  pub works_second : (a b : ChanId) (x y : N) → Works n b b x y → Works n a b x y
  works_second a b x y work = works_swapped b a x y (works_first b a x y work)

  -- a connection was accepted, and then begun
  pub begins_then : (client target : ChanId) (x y z : N) → Accepts n client x y → Begins n client target y z
      → Begins n client target x z
  begins_then client target x y z first second = record {
    links = λ c. second.links c ∙ first.links c;
    places = λ c not_client not_target. second.places c not_client not_target ∙ first.places c not_client;
    faults = λ c not_target. second.faults c not_target ∙ first.faults c;
    ready = λ c not_client not_target. second.ready c not_client not_target ∙ first.ready c not_client;
    later = λ c. omega (arith, first.faults c, second.later c);
    polls = second.polls ∙ first.polls;
  }

  pub quiet_then : (x y z : N) → IsQuiet n x y → IsQuiet n y z → IsQuiet n x z
  quiet_then x y z first second = record {
    links = λ c. second.links c ∙ first.links c;
    places = λ c. closes_then (n.place x c) (n.place y c) (n.place z c) (first.places c) (second.places c);
    faults = λ c. second.faults c ∙ first.faults c;
    polls = second.polls ∙ first.polls;
    accepted = second.accepted ∙ first.accepted;
  }

  -- work on two links, of which some were then closed
  pub works_quiet : (a b : ChanId) (x y z : N) → Works n a b x y → IsQuiet n y z
      → ((c : ChanNo) → c ≢ a.number → c ≢ b.number → n.ready z c ≡ n.ready y c)
      → ((c : ChanId) → c ≢ a → c ≢ b → n.place z c ≡ n.place y c) → Works n a b x z
  works_quiet a b x y z work quiet ready places = record {
    links = λ c not_a not_b. quiet.links c ∙ work.links c not_a not_b;
    places = λ c not_a not_b. places c not_a not_b ∙ work.places c not_a not_b;
    faults = λ c not_a not_b. quiet.faults c ∙ work.faults c not_a not_b;
    ready = λ c not_a not_b. ready c not_a not_b ∙ work.ready c not_a not_b;
    later = λ c. omega (arith, work.later c, quiet.faults c);
    roles = λ c. role_stays (n.place y c) (n.place z c) (quiet.places c) ∙ work.roles c;
    polls = quiet.polls ∙ work.polls;
    accepted = quiet.accepted ∙ work.accepted;
  }

  -- where one channel was closed
  closes_one : (own : ChanId) (x y : N) → n.place y own ≡ place_after_close (n.place x own)
      → IsSameBut own (n.place x) (n.place y) → (c : ChanId) → OnlyCloses (n.place x c) (n.place y c)
  closes_one own x y here others c = elim (channel_is_or_not c own) [
    | inl same ↦ inr (ap (n.place y) same ∙ here ∙ ap (λ (k : ChanId). place_after_close (n.place x k)) (sym same))
    | inr other ↦ inl (others c other)
  ]

  pub quiet_close : (own : ChanId) (x y : N) → Closes own (view_of n x) (view_of n y) → IsQuiet n x y
  quiet_close own x y closes = record {
    links = closes.links;
    places = closes_one own x y closes.place closes.places;
    faults = closes.faults;
    polls = closes.polls;
    accepted = closes.accepted;
  }
