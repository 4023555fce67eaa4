-- The net that accepts.
use Rattle.std.proofs.Common.{◌≡◌, ◌≢◌, ℕ, zero, suc, ◌+◌, ◌*◌, ◌<◌, ◌≤◌, ◌⊎◌, inl, inr, Bool, true, false, Ok, Err, Result, OnErr, OnOk}
use Rattle.std.proofs.Common.{All, List, [], ◌∷◌, ◌++◌, refl, sym, ap, subst, ◌∙◌, arith, length, length-append, get_or}
use Rattle.std.specs.Prelude.{AllPairs}
use Rattle.std.proofs.lemmas.Bool.{cases_eq}
use Rattle.std.proofs.lemmas.List.{append-nil}
use Rattle.std.proofs.lemmas.List.Elements.{All-cons}
use Rattle.std.proofs.lemmas.List.Quantifiers.{all_pairs_push}
use Rattle.nio_base.specs.declared.numbers.ChanId.{ChanId}
use Rattle.nio_bytes.specs.Cause.{Rose}
use Rattle.nio_link.specs.Links.{IsUnused, IsSameBut}
use Rattle.nio_link.specs.Nets.{Members, view_of}
use Rattle.nio_link.specs.Places.{IsFree, IsVacant, channel, never_asked, place_after_accept}
use Rattle.nio_link.specs.declared.place.Place.{Place}
use Rattle.nio_link.specs.declared.place.Role.TheVariants as role
use Rattle.nio_link.specs.declared.place.Standing.TheVariants as standing
use Rattle.nio_relay.specs.declared.plan.ProxyPlan.{ProxyPlan}
use Rattle.nio_link.proofs.Channels.{channel_is_or_not}
use Rattle.nio_serve.proofs.Working.{rose_from}
use Rattle.nio_serve.specs.Serving.{listener, IsAtMost, IsFresh}
use Rattle.nio_reactor.proofs.Clients.{all_below, client_else, client_listener}
use Rattle.nio_reactor.specs.Accepting.{Accepts, HasAccepted, IsAccepting, client_at, clients_below}
use Rattle.nio_reactor.specs.declared.many.ManyError.{ManyError}
use Rattle.nio_reactor.specs.declared.many.ManyError.TheVariants.{NetFault}
use Rattle.nio_reactor.specs.Many.{LeavesAcceptor}

-- ---- the clients of the first connections

-- what is none of the first and not the next is none of those and the next
later_than : (o k : ℕ) → k < o + 1 → k ≢ o → k < o
later_than o k few other = omega (arith, few, other)

-- a channel that is none of the clients
none_below : (n : ℕ) (c : ChanId) → All (λ own. c ≢ own) (listener ∷ clients_below n) → (k : ℕ) → k < n
    → c ≢ client_at k
none_below zero c none k few = absurd (omega (arith, few))
none_below (suc n) c none k few = elim (cases_eq k n) [
  | inl same ↦ λ is.
      none (suc (length (clients_below n))) c (omega (arith, length-append (clients_below n) (client_at n ∷ [])))
      (is ∙ ap client_at same ∙ sym (last_is (clients_below n) (client_at n) c))
  | inr other ↦
      none_below n c (λ i d within. fewer i d within) k (later_than n k (omega (arith, few)) other)
]
  where
    last_is : (xs : List ChanId) (x d : ChanId) → get_or (xs ++ x ∷ []) (length xs) d ≡ x
    last_is [] x d = refl
    last_is (y ∷ xs) x d = last_is xs x d

    still : (xs : List ChanId) (x d : ChanId) (i : ℕ) → i < length xs → get_or (xs ++ x ∷ []) i d ≡ get_or xs i d
    still [] x d i within = absurd (omega (arith, within))
    still (y ∷ xs) x d zero within = refl
    still (y ∷ xs) x d (suc i) within = still xs x d i (omega (arith, within))

    fewer : (i : ℕ) (d : ChanId) → i < length (listener ∷ clients_below n)
        → c ≢ get_or (listener ∷ clients_below n) i d
    fewer i d within is =
        none i d (omega (arith, within, length-append (clients_below n) (client_at n ∷ [])))
        (is ∙ sym (still (listener ∷ clients_below n) (client_at n) d i within))

-- the listener and the clients are all different
pub clients_differ : (n : ℕ) → AllPairs (λ a b. a ≢ b) (listener ∷ clients_below n)
clients_differ zero = λ i j d less few. absurd (omega (arith, less, few))
clients_differ (suc n) =
    all_pairs_push (λ a b. a ≢ b) (listener ∷ clients_below n) (client_at n) (clients_differ n)
    (All-cons (λ c. c ≢ client_at n) listener (clients_below n) (λ is. client_listener n (sym is))
    (all_below (λ c. c ≢ client_at n) n (λ k few. client_else k n (λ is. absurd (omega (arith, is, few))))))

module _ {N : Type 0} (n : Members N) where
  accepting_next : (k : ℕ) (x y : N) → IsAccepting n k x → ((c : ChanId) → n.link y c ≡ n.link x c)
      → n.place y (client_at k) ≡ record { role = role.Accepted listener; standing = standing.Gone }
      → IsSameBut (client_at k) (n.place x) (n.place y) → IsAccepting n (k + 1) y
  accepting_next k x y was links here others = record {
    fresh = λ c. subst IsUnused (sym (links c)) (was.fresh c);
    vacant = λ c other. elim (channel_is_or_not c (client_at k)) [
      | inl same ↦ subst (λ (p : Place). IsVacant p.standing) (sym (ap (n.place y) same ∙ here)) tt
      | inr apart ↦ subst (λ (p : Place). IsVacant p.standing) (sym (others c apart)) (was.vacant c other)
    ];
    clients = λ j few. elim (cases_eq j k) [
      | inl same ↦ ap (λ (p : Place). p.role) (ap (λ i. n.place y (client_at i)) same ∙ here)
      | inr apart ↦
          ap (λ (p : Place). p.role) (others (client_at j) (client_else j k apart))
          ∙ was.clients j (later_than k j few apart)
    ];
    rest = λ c other apart.
        others c (apart k (omega arith)) ∙ was.rest c other (λ j few. apart j (omega (arith, few)));
  }

  -- a link was accepted, and taken out
  pub accepting_one : (k : ℕ) (client : ChanId) (x y : N) → client ≡ client_at k → IsAccepting n k x
      → ((c : ChanId) → n.link y c ≡ n.link x c)
      → n.place y client ≡ record { role = role.Accepted listener; standing = standing.Gone }
      → IsSameBut client (n.place x) (n.place y) → IsAccepting n (k + 1) y
  accepting_one k client x y its was links here others =
      accepting_next k x y was links (ap (n.place y) (sym its) ∙ here)
      (subst (λ c. IsSameBut c (n.place x) (n.place y)) its others)

  -- no link was accepted
  pub accepting_still : (k : ℕ) (x y : N) → IsAccepting n k x → ((c : ChanId) → n.link y c ≡ n.link x c)
      → ((c : ChanId) → c ≢ listener → n.place y c ≡ n.place x c) → IsAccepting n k y
  accepting_still k x y was links same = record {
    fresh = λ c. subst IsUnused (sym (links c)) (was.fresh c);
    vacant = λ c other. subst (λ (p : Place). IsVacant p.standing) (sym (same c other)) (was.vacant c other);
    clients = λ j few. ap (λ (p : Place). p.role) (same (client_at j) (client_listener j)) ∙ was.clients j few;
    rest = λ c other apart. same c other ∙ was.rest c other apart;
  }

  -- before any is accepted
  pub accepting_first : (x y : N) → IsFresh (view_of n x) → ((c : ChanId) → n.link y c ≡ n.link x c)
      → ((c : ChanId) → c ≢ listener → n.place y c ≡ n.place x c) → IsAccepting n 0 y
  accepting_first x y is links same = record {
    fresh = λ c. subst IsUnused (sym (links c)) (is.carried c);
    vacant = λ c other. subst (λ (p : Place). IsVacant p.standing) (sym (same c other ∙ is.unasked c)) tt;
    clients = λ k few. absurd (omega (arith, few));
    rest = λ c other apart. same c other ∙ is.unasked c;
  }

  -- the channel of the next link can be asked
  pub next_free : (k : ℕ) (x : N) (c : ChanId) → IsAccepting n k x → c ≡ client_at k → IsFree (n.place x) c
  next_free k x c was is = subst (IsFree (n.place x)) (sym is) (record {
    later = λ s more. was.rest (client_at s) (client_listener s)
        (λ j few. client_else s j (λ same. absurd (omega (arith, same, few, more))));
    vacant = λ s. was.vacant (client_at s) (client_listener s);
  })

  -- at the end
  pub left : (plan : ProxyPlan) (k : ℕ) (x y z : N) → IsAccepting n k y → ((c : ChanId) → n.link y c ≡ n.link x c)
      → ((c : ChanId) → n.link z c ≡ n.link y c)
      → ((c : ChanId) → c ≢ listener → n.place z c ≡ n.place y c) → IsVacant (n.place z listener).standing
      → IsAtMost (role.Listener plan.listen) (n.place z listener).role
      → LeavesAcceptor plan (clients_below k) (view_of n x) (view_of n z)
  left plan k x y z was links_y links_z same vacant listens =
      let stands : IsAccepting n k z = accepting_still k y z was links_z same in
      record {
        vacant = λ c. elim (channel_is_or_not c listener) [
          | inl at ↦ subst (λ d. IsVacant (n.place z d).standing) (sym at) vacant
          | inr other ↦ stands.vacant c other
        ];
        listens = listens;
        accepted = all_below (λ c. (n.place z c).role ≡ role.Accepted listener) k stands.clients;
        others = λ c apart. stands.rest c (apart 0 c (omega arith)) (none_below k c apart);
        links = λ c. links_z c ∙ links_y c;
      }

  pub accepts_none : (k : ℕ) (x y : N) → ((c : ChanId) → n.link y c ≡ n.link x c) → n.accepted y ≡ n.accepted x
      → n.faults x listener ≤ n.faults y listener → n.poll_faults x ≤ n.poll_faults y → Accepts n k k x y
  accepts_none k x y links order later polls =
      record { links = links; order = λ start is. order ∙ is; later = later; polls = polls }

  pub accepts_then : (k j o : ℕ) (x y z : N) → Accepts n k j x y → Accepts n j o y z → Accepts n k o x z
  accepts_then k j o x y z first second = record {
    links = λ c. second.links c ∙ first.links c;
    order = λ start is. second.order start (first.order start is);
    later = omega (arith, first.later, second.later);
    polls = omega (arith, first.polls, second.polls);
  }

  -- a fault after other work
  pub fault_then : (k o : ℕ) (x y z : N) → Accepts n k o x y
      → Rose (n.poll_faults y) (n.poll_faults z) ⊎ Rose (n.faults y listener) (n.faults z listener)
      → Rose (n.poll_faults x) (n.poll_faults z) ⊎ Rose (n.faults x listener) (n.faults z listener)
  fault_then k o x y z first (inl rose) =
      inl (rose_from (n.poll_faults x) (n.poll_faults y) (n.poll_faults z) first.polls rose)
  fault_then k o x y z first (inr rose) =
      inr (rose_from (n.faults x listener) (n.faults y listener) (n.faults z listener) first.later rose)

-- ---- answers

pub on_err_any : {T E P : Type 0} (r : Result T E) → P → OnErr r P
on_err_any (Ok done) has = tt
on_err_any (Err error) has = has

-- none has come
pub not_come : (b : Bool) (p q : Place) → b ≡ false → q ≡ place_after_accept (Ok b) listener p → q ≡ p
not_come false p q same is = is
not_come true p q same is = absurd (cc)

pub came : (b : Bool) (p q : Place) → b ≡ true → q ≡ place_after_accept (Ok b) listener p
    → q ≡ record { role = role.Accepted listener; standing = standing.Linked }
came true p q same is = is
came false p q same is = absurd (cc)

-- what the acceptor has come to
pub has_accepted : {N : Type 0} (n : Members N) (plan : ProxyPlan) (x y : N) (k : ℕ) → k ≤ plan.conns
    → Accepts n 0 k x y → LeavesAcceptor plan (clients_below k) (view_of n x) (view_of n y)
    → (r : Result (Unit {0}) ManyError) → OnOk r (k ≡ plan.conns)
    → (r ≡ Err NetFault
    → Rose (n.poll_faults x) (n.poll_faults y) ⊎ Rose (n.faults x listener) (n.faults y listener))
    → HasAccepted n plan x y r
has_accepted n plan x y k few accepts leaves r all fault = record {
  count = k;
  some = few;
  all = all;
  order = accepts.order (n.accepted x) (sym (append-nil (n.accepted x)));
  fault = fault;
  leaves = leaves;
}
