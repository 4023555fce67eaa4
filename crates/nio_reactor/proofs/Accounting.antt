-- Where the links went: from what the lanes show of their lines, once these are settled.
use Rattle.std.proofs.Common.{◌≡◌, ◌≢◌, ℕ, ◌+◌, ◌*◌, ◌<◌, ◌≤◌, inl, inr, ◌⊎◌, Bool, false, IsTrue, IsOk, Ok, Err, Result}
use Rattle.std.proofs.Common.{Option, Some, None, All, refl, sym, ap, subst, ◌∙◌, List, [], ◌∷◌, ◌++◌, map, length}
use Rattle.std.proofs.Common.{slice_get, slice_index_or, arith, length-append, OnOk}
use Rattle.std.proofs.lemmas.Bool.{false_from_ne_true}
use Rattle.std.proofs.lemmas.List.{append-nil, length-map}
use Rattle.std.proofs.lemmas.Option.{get_or_from_slice_get, slice_get_within}
use Rattle.nio_base.specs.declared.numbers.Addr.{Addr}
use Rattle.nio_base.specs.declared.numbers.ChanId.{ChanId}
use Rattle.nio_bytes.specs.Cause.{Rose}
use Rattle.nio_line.specs.Lines.{End as LineEnd, Exit as LineExit}
use Rattle.nio_relay.specs.declared.plan.ProxyPlan.{ProxyPlan}
use Rattle.nio_relay.specs.declared.plan.Served.{Served}
use Rattle.nio_link.specs.Nets.{Members}
use Rattle.nio_serve.specs.declared.serving.ServeError.{ServeError}
use Rattle.nio_serve.specs.declared.serving.ServeError.TheVariants as serve
use Rattle.nio_reactor.proofs.Clients.{length_below as clients_length}
use Rattle.nio_reactor.proofs.Concluding.{at_worker, put_in_at}
use Rattle.nio_reactor.proofs.Handing.{clients_at, handed_all, length_at, none_by, put_is}
use Rattle.nio_reactor.proofs.Lists.{element}
use Rattle.nio_reactor.proofs.Received.{empty}
use Rattle.nio_reactor.proofs.Settling.{Accounts, accounts, share_grows}
use Rattle.nio_reactor.specs.Accepting.{HasSent, clients_below}
use Rattle.nio_reactor.specs.Dealing.{dealt, number_of, share}
use Rattle.nio_reactor.specs.Handing.{handed_by, handovers, put_below}
use Rattle.nio_reactor.specs.Handing.{AccountsForLinks, AreHanded, KeepsLinks}
use Rattle.nio_reactor.specs.Receiving.{AreOwn, AreSettled, HasReceived, HaveReceived, in_hand, is_early, put_number}
use Rattle.nio_reactor.specs.Working.{Concludes, HasWorked, HaveWorked, clients_of}
use Rattle.nio_reactor.specs.declared.handover.Handover.{Handover}
use Rattle.nio_reactor.specs.declared.heard.Heard.{Heard}
use Rattle.nio_reactor.specs.declared.heard.Heard.TheVariants as heard
use Rattle.nio_reactor.specs.declared.many.ManyError.{ManyError}
use Rattle.nio_reactor.specs.declared.many.ManyError.TheVariants as many
use Rattle.nio_reactor.specs.declared.message.Message.{Message}

-- the lines of lanes are their own
pub are_own : {X M : Type 0} (plan : ProxyPlan) (line : X → LineExit M) (worker : X → ℕ) (put : X → List Handover)
    (outcome : X → Result Served ServeError) (before now : List X) → length now ≡ length before
    → HaveReceived plan line worker put outcome before now → AreOwn line worker now
are_own plan line worker put outcome before now count received v x at =
    let less : v < length before = subst (λ n. v < n) count (slice_get_within now v x at) in
    subst (λ y. ((line y).carried ≡ []) ⊎ (worker y ≡ v)) (get_or_from_slice_get now v x x at) (received v x less).own

never_ends : (put : List Handover) → [] ≡ map put_number put ++ None ∷ [] → ⊥
never_ends [] is = absurd (cc)
never_ends (h ∷ put) is = absurd (cc)

all_put : (w v n conns k : ℕ) → n ≤ conns → k ≤ share w v n → k ≡ share w v conns → k ≡ share w v n
all_put w v n conns k more few all = omega (arith, all, few, share_grows w v n conns more)

-- ---- all that the lanes show, of w workers, so many connections and slots; n connections were sent to them

pub record Shown {X L : Type 0} (line : X → LineExit (Message L)) (worker : X → ℕ) (put : X → List Handover)
    (hand : X → List (Option ℕ)) (early : X → Bool) (left : X → ℕ) (w conns slots n : ℕ) (lanes : List X)
    (entries : List (LineEnd (Message L))) : Type 0 where
  pub numbers : (x : X) → map number_of (line x).carried ≡ map put_number (put x) ++ hand x
  pub own : (x : X) → All (λ h. h.worker ≡ worker x) (put x)
  pub count : (x : X) → left x + length (put x) ≡ share w (worker x) conns
  pub within : (x : X) → All (λ h. h.client.number.0 < 2 * share w (worker x) slots) (put x)
  pub in_time : (x : X) → IsTrue (early x) → (hand x ≡ None ∷ []) × (0 < left x)
  pub lanes_are : length lanes ≡ w
  pub entries_are : length entries ≡ w
  pub sent : (v : ℕ) (e : LineEnd (Message L)) → slice_get entries v ≡ Some e
      → map number_of e.carried ≡ dealt w v n ++ None ∷ []
  pub settled : AreSettled line lanes entries
  pub its : AreOwn line worker lanes

pub early_hand : {L : Type 0} (h : Heard L) → IsTrue (is_early h) → in_hand h ≡ None ∷ []
early_hand heard.Nothing is = absurd (cc)
early_hand (heard.Link handed) is = absurd (cc)
early_hand (heard.Refused connection) is = absurd (cc)
early_hand heard.End is = absurd (cc)
early_hand heard.Early is = refl
early_hand (heard.Over gone) is = absurd (cc)

-- what was sent on each line, where nothing was sent before
pub sent_all : {L : Type 0} (accepted_before accepted_now : List ChanId) (before now : List (LineEnd (Message L)))
    (w : ℕ) (has : HasSent accepted_before accepted_now before now) → All (λ e. e.carried ≡ []) before
    → length before ≡ w → (v : ℕ) (e : LineEnd (Message L)) → slice_get now v ≡ Some e
    → map number_of e.carried ≡ dealt w v has.count ++ None ∷ []
sent_all {L} accepted_before accepted_now before now w has fresh are v e at =
    let less : v < length before = subst (λ k. v < k) has.lines (slice_get_within now v e at) in
    let x = element before v less in
    let none : x.0.carried ≡ []
    = subst (λ (y : LineEnd (Message L)). y.carried ≡ []) (get_or_from_slice_get before v x.0 x.0 x.1)
    (fresh v x.0 less) in
    has.sent v x.0 e x.1 at
    ∙ ap (λ (l : List (Message L)). map number_of l ++ dealt (length before) v has.count ++ None ∷ []) none
    ∙ ap (λ k. dealt k v has.count ++ None ∷ []) are

-- two counts of the same list are equal
pub same_count : (before now : List ChanId) (n o : ℕ) → now ≡ before ++ clients_below n
    → now ≡ before ++ clients_below o → n ≡ o
same_count before now n o first second =
    let long : length before + length (clients_below n) ≡ length before + length (clients_below o)
    = sym (length-append before (clients_below n)) ∙ ap length (sym first ∙ second)
    ∙ length-append before (clients_below o) in
    omega (arith, long, clients_length n, clients_length o)

module _ {X L : Type 0} (line : X → LineExit (Message L)) (worker : X → ℕ) (put : X → List Handover)
    (hand : X → List (Option ℕ)) (early : X → Bool) (left : X → ℕ) (w conns slots n : ℕ) (lanes : List X)
    (entries : List (LineEnd (Message L)))
    (shown : Shown line worker put hand early left w conns slots n lanes entries) where
  accounts_at : (v : ℕ) (x : X) → slice_get lanes v ≡ Some x → Accounts w v n (put x) (hand x)
  accounts_at v x at =
      let less : v < w = subst (λ k. v < k) shown.lanes_are (slice_get_within lanes v x at) in
      let e = element entries v (subst (λ k. v < k) (sym shown.entries_are) less) in
      accounts w v n less (line x).carried e.0.carried (put x) (hand x) (shown.numbers x) (shown.sent v e.0 e.1)
      (shown.settled v x e.0 at e.1) (worker x) (shown.own x) (shown.its v x at)

  pub own_at : (v : ℕ) (x : X) → slice_get lanes v ≡ Some x → All (λ h. h.worker ≡ v) (put x)
  own_at v x at = (accounts_at v x at).own

  -- under numbers of its slots
  pub within_at : (v : ℕ) (x : X) → slice_get lanes v ≡ Some x
      → All (λ h. h.client.number.0 < 2 * share w v slots) (put x)
  within_at v x at = elim (shown.its v x at) [
    | inl none ↦
        λ i d few. absurd (omega (
          arith,
          few,
          ap length
              (empty (put x) (hand x) (ap (map number_of) (sym none) ∙ shown.numbers x)),
        ))
    | inr same ↦ subst (λ k. All (λ h. h.client.number.0 < 2 * share w k slots) (put x)) same (shown.within x)
  ]

  -- where all connections were sent, no line ended early
  early_never : n ≡ conns → (v : ℕ) (x : X) → slice_get lanes v ≡ Some x → IsTrue (early x)
      → ((line x).carried ≡ []) ⊎ (worker x ≡ v) → ⊥
  early_never all v x at is (inl none) =
      never_ends (put x)
      (ap (map number_of) (sym none) ∙ shown.numbers x ∙ ap (λ l. map put_number (put x) ++ l) (shown.in_time x is).0)
  early_never all v x at is (inr same) =
      let full : length (put x) ≡ share w v n = (accounts_at v x at).all (shown.in_time x is).0 in
      let counted : left x + length (put x) ≡ share w v n
      = shown.count x ∙ ap (λ k. share w k conns) same ∙ ap (share w v) (sym all) in
      absurd (omega (arith, full, counted, (shown.in_time x is).1))

  pub on_time : n ≡ conns → (v : ℕ) (x : X) → slice_get lanes v ≡ Some x → early x ≡ false
  on_time all v x at = false_from_ne_true (early x) (λ is. early_never all v x at is (shown.its v x at))

  module _ (plan : ProxyPlan) (outcome : X → Result Served ServeError) (before : List X) (before_is : length before ≡ w)
      (received : HaveReceived plan line worker put outcome before lanes) where
    -- what each worker has put in
    handed_at : (v : ℕ) (x : X) → slice_get lanes v ≡ Some x → put x ≡ handovers w v (clients_of (put x))
    handed_at v x at =
        let acc = accounts_at v x at in
        put_is w v (put x) acc.connections acc.own

    handed_here : (k : ℕ) → k ≡ w → put_below put lanes (length lanes) ≡ handed_by k (clients_at put lanes) k
    handed_here k is =
        handed_all put lanes w (length lanes) handed_at (omega arith)
        ∙ ap (λ o. handed_by w (clients_at put lanes) o) shown.lanes_are
        ∙ ap (λ o. handed_by o (clients_at put lanes) o) (sym is)

    received_at : (v : ℕ) (x : X) → slice_get lanes v ≡ Some x
        → HasReceived v (share w v plan.conns) (line x) (worker x) (put x) (outcome x)
    received_at v x at =
        let less : v < length before
        = omega (arith, slice_get_within lanes v x at, shown.lanes_are, before_is) in
        subst (λ y. HasReceived v (share w v plan.conns) (line y) (worker y) (put y) (outcome y))
        (get_or_from_slice_get lanes v x x at)
        (subst (λ k. HasReceived v (share k v plan.conns) (line (slice_index_or lanes v x))
        (worker (slice_index_or lanes v x)) (put (slice_index_or lanes v x)) (outcome (slice_index_or lanes v x)))
        before_is (received v x less))

    module _ {N : Type 0} (m : Members N) (net : X → N)
        (worked : HaveWorked m plan net put early outcome before lanes) (few : n ≤ plan.conns) where
      same_length : length lanes ≡ length before
      same_length = shown.lanes_are ∙ sym before_is

      -- all were put in, or a poll failed
      keeps_of : (v : ℕ) (b : X) (target : Addr) (x y : N) (shares : ℕ) (o : Result Served ServeError)
          → HasWorked m target shares x y (put b) (early b) o → OnOk o (length (put b) ≡ share w v plan.conns)
          → Accounts w v n (put b) (hand b) → o ≢ Err serve.Memory
          → (length (put b) ≡ share w v n) ⊎ Rose (m.poll_faults x) (m.poll_faults y)
      keeps_of v b target x y shares (Ok served) has all acc lacks =
          inl (all_put w v n plan.conns (length (put b)) few acc.few all)
      keeps_of v b target x y shares (Err serve.NetFault) has all acc lacks = elim (has.fault refl) [
        | inl is ↦ inl (acc.all (shown.in_time b is).0)
        | inr rose ↦ inr rose
      ]
      keeps_of v b target x y shares (Err serve.Memory) has all acc lacks = absurd (lacks refl)

      all_of : (v : ℕ) (b : X) (o : Result Served ServeError) → IsOk o
          → OnOk o (length (put b) ≡ share w v plan.conns) → length (put b) ≡ share w v plan.conns
      all_of v b (Ok served) ok all = all
      all_of v b (Err error) ok all = absurd (cc)

      keeps : (done : Result (Unit {0}) ManyError) (answer : Result Served ManyError)
          → Concludes done outcome plan.conns lanes answer → (v : ℕ) (b : X) → slice_get lanes v ≡ Some b
          → (target : Addr) (x y : N) (shares : ℕ) → HasWorked m target shares x y (put b) (early b) (outcome b)
          → KeepsLinks answer (length (put b) ≡ share w v n) (Rose (m.poll_faults x) (m.poll_faults y))
      keeps done (Ok served) is v b at target x y shares has =
          all_put w v n plan.conns (length (put b)) few (accounts_at v b at).few
          (all_of v b (outcome b) (is.1.all v b at) (received_at v b at).all)
      keeps done (Err many.NetFault) is v b at target x y shares has =
          keeps_of v b target x y shares (outcome b) has (received_at v b at).all (accounts_at v b at)
          (subst (λ l. outcome l ≢ Err serve.Memory) (get_or_from_slice_get lanes v b b at)
          (is.0 v b (slice_get_within lanes v b at)))
      keeps done (Err many.Memory) is v b at target x y shares has = tt

      pub accounts_for : (accepted_before accepted_now : List ChanId) (old new : List Handover)
          → accepted_now ≡ accepted_before ++ clients_below n → new ≡ old ++ put_below put lanes (length lanes)
          → (done : Result (Unit {0}) ManyError) (answer : Result Served ManyError)
          → Concludes done outcome plan.conns lanes answer
          → AccountsForLinks m accepted_before accepted_now (map net before) (map net lanes) old new answer
      accounts_for accepted_before accepted_now old new accepted new_is done answer is =
          let nets : length (map net before) ≡ w = length-map before net ∙ before_is in record {
            clients = clients_below n;
            accepted = accepted;
            put = clients_at put lanes;
            handed = new_is ∙ ap (λ l. old ++ l) (handed_here (length (map net before)) nets);
            few = λ v less.
                let b = element lanes v (omega (arith, less, nets, shown.lanes_are)) in
                subst (λ k. length (clients_at put lanes v) ≤ share k v (length (clients_below n))) (sym nets)
                (subst (λ m. length (clients_at put lanes v) ≤ share w v m) (sym (clients_length n))
                (subst (λ k. k ≤ share w v n) (sym (length_at put lanes v b.0 b.1)) (accounts_at v b.0 b.1).few));
            kept = λ v x y at_x at_y.
                let has = at_worker m plan net put early outcome before lanes same_length worked v x y at_x at_y in
                subst (λ k. KeepsLinks answer (length (clients_at put lanes v) ≡ share k v (length (clients_below n)))
                (Rose (m.poll_faults x) (m.poll_faults y))) (sym nets)
                (subst (λ o. KeepsLinks answer (length (clients_at put lanes v) ≡ share w v o)
                (Rose (m.poll_faults x) (m.poll_faults y))) (sym (clients_length n))
                (subst (λ k. KeepsLinks answer (k ≡ share w v n) (Rose (m.poll_faults x) (m.poll_faults y)))
                (sym (length_at put lanes v has.0 has.1)) (keeps done answer is v has.0 has.1 plan.target x y _ has.2)));
          }

      -- ---- what was handed over

      all_handed : (done : Result (Unit {0}) ManyError) (answer : Result Served ManyError)
          → Concludes done outcome plan.conns lanes answer → (k : ℕ) → k ≡ w
          → OnOk answer ((v : ℕ) → v < k → length (clients_at put lanes v) ≡ share k v plan.conns)
      all_handed done (Ok served) is k k_is = λ v less.
          let b = element lanes v (omega (arith, less, k_is, shown.lanes_are)) in
          length_at put lanes v b.0 b.1
          ∙ all_of v b.0 (outcome b.0) (is.1.all v b.0 b.1) (received_at v b.0 b.1).all
          ∙ ap (λ o. share o v plan.conns) (sym k_is)
      all_handed done (Err error) is k k_is = tt

      pub handed_of : (old new : List Handover) → new ≡ old ++ put_below put lanes (length lanes)
          → (done : Result (Unit {0}) ManyError) (answer : Result Served ManyError)
          → Concludes done outcome plan.conns lanes answer → AreHanded m plan.conns (map net lanes) old new answer
      handed_of old new new_is done answer is =
          let nets : length (map net lanes) ≡ w = length-map lanes net ∙ shown.lanes_are in record {
            clients = clients_at put lanes;
            handed = new_is ∙ ap (λ l. old ++ l) (handed_here (length (map net lanes)) nets);
            few = λ v less.
                let b = element lanes v (omega (arith, less, nets, shown.lanes_are)) in
                subst (λ k. length (clients_at put lanes v) ≤ share k v plan.conns) (sym nets)
                (subst (λ k. k ≤ share w v plan.conns) (sym (length_at put lanes v b.0 b.1))
                (received_at v b.0 b.1).few);
            all = all_handed done answer is (length (map net lanes)) nets;
            put_in = λ v y at.
                put_in_at m plan net put early outcome before lanes same_length worked v y at;
          }

-- where nothing was done
pub none_accounted : {N : Type 0} (m : Members N) (accepted : List ChanId) (before now : List N) (old : List Handover)
    → AccountsForLinks m accepted accepted before now old old (Err many.Memory)
none_accounted m accepted before now old = record {
  clients = [];
  accepted = sym (append-nil accepted);
  put = λ v. [];
  handed = sym (ap (λ l. old ++ l) (none_by (length before) (length before)) ∙ append-nil old);
  few = λ v less. omega arith;
  kept = λ v x y at_x at_y. tt;
}
