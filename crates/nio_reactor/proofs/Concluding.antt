-- What the proxy answers, from what its acceptor and its workers came to.
use Rattle.std.proofs.Common.{◌≡◌, ◌≢◌, ℕ, zero, suc, ◌<◌, ◌≤◌, ◌⊎◌, inl, inr, Bool, false}
use Rattle.std.proofs.Common.{All, IfOk, IsTrue, IsOk, OnOk, Ok, Err, Result, Some, option_map, List, [], ◌∷◌, map, length}
use Rattle.std.proofs.Common.{slice_get, slice_index_or, refl, sym, ap, subst, ◌∙◌, arith}
use Rattle.std.specs.Prelude.{AllPairs}
use Rattle.std.proofs.lemmas.List.{append-nil, length-map}
use Rattle.std.proofs.lemmas.List.Elements.{All-get_or}
use Rattle.std.proofs.lemmas.Option.{get_or_from_slice_get, same_Some, slice_get_within, slice_get-get_or}
use Rattle.std.proofs.lemmas.Option.{slice_get-map}
use Rattle.nio_base.specs.declared.numbers.Addr.{Addr}
use Rattle.nio_base.specs.declared.numbers.ChanId.{ChanId}
use Rattle.nio_bytes.specs.Cause.{Rose}
use Rattle.nio_link.specs.Nets.{Members, view_of}
use Rattle.nio_link.specs.Places.{IsVacant}
use Rattle.nio_link.specs.declared.place.Place.{Place}
use Rattle.nio_relay.specs.declared.plan.ProxyPlan.{ProxyPlan}
use Rattle.nio_relay.specs.declared.plan.Served.{Served}
use Rattle.nio_serve.specs.Serving.{listener, run_channels, IsFresh, NoneRose, WasClean}
use Rattle.nio_serve.specs.declared.serving.ServeError.{ServeError}
use Rattle.nio_serve.specs.declared.serving.ServeError.TheVariants.{NetFault as Failed}
use Rattle.nio_reactor.proofs.Clients.{few_counted, length_below}
use Rattle.nio_reactor.proofs.Asked.{accepting_first, clients_differ, left}
use Rattle.nio_reactor.proofs.Handing.{clients_at}
use Rattle.nio_reactor.proofs.Lists.{element}
use Rattle.nio_reactor.proofs.Worked.{clients_apart, fresh_part}
use Rattle.nio_reactor.specs.Accepting.{HasAccepted, clients_below}
use Rattle.nio_reactor.specs.Dealing.{share}
use Rattle.nio_reactor.specs.Handing.{ArePutIn, put_at}
use Rattle.nio_reactor.specs.Many.{AnswersMany, APollRose, AreAllClean, HasServedAll, HasServedPart, LeavesAcceptor}
use Rattle.nio_reactor.specs.Many.{NoneRoseOfAll, RelaysPart, ServesAllCleanOr, ServesMany, sum_below}
use Rattle.nio_reactor.specs.Working.{HasWorked, HaveWorked, HasEnded, AddsAll, Concludes, CountFew, clients_of}
use Rattle.nio_reactor.specs.Working.{faults_of}
use Rattle.nio_reactor.specs.declared.handover.Handover.{Handover}
use Rattle.nio_reactor.specs.declared.many.ManyError.{ManyError}
use Rattle.nio_reactor.specs.declared.many.ManyError.TheVariants.{NetFault, Memory}

-- the lane whose net stands at a place of the nets
from_map : {X N : Type 0} (net : X → N) (lanes : List X) (v : ℕ) (y : N) → slice_get (map net lanes) v ≡ Some y
    → (b : X) × (slice_get lanes v ≡ Some b) × (net b ≡ y)
from_map net [] v y at = absurd (cc)
from_map net (b ∷ lanes) zero y at = (b, refl, same_Some (net b) y at)
from_map net (b ∷ lanes) (suc v) y at = from_map net lanes v y at

to_map : {X N : Type 0} (net : X → N) (lanes : List X) (v : ℕ) (b : X) → slice_get lanes v ≡ Some b
    → slice_get (map net lanes) v ≡ Some (net b)
to_map net lanes v b at = slice_get-map net lanes v ∙ ap (option_map net) at

-- a sum of none
pub sum_none : (f : ℕ → ℕ) (n : ℕ) → ((v : ℕ) → v < n → f v ≡ 0) → sum_below f n ≡ 0
sum_none f zero none = refl
sum_none f (suc n) none = omega (arith, sum_none f n (λ v few. none v (omega (arith, few))), none n (omega arith))

pub on_ok : {T E P : Type 0} (r : Result T E) → IsOk r → OnOk r P → P
on_ok (Ok x) ok has = has
on_ok (Err e) ok has = absurd (cc)

module _ {X N : Type 0} (n : Members N) (plan : ProxyPlan) (net : X → N) (put : X → List Handover) (early : X → Bool)
    (outcome : X → Result Served ServeError) (before now : List X) (count : length now ≡ length before)
    (worked : HaveWorked n plan net put early outcome before now) where
  -- how many workers there are
  abbrev workers : ℕ
  workers = length (map net now)

  abbrev conns_of : ℕ → ℕ
  conns_of v = share workers v plan.conns

  -- what the worker of two nets came to
  pub at_worker : (v : ℕ) (x y : N) → slice_get (map net before) v ≡ Some x → slice_get (map net now) v ≡ Some y
      → (b : X) × (slice_get now v ≡ Some b)
      × HasWorked n plan.target (share (length (map net now)) v plan.conns) x y (put b) (early b) (outcome b)
  at_worker v x y at_x at_y =
      let old = from_map net before v x at_x in
      let new = from_map net now v y at_y in
      let within : v < length before = slice_get_within before v old.0 old.1 in
      let old_is : slice_index_or before v new.0 ≡ old.0 = get_or_from_slice_get before v old.0 new.0 old.1 in
      let new_is : slice_index_or now v new.0 ≡ new.0 = get_or_from_slice_get now v new.0 new.0 new.1 in
      let same : length before ≡ workers = sym (length-map now net ∙ count) in
      let first = worked v new.0 within in
      let second : HasWorked n plan.target (conns_of v) x y (put new.0) (early new.0) (outcome new.0)
      = subst (λ w. HasWorked n plan.target (share w v plan.conns) x y (put new.0) (early new.0) (outcome new.0)) same
      (subst (λ a. HasWorked n plan.target (share (length before) v plan.conns) a y (put new.0) (early new.0)
      (outcome new.0)) (ap net old_is ∙ old.2)
      (subst (λ b. HasWorked n plan.target (share (length before) v plan.conns) (net (slice_index_or before v new.0)) b
      (put new.0) (early new.0) (outcome new.0)) new.2
      (subst (λ b. HasWorked n plan.target (share (length before) v plan.conns) (net (slice_index_or before v new.0))
      (net b) (put b) (early b) (outcome b)) new_is first))) in
      (new.0, new.1, second)

  -- what the worker at a place came to
  worker_at : (v : ℕ) (b : X) → slice_get now v ≡ Some b
      → (x : N) × (slice_get (map net before) v ≡ Some x)
      × HasWorked n plan.target (conns_of v) x (net b) (put b) (early b) (outcome b)
  worker_at v b at =
      let within : v < length before = subst (λ k. v < k) count (slice_get_within now v b at) in
      let a = element before v within in
      let has = at_worker v (net a.0) (net b) (to_map net before v a.0 a.1) (to_map net now v b at) in
      let same : has.0 ≡ b = same_Some has.0 b (sym has.1 ∙ at) in (
        net a.0,
        to_map net before v a.0 a.1,
        subst (λ c. HasWorked n plan.target (conns_of v) (net a.0) (net b) (put c) (early c) (outcome c)) same has.2,
      )

  -- under which channels it has put its links in
  its_clients : (v : ℕ) (b : X) → slice_get now v ≡ Some b → clients_of (put b) ≡ clients_at put now v
  its_clients v b at = sym (ap (λ o. clients_of (put_at put o)) at)

  relays_at : (v : ℕ) (y : N) → slice_get (map net now) v ≡ Some y
      → RelaysPart plan.target (conns_of v) (clients_at put now v) (view_of n y)
  relays_at v y at =
      let b = from_map net now v y at in
      subst (λ cs. RelaysPart plan.target (conns_of v) cs (view_of n y)) (its_clients v b.0 b.1)
      (subst (λ x. RelaysPart plan.target (conns_of v) (clients_of (put b.0)) (view_of n x)) b.2
      (worker_at v b.0 b.1).2.relays)

  pub put_in_at : (v : ℕ) (y : N) → slice_get (map net now) v ≡ Some y → ArePutIn (n.place y) (clients_at put now v)
  put_in_at v y at =
      let relays = relays_at v y at in
      record { roles = relays.leaves.put_in; apart = clients_apart (clients_at put now v) relays.apart }

  -- the channels of its run are all different
  pub apart_at : (v : ℕ) (b : X) → slice_get now v ≡ Some b
      → AllPairs (λ c d. c ≢ d) (run_channels (clients_of (put b)))
  apart_at v b at = (worker_at v b at).2.relays.apart

  part_of : (k : ℕ) (x y : N) (cs : List Handover) (e : Bool) (o : Result Served ServeError) → IsOk o
      → HasWorked n plan.target k x y cs e o
      → HasServedPart plan.target k (clients_of cs) (view_of n x) (view_of n y) (faults_of (Some o))
  part_of k x y cs e (Ok served) is has = has.serves
  part_of k x y cs e (Err error) is has = absurd (cc)

  clean_of : (k : ℕ) (x y : N) (cs : List Handover) (e : Bool) (o : Result Served ServeError) → IsOk o
      → HasWorked n plan.target k x y cs e o → NoneRose (view_of n x) (view_of n y)
      → (faults_of (Some o) ≡ 0) × All (WasClean (n.link y)) (clients_of cs)
  clean_of k x y cs e (Ok served) is has none = let part = has.complete none in (part.faults, part.clean)
  clean_of k x y cs e (Err error) is has none = absurd (cc)

  adds_all : (clients : List ChanId) (served : Served) → length clients ≡ plan.conns
      → AddsAll outcome plan.conns now served
      → HasServedAll n plan clients (clients_at put now) (map net before) (map net now) served
  adds_all clients served all adds = record {
    all = all;
    connections = adds.connections;
    faulty = λ v. faults_of (option_map outcome (slice_get now v));
    faults = adds.faults ∙ ap (sum_below (λ v. faults_of (option_map outcome (slice_get now v))))
        (sym (length-map now net));
    parts = λ v x y at_x at_y.
        let has = at_worker v x y at_x at_y in
        subst (λ cs. HasServedPart plan.target (conns_of v) cs (view_of n x) (view_of n y)
        (faults_of (option_map outcome (slice_get now v)))) (its_clients v has.0 has.1)
        (subst (HasServedPart plan.target (conns_of v) (clients_of (put has.0)) (view_of n x) (view_of n y))
        (ap (λ o. faults_of (option_map outcome o)) (sym has.1))
        (part_of (conns_of v) x y (put has.0) (early has.0) (outcome has.0) (adds.all v has.0 has.1) has.2));
  }

  rose_of : (e : Bool) (P : Type 0) → e ≡ false → IsTrue e ⊎ P → P
  rose_of e P on_time (inl is) = absurd (cc)
  rose_of e P on_time (inr rose) = rose

  all_clean : (x y : N) (served : Served) → NoneRoseOfAll n x y (map net before) (map net now)
      → AddsAll outcome plan.conns now served → AreAllClean n plan (clients_at put now) (map net now) served
  all_clean x y served none adds =
      let clean_at : (v : ℕ) (b : X) → slice_get now v ≡ Some b
      → (faults_of (Some (outcome b)) ≡ 0) × All (WasClean (n.link (net b))) (clients_of (put b))
      = λ v b at.
      let has = worker_at v b at in
      clean_of (conns_of v) has.0 (net b) (put b) (early b) (outcome b) (adds.all v b at) has.2
      (none.workers v has.0 (net b) has.1 (to_map net now v b at)) in
      record {
        connections = adds.connections;
        faults = adds.faults ∙ sum_none (λ v. faults_of (option_map outcome (slice_get now v))) (length now)
            (λ v few. let b = element now v few in
            ap (λ o. faults_of (option_map outcome o)) b.1 ∙ (clean_at v b.0 b.1).0);
        clean = λ v z at.
            let b = from_map net now v z at in
            subst (λ cs. All (WasClean (n.link z)) cs) (its_clients v b.0 b.1)
            (subst (λ k. All (WasClean (n.link k)) (clients_of (put b.0))) b.2 (clean_at v b.0 b.1).1);
      }

  module _ (done : Result (Unit {0}) ManyError)
      (on_time : IsOk done → (v : ℕ) (b : X) → slice_get now v ≡ Some b → early b ≡ false) (x y : N)
      (has : HasAccepted n plan x y done) where
    poll_failed : IsOk done → HasEnded Failed outcome now → APollRose n (map net before) (map net now)
    poll_failed ok failed =
        let its = worker_at failed.worker failed.lane failed.is in record {
          worker = failed.worker;
          first = its.0;
          last = net failed.lane;
          was = its.1;
          is = to_map net now failed.worker failed.lane failed.is;
          rose = rose_of (early failed.lane) (Rose (n.poll_faults its.0) (n.poll_faults (net failed.lane)))
              (on_time ok failed.worker failed.lane failed.is) (its.2.fault failed.reason_is);
        }

    answers_many : (answer : Result Served ManyError) → Concludes done outcome plan.conns now answer
        → AnswersMany n plan (clients_below has.count) (clients_at put now) x y (map net before) (map net now) answer
    answers_many (Ok served) is =
        adds_all (clients_below has.count) served (length_below has.count ∙ on_ok done is.0 has.all) is.1
    answers_many (Err NetFault) is = elim is.1 [
      | inl failed ↦ inl (has.fault failed)
      | inr ended ↦ inr (poll_failed ended.0 ended.1)
    ]
    answers_many (Err Memory) is = tt

    all_cleanly : (answer : Result Served ManyError) → Concludes done outcome plan.conns now answer
        → NoneRoseOfAll n x y (map net before) (map net now)
        → ServesAllCleanOr n plan (clients_at put now) (map net now) answer
    all_cleanly (Ok served) is none = all_clean x y served none is.1
    all_cleanly (Err NetFault) is none = absurd (elim is.1 [
      | inl failed ↦ elim (has.fault failed) [
        | inl rose ↦ none.acceptor.polls rose
        | inr rose ↦ none.acceptor.links listener rose
      ]
      | inr ended ↦
          let rose = poll_failed ended.0 ended.1 in
          (none.workers rose.worker rose.first rose.last rose.was rose.is).polls rose.rose
    ])
    all_cleanly (Err Memory) is none = tt

    serves_many : (answer : Result Served ManyError) → Concludes done outcome plan.conns now answer
        → ServesMany n plan x y (map net before) (map net now) answer
    serves_many answer is = record {
      clients = clients_below has.count;
      accepted = has.order;
      within = subst (λ k. k ≤ plan.conns) (sym (length_below has.count)) has.some;
      apart = clients_differ has.count;
      leaves = has.leaves;
      put = clients_at put now;
      workers = relays_at;
      answers = answers_many answer is;
      complete = all_cleanly answer is;
    }

-- the same over other names for the nets
pub serves_of : {X N : Type 0} (n : Members N) (plan : ProxyPlan) (net : X → N) (put : X → List Handover)
    (early : X → Bool) (outcome : X → Result Served ServeError) (before now : List X) (first last : List N)
    → map net before ≡ first → last ≡ map net now → length now ≡ length before
    → HaveWorked n plan net put early outcome before now → (done : Result (Unit {0}) ManyError)
    → (IsOk done → (v : ℕ) (b : X) → slice_get now v ≡ Some b → early b ≡ false) → (x y : N)
    (answer : Result Served ManyError) → HasAccepted n plan x y done → Concludes done outcome plan.conns now answer
    → ServesMany n plan x y first last answer
serves_of n plan net put early outcome before now first last first_is last_is count worked done on_time x y answer has
    is =
    subst (λ a. ServesMany n plan x y a last answer) first_is
    (subst (λ b. ServesMany n plan x y (map net before) b answer) (sym last_is)
    (serves_many n plan net put early outcome before now count worked done on_time x y has answer is))

-- no worker counts more faults than it has connections
few_served : {N : Type 0} (n : Members N) (target : Addr) (conns : ℕ) (x y : N) (put : List Handover) (early : Bool)
    (outcome : Result Served ServeError) → HasWorked n target conns x y put early outcome
    → IfOk outcome (λ served. served.faults ≤ conns)
few_served n target conns x y put early (Ok served) has =
    omega (arith, has.serves.faults, few_counted has.serves.counted (clients_of put), has.serves.all)
few_served n target conns x y put early (Err error) has = tt

pub few_faults : {X N : Type 0} (n : Members N) (plan : ProxyPlan) (net : X → N) (put : X → List Handover)
    (early : X → Bool) (outcome : X → Result Served ServeError) (before now : List X) → length now ≡ length before
    → HaveWorked n plan net put early outcome before now → CountFew outcome plan.conns now
few_faults n plan net put early outcome before now count worked v x at =
    subst (λ w. IfOk (outcome x) (λ served. served.faults ≤ share w v plan.conns)) (sym count)
    (subst (λ b. IfOk (outcome b) (λ served. served.faults ≤ share (length before) v plan.conns))
    (get_or_from_slice_get now v x x at)
    (few_served n plan.target (share (length before) v plan.conns) _ _ (put (slice_index_or now v x))
    (early (slice_index_or now v x)) (outcome (slice_index_or now v x))
    (worked v x (subst (λ m. v < m) count (slice_get_within now v x at)))))

-- ---- where nothing was done

fresh_at : {N : Type 0} (n : Members N) (nets : List N) (v : ℕ) (y : N) → All (λ x. IsFresh (view_of n x)) nets
    → slice_get nets v ≡ Some y → IsFresh (view_of n y)
fresh_at n nets v y all at =
    subst (λ x. IsFresh (view_of n x)) (get_or_from_slice_get nets v y y at)
    (All-get_or (λ x. IsFresh (view_of n x)) nets v y (slice_get_within nets v y at) all)

pub fresh_lanes : {X N : Type 0} (n : Members N) (net : X → N) (lanes : List X) (nets : List N) → map net lanes ≡ nets
    → All (λ x. IsFresh (view_of n x)) nets → All (λ l. IsFresh (view_of n (net l))) lanes
fresh_lanes n net lanes nets same all k d few =
    fresh_at n (map net lanes) k (net (slice_index_or lanes k d))
    (subst (All (λ x. IsFresh (view_of n x))) (sym same) all)
    (to_map net lanes k (slice_index_or lanes k d) (slice_get-get_or lanes k d few))

-- nothing was accepted
pub left_none : {N : Type 0} (n : Members N) (plan : ProxyPlan) (k : ℕ) (x y : N) → k ≡ 0 → IsFresh (view_of n y)
    → ((c : ChanId) → n.link y c ≡ n.link x c)
    → LeavesAcceptor plan (clients_below k) (view_of n x) (view_of n y)
left_none n plan k x y none fresh links =
    subst (λ j. LeavesAcceptor plan (clients_below j) (view_of n x) (view_of n y)) (sym none)
    (left n plan 0 x y y (accepting_first n y y fresh (λ c. refl) (λ c other. refl)) links
    (λ c. refl) (λ c other. refl)
    (subst (λ (p : Place). IsVacant p.standing) (sym (fresh.unasked listener)) tt)
    (inl (ap (λ (p : Place). p.role) (fresh.unasked listener))))

-- memory lacked before anything was done
pub none_served : {N : Type 0} (n : Members N) (plan : ProxyPlan) (net : N) (nets : List N) → IsFresh (view_of n net)
    → All (λ x. IsFresh (view_of n x)) nets → ServesMany n plan net net nets nets (Err Memory)
none_served n plan net nets fresh all = record {
  clients = [];
  accepted = sym (append-nil (n.accepted net));
  within = omega arith;
  apart = clients_differ 0;
  leaves = left_none n plan 0 net net refl fresh (λ c. refl);
  put = λ v. [];
  workers = λ v y at.
      fresh_part n plan.target (share (length nets) v plan.conns) y (fresh_at n nets v y all at);
  answers = tt;
  complete = λ none. tt;
}

-- the same over another name for the nets
pub none_done : {N : Type 0} (n : Members N) (plan : ProxyPlan) (net : N) (nets now : List N) → now ≡ nets
    → IsFresh (view_of n net) → All (λ x. IsFresh (view_of n x)) nets
    → ServesMany n plan net net nets now (Err Memory)
none_done n plan net nets now same fresh all =
    subst (λ l. ServesMany n plan net net nets l (Err Memory)) (sym same) (none_served n plan net nets fresh all)
