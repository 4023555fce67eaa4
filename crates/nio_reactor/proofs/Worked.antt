-- What a worker has come to, from the promise of the serving loop over what it sees of the worker's net.
use Rattle.std.proofs.Common.{◌≡◌, ◌≢◌, ℕ, ◌+◌, ◌*◌, ◌<◌, ◌⊎◌, inl, inr, Bool, true, false, IsFalse, IsTrue, IfOk, Ok, Err, Result, All}
use Rattle.std.proofs.Common.{zero, suc, refl, sym, ap, subst, ◌∙◌, arith, List, [], ◌∷◌, ◌++◌, length, get_or, add-one}
use Rattle.std.specs.Prelude.{AllPairs}
use Rattle.std.proofs.lemmas.Bool.{false_from_ne_true}
use Rattle.std.proofs.lemmas.List.Elements.{All-nil}
use Rattle.nio_base.specs.declared.numbers.Addr.{Addr}
use Rattle.nio_base.specs.declared.numbers.ChanId.{ChanId}
use Rattle.nio_bytes.specs.Cause.{Rose}
use Rattle.nio_link.specs.Nets.{Members, NetView, view_of}
use Rattle.nio_link.specs.Places.{IsVacant}
use Rattle.nio_link.specs.declared.place.Place.{Place}
use Rattle.nio_link.specs.declared.place.Role.TheVariants as role
use Rattle.nio_relay.specs.declared.plan.ProxyPlan.{ProxyPlan}
use Rattle.nio_relay.specs.declared.plan.Served.{Served}
use Rattle.nio_reactor.proofs.Clients.{count_nobody}
use Rattle.nio_serve.specs.Serving.{target_of, links_of, listener, run_channels, Answers, HasServed, IsFresh, Serves}
use Rattle.nio_serve.specs.Serving.{LeavesNothing}
use Rattle.nio_serve.specs.Serving.{IsAtMost, IsUnfaulted, WasBegun, WasClean, WasRelayed, HasFaulted, NoneRose}
use Rattle.nio_serve.specs.declared.serving.ServeError.{ServeError}
use Rattle.nio_serve.specs.declared.serving.ServeError.TheVariants.{NetFault, Memory}
use Rattle.nio_reactor.proofs.Seen.{place_other, faults_other, from_put_in, never_over, vacant_over}
use Rattle.nio_reactor.proofs.Seen.{seen_nothing, seen_accepted, seen_connected}
use Rattle.nio_reactor.specs.Lanes.{IsSpare, lane_view, place_over, faults_over, polls_over, seen_role}
use Rattle.nio_reactor.specs.Many.{HasServedPart, LeavesWorker, RelaysPart, WasPutIn}
use Rattle.nio_reactor.specs.Working.{HasWorked, IsCleanPart, clients_of}
use Rattle.nio_reactor.specs.declared.door.Door.{Door}
use Rattle.nio_reactor.specs.declared.handover.Handover.{Handover}
use Rattle.nio_reactor.specs.declared.ready.Ready.{Ready}

-- ---- the channels of a run

-- where each client and each target stands among them
client_in : (cs : List ChanId) (i : ℕ) (d : ChanId) → i < length cs
    → get_or (run_channels cs) (2 * i + 1) d ≡ get_or cs i d
client_in cs i d few = ap (λ j. get_or (run_channels cs) j d) (add-one (2 * i)) ∙ in_links cs i d few
  where
    in_links : (cs : List ChanId) (i : ℕ) (d : ChanId) → i < length cs → get_or (links_of cs) (2 * i) d ≡ get_or cs i d
    in_links [] i d few = absurd (omega (arith, few))
    in_links (c ∷ cs) zero d few = refl
    in_links (c ∷ cs) (suc i) d few =
        ap (λ j. get_or (links_of (c ∷ cs)) j d) (twice i) ∙ in_links cs i d (omega (arith, few))
      where
        twice : (n : ℕ) → 2 * suc n ≡ suc (suc (2 * n))
        twice n = omega arith

target_in : (cs : List ChanId) (i : ℕ) (d : ChanId) → i < length cs
    → get_or (run_channels cs) (suc (suc (2 * i))) d ≡ target_of (get_or cs i d)
target_in [] i d few = absurd (omega (arith, few))
target_in (c ∷ cs) zero d few = refl
target_in (c ∷ cs) (suc i) d few =
    ap (λ j. get_or (run_channels (c ∷ cs)) j d) (twice i) ∙ target_in cs i d (omega (arith, few))
  where
    twice : (n : ℕ) → suc (suc (2 * suc n)) ≡ suc (suc (suc (suc (2 * n))))
    twice n = omega arith

length_links : (cs : List ChanId) → length (links_of cs) ≡ 2 * length cs
length_links [] = refl
length_links (c ∷ cs) = omega (arith, length_links cs)

module _ (cs : List ChanId) (apart : AllPairs (λ a b. a ≢ b) (run_channels cs)) where
  pub clients_apart : AllPairs (λ a b. a ≢ b) cs
  clients_apart i j d less few same =
      apart (2 * i + 1) (2 * j + 1) d (omega (arith, less)) (omega (arith, few, length_links cs))
      (client_in cs i d (omega (arith, less, few)) ∙ same ∙ sym (client_in cs j d few))

  clients_other : All (λ c. c ≢ listener) cs
  clients_other i d few same =
      apart 0 (2 * i + 1) d (omega arith) (omega (arith, few, length_links cs)) (sym (client_in cs i d few ∙ same))

  targets_other : All (λ c. target_of c ≢ listener) cs
  targets_other i d few same =
      apart 0 (suc (suc (2 * i))) d (omega arith) (omega (arith, few, length_links cs))
      (sym (target_in cs i d few ∙ same))

-- what holds of each, where it isn't the listener's
All-both : {P Q : ChanId → Type 0} (R : ChanId → Type 0) (cs : List ChanId) → ((c : ChanId) → P c → Q c → R c)
    → All P cs → All Q cs → All R cs
All-both R cs both first second i d few = both _ (first i d few) (second i d few)

-- ---- back from what the loop sees

rose_other : (before now : ChanId → ℕ) (c : ChanId) → c ≢ listener → Rose (faults_over before c) (faults_over now c)
    → Rose (before c) (now c)
rose_other before now c apart rose =
    subst (λ n. Rose n (now c)) (faults_other before c apart)
    (subst (λ n. Rose (faults_over before c) n) (faults_other now c apart) rose)

same_other : (before now : ChanId → ℕ) (c : ChanId) → c ≢ listener → faults_over now c ≡ faults_over before c
    → now c ≡ before c
same_other before now c apart same = sym (faults_other now c apart) ∙ (same ∙ faults_other before c apart)

role_seen : (d : Door) (place : ChanId → Place) (c : ChanId) → c ≢ listener
    → seen_role (place c).role ≡ (place_over d place c).role
role_seen d place c apart = sym (ap (λ (p : Place). p.role) (place_other d place c apart))

begun_part : (target : Addr) (d : Door) (place : ChanId → Place) (c : ChanId) → WasBegun target (place_over d place) c
    → c ≢ listener → target_of c ≢ listener → WasPutIn target place c
begun_part target d place c was client other = record {
  put_in = from_put_in (place c) (sym (place_other d place c client) ∙ was.accepted);
  asked = seen_connected (place (target_of c)).role target (role_seen d place (target_of c) other ∙ was.asked);
}

faulted_part : (before now : ChanId → ℕ) (c : ChanId) → c ≢ listener → target_of c ≢ listener
    → HasFaulted (faults_over before) (faults_over now) c → HasFaulted before now c
faulted_part before now c client other (inl rose) = inl (rose_other before now c client rose)
faulted_part before now c client other (inr rose) = inr (rose_other before now (target_of c) other rose)

unfaulted_part : (before now : ChanId → ℕ) (c : ChanId) → c ≢ listener → target_of c ≢ listener
    → IsUnfaulted (faults_over before) (faults_over now) c → IsUnfaulted before now c
unfaulted_part before now c client other was = record {
  client = same_other before now c client was.client;
  target = same_other before now (target_of c) other was.target;
}

put_in_part : (d : Door) (place : ChanId → Place) (c : ChanId) → c ≢ listener
    → (place_over d place c).role ≡ role.Accepted listener → (place c).role ≡ role.PutIn
put_in_part d place c client is = seen_accepted (place c).role (role_seen d place c client ∙ is)

at_most_to : (target : Addr) (d : Door) (place : ChanId → Place) (c : ChanId) → c ≢ listener
    → IsAtMost (role.Connected target) (place_over d place c).role → IsAtMost (role.Connected target) (place c).role
at_most_to target d place c apart (inl none) = inl (seen_nothing (place c).role (role_seen d place c apart ∙ none))
at_most_to target d place c apart (inr is) = inr (seen_connected (place c).role target (role_seen d place c apart ∙ is))

module _ {N : Type 0} (n : Members N) (plan : ProxyPlan) (x y : N) (p q : Ready) (a d : Door) (e early : Bool)
    (before : List ChanId) (put : List Handover) (none : before ≡ []) (spare : IsSpare d (n.place y)) where
  abbrev old : NetView
  old = lane_view p a e before (view_of n x)

  abbrev new : NetView
  new = lane_view q d early (clients_of put) (view_of n y)

  leaves_part : (cs : List ChanId) → LeavesNothing plan cs new → All (λ c. c ≢ listener) cs
      → All (λ c. target_of c ≢ listener) cs → LeavesWorker plan.target cs (view_of n y)
  leaves_part cs leaves clients targets = record {
    vacant = λ c. vacant_over d (n.place y) c spare (leaves.vacant c);
    unasked = spare.unasked;
    no_bytes = leaves.no_bytes;
    put_in = All-both (λ c. (n.place y c).role ≡ role.PutIn) cs (λ c apart is. put_in_part d (n.place y) c apart is)
        clients leaves.accepted;
    targets = All-both (λ c. IsAtMost (role.Connected plan.target) (n.place y (target_of c)).role) cs
        (λ c apart is. at_most_to plan.target d (n.place y) (target_of c) apart is) targets leaves.targets;
    others = λ c apart.
        let was = leaves.others c apart in
        record { no_bytes = was.no_bytes; unasked = never_over d (n.place y) c spare was.unasked };
  }

  served_part : (cs : List ChanId) (served : Served) → HasServed plan cs old new served → All (λ c. c ≢ listener) cs
      → All (λ c. target_of c ≢ listener) cs
      → HasServedPart plan.target plan.conns cs (view_of n x) (view_of n y) served.faults
  served_part cs served has clients targets = record {
    all = has.all;
    begun = λ i c few. begun_part plan.target d (n.place y) _ (has.begun i c few) (clients i c few) (targets i c few);
    counted = has.counted;
    faults = has.faults;
    faulty = λ i c few is.
        faulted_part (n.faults x) (n.faults y) _ (clients i c few) (targets i c few) (has.faulty i c few is);
    unfaulted = λ i c few is.
        unfaulted_part (n.faults x) (n.faults y) _ (clients i c few) (targets i c few) (has.unfaulted i c few is);
    clean = has.clean;
  }

  clean_part : (cs : List ChanId) (served : Served)
      → HasServedPart plan.target plan.conns cs (view_of n x) (view_of n y) served.faults
      → NoneRose (view_of n x) (view_of n y) → IsCleanPart cs (n.link y) served
  clean_part cs served part unrisen =
      let uncounted : All (λ c. part.counted c ≡ false) cs
      = λ i c few. false_from_ne_true (part.counted (get_or cs i c)) (λ is. elim (part.faulty i c few is) [
        | inl rose ↦ unrisen.links (get_or cs i c) rose
        | inr rose ↦ unrisen.links (target_of (get_or cs i c)) rose
      ]) in
      record {
        faults = part.faults ∙ count_nobody part.counted cs uncounted;
        clean = λ i c few. part.clean i c few (uncounted i c few);
      }

  never_rose : Rose 0 0 → ⊥
  never_rose (inl less) = absurd (omega (arith, less))
  never_rose (inr most) = absurd (omega (arith, most))

  fault_part : (f g : Bool) → f ≡ false
      → Rose (polls_over f (n.poll_faults x)) (polls_over g (n.poll_faults y))
      ⊎ Rose (faults_over (n.faults x) listener) (faults_over (n.faults y) listener)
      → IsTrue g ⊎ Rose (n.poll_faults x) (n.poll_faults y)
  fault_part f true on_time rose = inl refl
  fault_part true false on_time rose = absurd (cc)
  fault_part false false on_time (inl rose) = inr rose
  fault_part false false on_time (inr rose) = absurd (never_rose rose)

  serves_by : (cs : List ChanId) (result : Result Served ServeError) → Answers plan cs old new result
      → All (λ c. c ≢ listener) cs → All (λ c. target_of c ≢ listener) cs
      → IfOk result (λ served. HasServedPart plan.target plan.conns cs (view_of n x) (view_of n y) served.faults)
  serves_by cs (Ok served) has clients targets = served_part cs served has clients targets
  serves_by cs (Err error) has clients targets = tt

  fault_by : (cs : List ChanId) (result : Result Served ServeError) → e ≡ false → Answers plan cs old new result
      → result ≡ Err NetFault → IsTrue early ⊎ Rose (n.poll_faults x) (n.poll_faults y)
  fault_by cs (Ok served) on_time has is = absurd (cc)
  fault_by cs (Err NetFault) on_time has is = fault_part e early on_time has
  fault_by cs (Err Memory) on_time has is = absurd (cc)

  clean_by : (cs : List ChanId) (result : Result Served ServeError)
      → IfOk result (λ served. HasServedPart plan.target plan.conns cs (view_of n x) (view_of n y) served.faults)
      → NoneRose (view_of n x) (view_of n y) → IfOk result (IsCleanPart cs (n.link y))
  clean_by cs (Ok served) part unrisen = clean_part cs served part unrisen
  clean_by cs (Err error) part unrisen = tt

  pub worked : (result : Result Served ServeError) → e ≡ false → Serves plan old new result
      → HasWorked n plan.target plan.conns x y put early result
  worked result on_time serves =
      let its : serves.clients ≡ clients_of put = sym (serves.accepted ∙ ap (λ l. l ++ serves.clients) none) in
      let clients = clients_other serves.clients serves.apart in
      let targets = targets_other serves.clients serves.apart in
      let part = serves_by serves.clients result serves.answers clients targets in
      record {
        relays = subst (λ cs. RelaysPart plan.target plan.conns cs (view_of n y)) its (record {
          within = serves.within;
          apart = serves.apart;
          relays = serves.relays;
          leaves = leaves_part serves.clients serves.leaves clients targets;
        });
        serves = subst
            (λ cs. IfOk result (λ served.
            HasServedPart plan.target plan.conns cs (view_of n x) (view_of n y) served.faults)) its part;
        fault = fault_by serves.clients result on_time serves.answers;
        complete = λ unrisen.
            subst (λ cs. IfOk result (IsCleanPart cs (n.link y))) its (clean_by serves.clients result part unrisen);
      }

-- ---- a net on which nothing was done

apart_none : AllPairs (λ a b. a ≢ b) (run_channels [])
apart_none i j d less few = absurd (omega (arith, less, few))

pub fresh_part : {N : Type 0} (n : Members N) (target : Addr) (conns : ℕ) (x : N) → IsFresh (view_of n x)
    → RelaysPart target conns [] (view_of n x)
fresh_part n target conns x is = record {
  within = omega arith;
  apart = apart_none;
  relays = All-nil (WasRelayed (n.link x));
  leaves = record {
    vacant = λ c. subst (λ (p : Place). IsVacant p.standing) (sym (is.unasked c)) tt;
    unasked = is.unasked listener;
    no_bytes = is.carried listener;
    put_in = All-nil (λ c. (n.place x c).role ≡ role.PutIn);
    targets = All-nil (λ c. IsAtMost (role.Connected target) (n.place x (target_of c)).role);
    others = λ c _. record { no_bytes = is.carried c; unasked = is.unasked c };
  };
}

module _ {N : Type 0} (n : Members N) (plan : ProxyPlan) (x : N) (put : List Handover) (early : Bool)
    (none : put ≡ []) (is : IsFresh (view_of n x)) where
  no_clients : clients_of put ≡ []
  no_clients = ap clients_of none

  part_none : RelaysPart plan.target plan.conns (clients_of put) (view_of n x)
  part_none = subst (λ cs. RelaysPart plan.target plan.conns cs (view_of n x)) (sym no_clients)
      (fresh_part n plan.target plan.conns x is)

  -- where it has no connections
  pub worked_none : (served : Served) → plan.conns ≡ 0 → served.faults ≡ 0
      → HasWorked n plan.target plan.conns x x put early (Ok served)
  worked_none served no_conns no_faults = record {
    relays = part_none;
    serves = subst
        (λ cs. HasServedPart plan.target plan.conns cs (view_of n x) (view_of n x) served.faults) (sym no_clients)
        (record {
          all = sym no_conns;
          begun = All-nil (WasPutIn plan.target (n.place x));
          counted = λ c. false;
          faults = no_faults;
          faulty = All-nil (λ c. IsTrue false → HasFaulted (n.faults x) (n.faults x) c);
          unfaulted = All-nil (λ c. IsFalse false → IsUnfaulted (n.faults x) (n.faults x) c);
          clean = All-nil (λ c. IsFalse false → WasClean (n.link x) c);
        });
    fault = λ failed. absurd (cc);
    complete = λ unrisen. subst (λ cs. IsCleanPart cs (n.link x) served) (sym no_clients)
        (record { faults = no_faults; clean = All-nil (WasClean (n.link x)) });
  }

  -- where nothing was done
  pub worked_not : HasWorked n plan.target plan.conns x x put early (Err Memory)
  worked_not = record {
    relays = part_none;
    serves = tt;
    fault = λ failed. absurd (cc);
    complete = λ unrisen. tt;
  }
