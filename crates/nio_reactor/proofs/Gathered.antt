-- The passes are joined: what the one pass has seen that is left.
use Rattle.std.proofs.Common.{◌≡◌, ℕ, zero, suc, ◌+◌, ◌-◌, ◌<◌, ◌≤◌, inl, inr, ⊎_elim, Bool, if◌then◌else◌, Some, Result, Ok}
use Rattle.std.proofs.Common.{Err, IsOk, OnOk, IfOk, List, [], ◌∷◌, ◌++◌, length, map, filter, All, append_assoc}
use Rattle.std.proofs.Common.{slice_get, slice_index_or, get_or, refl, sym, ap, subst, ◌∙◌, arith}
use Rattle.std.proofs.lemmas.Bool.{cases_eq, cases_lt, ne_eqb}
use Rattle.std.proofs.lemmas.List.{get_or-map, length-map}
use Rattle.std.proofs.lemmas.List.Elements.{All-append, All-head, All-nil, All-push, All-tail, All-weaker}
use Rattle.std.proofs.lemmas.Option.{get_or_from_slice_get}
use Rattle.nio_base.specs.declared.limits.Limits.{Limits}
use Rattle.nio_base.specs.declared.numbers.CallerNo.{CallerNo}
use Rattle.nio_base.specs.declared.numbers.ChanId.{ChanId}
use Rattle.nio_base.specs.declared.numbers.SelNo.{SelNo}
use Rattle.nio_history.specs.Histories.{mine, is_by, IsLegal}
use Rattle.nio_history.specs.declared.act.Act.{Act}
use Rattle.nio_history.specs.declared.event.Event.{Event}
use Rattle.nio_orderly.specs.Made.{Made}
use Rattle.nio_orderly.specs.Orderly.{IsWhole}
use Rattle.nio_reactor.proofs.Handing.{clients_at}
use Rattle.nio_reactor.proofs.Placed.{AreClients, IsOf, WasOnce, are_of, none_behind, none_elsewhere, once_each}
use Rattle.nio_reactor.specs.Dealing.{slots_of}
use Rattle.nio_reactor.specs.Handing.{put_at, put_below}
use Rattle.nio_reactor.specs.Placing.{ArePlaced, HoldsAll, IsPlaced, IsRegisteredOnce, caller, channel_of, deal_of}
use Rattle.nio_reactor.specs.Placing.{selectors_with, served_of, table_for}
use Rattle.nio_reactor.specs.Seats.{HaveSeats, IsNewcomer, LeavesSeat, LeaveSeats, StandsIn, acceptor_deal}
use Rattle.nio_reactor.specs.Seats.{channels_for}
use Rattle.nio_reactor.specs.Working.{Concludes, clients_of}
use Rattle.nio_reactor.specs.declared.handover.Handover.{Handover}
use Rattle.nio_reactor.specs.declared.many.ManyError.{ManyError}
use Rattle.nio_reactor.proofs.Lists.{element, nets_end}
use Rattle.nio_relay.specs.declared.plan.ProxyPlan.{ProxyPlan}
use Rattle.nio_relay.specs.declared.plan.Served.{Served}
use Rattle.nio_board.specs.Called.{HasRegistered, registrations, seats}
use Rattle.nio_serve.specs.Serving.{listener, target_of}
use Rattle.nio_serve.specs.declared.serving.ServeError.{ServeError}
use Rattle.nio_steps.specs.Names.{selector}
use Rattle.nio_words.specs.Passes.{Holds, IsPassOf, IsReady, acts_seen, limits_of, seen}
use Rattle.nio_words.specs.Sharing.{Joins}
use Rattle.nio_words.specs.declared.words.Pass.{Pass}
use Rattle.nio_words.specs.declared.words.Words.{Words}

-- ---- joining

pub stands_self : (p : Pass) → StandsIn p p
stands_self p = record { holds = λ n held. held; own = λ n held. refl }

pub stands_on : (a b c : Pass) → StandsIn a b → StandsIn b c → StandsIn a c
stands_on a b c first later = record {
  holds = λ n held. later.holds n (first.holds n held);
  own = λ n held. later.own n (first.holds n held) ∙ first.own n held;
}

pub joined_own : (w : Words) (before other after : Pass) → Joins w before other after → StandsIn before after
joined_own w before other after joins =
    record { holds = λ n held. (joins.numbers n).1 (inl held); own = joins.stands.own }

pub joined_other : (w : Words) (before other after : Pass) → Joins w before other after → StandsIn other after
joined_other w before other after joins =
    record { holds = λ n held. (joins.numbers n).1 (inr held); own = joins.other_stands.own }

pub ready_on : (w : Words) (a p : Pass) (n : CallerNo) → StandsIn a p → IsPassOf w p → IsReady w a n → IsReady w p n
ready_on w a p n stands pass ready = record { pass = pass; number = stands.holds n ready.number }

pub registered_on : (l : Limits) (a p : Pass) (n : CallerNo) (those : List (SelNo × ChanId)) → StandsIn a p → Holds a n
    → HasRegistered l (acts_seen a n) those → HasRegistered l (acts_seen p n) those
registered_on l a p n those stands held has =
    subst (λ (own : List Act). HasRegistered l own those) (sym (stands.own n held)) has

-- some are joined, the first ones, and the others are still there
pub record IsGathering {X : Type 0} (pass : X → Pass) (w : Words) (before now : Pass) (all left : List X) : Type 0
  where
    pub pass_is : IsPassOf w now
    pub own : StandsIn before now
    pub joined : List X
    pub parts : all ≡ joined ++ left
    pub each : All (λ x. StandsIn (pass x) now) joined
    pub passes : All (λ x. IsPassOf w (pass x)) left

pub begins_gathering : {X : Type 0} (pass : X → Pass) (w : Words) (p : Pass) (all : List X) → IsPassOf w p
    → All (λ x. IsPassOf w (pass x)) all → IsGathering pass w p p all all
begins_gathering pass w p all is passes = record {
  pass_is = is;
  own = stands_self p;
  joined = [];
  parts = refl;
  each = All-nil (λ x. StandsIn (pass x) p);
  passes = passes;
}

pub first_pass : {X : Type 0} (pass : X → Pass) (w : Words) (before now : Pass) (all left rest : List X) (x : X)
    → IsGathering pass w before now all left → left ≡ x ∷ rest → IsPassOf w (pass x)
first_pass pass w before now all left rest x at first =
    All-head (λ y. IsPassOf w (pass y)) x rest (subst (All (λ y. IsPassOf w (pass y))) first at.passes)

pub goes_on_gathering : {X : Type 0} (pass : X → Pass) (w : Words) (before now after : Pass) (all left rest : List X)
    (x : X) → IsGathering pass w before now all left → left ≡ x ∷ rest → Joins w now (pass x) after
    → IsGathering pass w before after all rest
goes_on_gathering pass w before now after all left rest x at first joins =
    let further : StandsIn now after = joined_own w now (pass x) after joins in
    record {
      pass_is = joins.pass;
      own = stands_on before now after at.own further;
      joined = at.joined ++ x ∷ [];
      parts = at.parts ∙ (ap (λ l. at.joined ++ l) first ∙ sym (append_assoc at.joined (x ∷ []) rest));
      each = All-push (λ z. StandsIn (pass z) after) at.joined x
          (All-weaker (λ z. StandsIn (pass z) now) (λ z. StandsIn (pass z) after)
          (λ z there. stands_on (pass z) now after there further) at.joined at.each)
          (joined_other w now (pass x) after joins);
      passes = All-tail (λ z. IsPassOf w (pass z)) x rest (subst (All (λ z. IsPassOf w (pass z))) first at.passes);
    }

pub all_gathered : {X : Type 0} (pass : X → Pass) (w : Words) (before now : Pass) (all left : List X)
    → IsGathering pass w before now all left → length left ≡ 0 → All (λ x. StandsIn (pass x) now) all
all_gathered pass w before now all left at none =
    subst (All (λ x. StandsIn (pass x) now))
    (nets_end at.joined left all (sym at.parts) none) at.each

-- ---- callers beyond the limit

done_nothing : (n : CallerNo) (k : ℕ) (events : List Event) → k ≤ n.0
    → ((past : List Event) (e : Event) (later : List Event) → events ≡ past ++ e ∷ later → e.caller.0 < k)
    → mine n events ≡ []
done_nothing n k [] above below = refl
done_nothing n k (e ∷ events) above below =
    ap (λ (b : Bool). map (λ (x : Event). x.act) (if b then e ∷ filter (is_by n) events else filter (is_by n) events))
    (ne_eqb e.caller.0 n.0 (λ same.
    let less : e.caller.0 < k = below [] e events refl in
    absurd (omega (arith, same, less, above))))
    ∙ done_nothing n k events above
    (λ past x later is. below (e ∷ past) x later (ap (λ (l : List Event). e ∷ l) is))

nobody_else : (l : Limits) (n : CallerNo) (events : List Event) → IsLegal l events → l.callers ≤ n.0
    → mine n events ≡ []
nobody_else l n events legal above =
    done_nothing n l.callers events above (λ past e later is. (legal.steps past e later is).by_caller)

-- ---- what each caller registered

on_ok : {T E P : Type 0} (r : Result T E) → IsOk r → OnOk r P → P
on_ok (Ok x) ok has = has
on_ok (Err e) ok has = absurd (cc)

-- Of w workers and so many slots, where each worker has put in these, these are the registrations of the caller of this
-- number.
pub record AreOwn (w slots : ℕ) (clients : ℕ → List ChanId) (n : ℕ) (those : List (SelNo × ChanId)) : Type 0 where
  pub acceptor : n ≡ 0 → those ≡ seats (Some acceptor_deal) (selector 0) (listener ∷ [])
  pub worker : (v : ℕ) → v < w → n ≡ v + 1
      → those ≡ seats (Some (deal_of w v slots)) (selector (v + 1)) (channels_for (clients v))
  pub nobody : w < n → those ≡ []

pub record HasOwn (w slots : ℕ) (clients : ℕ → List ChanId) (p : Pass) (n : CallerNo) : Type 0 where
  pub those : List (SelNo × ChanId)
  pub has : HasRegistered (table_for w) (acts_seen p n) those
  pub own : AreOwn w slots clients n.0 those

module _ (w slots : ℕ) (clients : ℕ → List ChanId) (p : Pass) (own : (n : CallerNo) → HasOwn w slots clients p n) where
  abbrev calls : CallerNo → List Made
  calls n = (own n).has.calls

  made : (n : CallerNo) → registrations (calls n) ≡ (own n).those
  made n = (own n).has.registered

  not_zero : (n : ℕ) → (n ≡ 0 → ⊥) → n ≡ (n - 1) + 1
  not_zero n other = omega (arith, other)

  module _ (are : (v : ℕ) → v < w → AreClients w slots v (clients v)) where
    -- a channel of a worker that it has registered once
    registered_once : (v : ℕ) (c : ChanId) → v < w → IsOf w slots v c
        → WasOnce w slots v (selector (v + 1)) (clients v) c
        → IsRegisteredOnce calls (v + 1) (channel_of w slots v c)
    registered_once v c less its once = record {
      once = ap (selectors_with (channel_of w slots v c))
          (made (caller (v + 1)) ∙ (own (caller (v + 1))).own.worker v less refl) ∙ once;
      alone = λ n other. ap (selectors_with (channel_of w slots v c)) (made n) ∙ ⊎_elim
          (λ (zero_is : n.0 ≡ 0).
          ap (selectors_with (channel_of w slots v c)) ((own n).own.acceptor zero_is)
          ∙ none_behind w slots v (selector 0) c)
          (λ (later : n.0 ≡ 0 → ⊥).
          let next : n.0 ≡ (n.0 - 1) + 1 = not_zero n.0 later in
          ⊎_elim
          (λ (few : n.0 - 1 < w).
          ap (selectors_with (channel_of w slots v c)) ((own n).own.worker (n.0 - 1) few next)
          ∙ none_elsewhere w slots (n.0 - 1) v (selector ((n.0 - 1) + 1)) (clients (n.0 - 1)) c few less
          (λ same. other (next ∙ ap (λ m. m + 1) same)) (are (n.0 - 1) few) its)
          (λ (more : w ≤ n.0 - 1).
          ap (selectors_with (channel_of w slots v c)) ((own n).own.nobody (omega (arith, more, next))))
          (cases_lt (n.0 - 1) w))
          (cases_eq n.0 0);
    }

    -- both channels of each connection of a worker
    both_once : (v : ℕ) → v < w
        → All (λ c. IsRegisteredOnce calls (v + 1) (channel_of w slots v c)
        × IsRegisteredOnce calls (v + 1) (channel_of w slots v (target_of c))) (clients v)
    both_once v less i d few =
        let c : ChanId = get_or (clients v) i d in
        let its = are_of w slots v (clients v) (are v less) i d few in
        let once = once_each w slots v (selector (v + 1)) (clients v) less (are v less) i d few in
        (registered_once v c less its.0 once.0, registered_once v (target_of c) less its.1 once.1)

    -- those that a worker has put in
    placed_at : (v : ℕ) (put : List Handover) → v < w → clients_of put ≡ clients v → All (λ h. h.worker ≡ v) put
        → All (IsPlaced w slots calls) put
    placed_at v put less same own_is i h few =
        let k : Handover = get_or put i h in
        let is : get_or (clients v) i h.client ≡ k.client
        = ap (λ l. get_or l i h.client) (sym same) ∙ get_or-map (λ (x : Handover). x.client) put i h h.client few in
        let both = both_once v less i h.client
        (subst (λ n. i < n) (sym (length-map put (λ (x : Handover). x.client)) ∙ ap length same) few) in
        let here : k.worker ≡ v = own_is i h few in
        record {
          client = subst (λ u. IsRegisteredOnce calls (u + 1) (channel_of w slots u k.client)) (sym here)
              (subst (λ c. IsRegisteredOnce calls (v + 1) (channel_of w slots v c)) is both.0);
          target = subst (λ u. IsRegisteredOnce calls (u + 1) (channel_of w slots u (target_of k.client))) (sym here)
              (subst (λ c. IsRegisteredOnce calls (v + 1) (channel_of w slots v (target_of c))) is both.1);
        }

    -- and those of the first n workers
    placed_below : {X : Type 0} (put : X → List Handover) (lanes : List X) (n : ℕ) → n ≤ w → n ≤ length lanes
        → ((v : ℕ) → v < w → clients v ≡ clients_at put lanes v)
        → ((v : ℕ) (x : X) → slice_get lanes v ≡ Some x → All (λ h. h.worker ≡ v) (put x))
        → All (IsPlaced w slots calls) (put_below put lanes n)
    placed_below put lanes zero few within same own_is = All-nil (IsPlaced w slots calls)
    placed_below put lanes (suc n) few within same own_is =
        let b = element lanes n (omega (arith, within)) in
        All-append (IsPlaced w slots calls) (put_below put lanes n) (put_at put (slice_get lanes n))
        (placed_below put lanes n (omega (arith, few)) (omega (arith, within)) same own_is)
        (subst (λ o. All (IsPlaced w slots calls) (put_at put o)) (sym b.1)
        (placed_at n (put b.0) (omega (arith, few))
        (sym (ap (λ o. clients_of (put_at put o)) b.1) ∙ sym (same n (omega (arith, few)))) (own_is n b.0 b.1)))

    are_placed : {X : Type 0} (put : X → List Handover) (lanes : List X) (old new : List Handover) → length lanes ≡ w
        → ((v : ℕ) → v < w → clients v ≡ clients_at put lanes v)
        → ((v : ℕ) (x : X) → slice_get lanes v ≡ Some x → All (λ h. h.worker ≡ v) (put x))
        → new ≡ old ++ put_below put lanes (length lanes) → ArePlaced w slots old new (seen p)
    are_placed put lanes old new count same own_is new_is = record {
      calls = calls;
      are = λ n. (own n).has.are;
      acceptor = made (caller 0) ∙ (own (caller 0)).own.acceptor refl;
      added = put_below put lanes (length lanes);
      handed = new_is;
      placed = placed_below put lanes (length lanes) (omega (arith, count)) (omega arith) same own_is;
    }

  is_whole : IsWhole (table_for w) (seen p)
  is_whole n = record { calls = calls n; are = (own n).has.are }

-- ---- at the end of a call

-- what the pass that is left shows, where the plan was served
pub record Settled (w slots : ℕ) (old new : List Handover) (p : Pass) : Type 0 where
  pub holds : HoldsAll (table_for w) p
  pub whole : IsWhole (table_for w) (seen p)
  pub placed : ArePlaced w slots old new (seen p)

module _ {X : Type 0} (words : Words) (plan : ProxyPlan) (put : X → List Handover)
    (outcome : X → Result Served ServeError) (pass : X → Pass) (w : ℕ) (limits : limits_of words ≡ table_for w)
    (before now : List X) (count : length before ≡ w) (same : length now ≡ length before)
    (leave : LeaveSeats words plan pass put outcome before now) (acceptor p : Pass) (is_pass : IsPassOf words p)
    (stands : StandsIn acceptor p) (each : All (λ x. StandsIn (pass x) p) now)
    (accepted : Result (Unit {0}) ManyError)
    (leaves : LeavesSeat words 0 acceptor_deal (listener ∷ []) acceptor accepted) where
  abbrev slots : ℕ
  slots = slots_of w plan

  -- under which channels each worker has put its links in
  abbrev clients : ℕ → List ChanId
  clients v = clients_at put now v

  module _ (accepted_ok : IsOk accepted)
      (all_ok : (v : ℕ) (x : X) → slice_get now v ≡ Some x → IsOk (outcome x)) where
    abbrev listens : List (SelNo × ChanId)
    listens = seats (Some acceptor_deal) (selector 0) (listener ∷ [])

    of_acceptor : (n : CallerNo) → n.0 ≡ 0 → HasOwn w slots clients p n
    of_acceptor n is = record {
      those = listens;
      has = subst (λ (m : CallerNo). HasRegistered (table_for w) (acts_seen p m) listens) (sym (ap caller is))
          (subst (λ (l : Limits). HasRegistered l (acts_seen p (caller 0)) listens) limits
          (registered_on (limits_of words) acceptor p (caller 0) listens stands leaves.ready.number
          (on_ok accepted accepted_ok leaves.called)));
      own = record {
        acceptor = λ _. refl;
        worker = λ v less next. absurd (omega (arith, is, next));
        nobody = λ above. absurd (omega (arith, is, above));
      };
    }

    of_worker : (v : ℕ) → v < w → HasOwn w slots clients p (caller (v + 1))
    of_worker v less =
        let within : v < length before = omega (arith, less, count) in
        let found = element now v (omega (arith, within, same)) in
        let x : X = found.0 in
        let at : slice_index_or now v x ≡ x = get_or_from_slice_get now v x x found.1 in
        let those : List (SelNo × ChanId)
        = seats (Some (deal_of w v slots)) (selector (v + 1)) (channels_for (clients v)) in
        let put_is : clients_of (put x) ≡ clients v = sym (ap (λ o. clients_of (put_at put o)) found.1) in
        let left : LeavesSeat words (v + 1) (deal_of w v slots) (channels_for (clients v)) (pass x) (outcome x)
        = subst (λ cs. LeavesSeat words (v + 1) (deal_of w v slots) (channels_for cs) (pass x) (outcome x)) put_is
        (subst (λ (y : X). LeavesSeat words (v + 1) (deal_of w v slots) (channels_for (clients_of (put y))) (pass y)
        (outcome y)) at
        (subst (λ m. LeavesSeat words (v + 1) (deal_of m v (slots_of m plan))
        (channels_for (clients_of (put (slice_index_or now v x)))) (pass (slice_index_or now v x))
        (outcome (slice_index_or now v x))) count (leave v x within))) in
        let its : StandsIn (pass x) p
        = subst (λ (y : X). StandsIn (pass y) p) at (each v x (omega (arith, within, same))) in
        record {
          those = those;
          has = subst (λ (l : Limits). HasRegistered l (acts_seen p (caller (v + 1))) those) limits
              (registered_on (limits_of words) (pass x) p (caller (v + 1)) those its left.ready.number
              (on_ok (outcome x) (all_ok v x found.1) left.called));
          own = record {
            acceptor = λ is. absurd (omega (arith, is));
            worker = λ u few next.
                let here : v ≡ u = omega (arith, next) in
                ap (λ j. seats (Some (deal_of w j slots)) (selector (j + 1)) (channels_for (clients j))) here;
            nobody = λ above. absurd (omega (arith, less, above));
          };
        }

    of_nobody : (n : CallerNo) → w < n.0 → HasOwn w slots clients p n
    of_nobody n above = record {
      those = [];
      has = subst (λ (own : List Act). HasRegistered (table_for w) own [])
          (sym (nobody_else (table_for w) n (seen p) (subst (λ (l : Limits). IsLegal l (seen p)) limits is_pass.legal)
          (omega (arith, above))))
          (record { calls = []; are = record { runs = refl; in_order = tt }; registered = refl });
      own = record {
        acceptor = λ is. absurd (omega (arith, is, above));
        worker = λ v less next. absurd (omega (arith, less, next, above));
        nobody = λ _. refl;
      };
    }

    pub own_of : (n : CallerNo) → HasOwn w slots clients p n
    own_of n = ⊎_elim
        (λ (zero_is : n.0 ≡ 0). of_acceptor n zero_is)
        (λ (later : n.0 ≡ 0 → ⊥).
        let next : n.0 ≡ (n.0 - 1) + 1 = omega (arith, later) in
        ⊎_elim
        (λ (less : n.0 - 1 < w).
        subst (HasOwn w slots clients p) (sym (ap caller next)) (of_worker (n.0 - 1) less))
        (λ (more : w ≤ n.0 - 1). of_nobody n (omega (arith, more, next)))
        (cases_lt (n.0 - 1) w))
        (cases_eq n.0 0)

  -- what the call answers at Ok, with this pass
  module _ (result : Result Served ManyError)
      (concludes : Concludes accepted outcome plan.conns now result) (some : 0 < w) where
    owned : (served : Served) → result ≡ Ok served → (n : CallerNo) → HasOwn w slots clients p n
    owned served is n =
        let all : Concludes accepted outcome plan.conns now (Ok served)
        = subst (Concludes accepted outcome plan.conns now) is concludes in
        own_of all.0 all.1.all n

  ready_worker : (v : ℕ) → v < w → IsReady words p (caller (v + 1))
  ready_worker v less =
      let within : v < length before = omega (arith, less, count) in
      let x : X = (element now v (omega (arith, within, same))).0 in
      ready_on words (pass (slice_index_or now v x)) p (caller (v + 1)) (each v x (omega (arith, within, same))) is_pass
      (leave v x within).ready

  holds_all : HoldsAll (table_for w) p
  holds_all = record {
    legal = subst (λ (l : Limits). IsLegal l (seen p)) limits is_pass.legal;
    holds = λ n below. ⊎_elim
        (λ (zero_is : n.0 ≡ 0).
        subst (Holds p) (sym (ap caller zero_is)) (stands.holds (caller 0) leaves.ready.number))
        (λ (later : n.0 ≡ 0 → ⊥).
        let next : n.0 ≡ (n.0 - 1) + 1 = omega (arith, later) in
        subst (Holds p) (sym (ap caller next)) (ready_worker (n.0 - 1) (omega (arith, next, below))).number)
        (cases_eq n.0 0);
  }

  -- where the call answers Ok
  pub settled : (result : Result Served ManyError) → Concludes accepted outcome plan.conns now result → 0 < w
      → ((v : ℕ) → v < w → AreClients w slots v (clients v))
      → ((v : ℕ) (x : X) → slice_get now v ≡ Some x → All (λ h. h.worker ≡ v) (put x)) → (old new : List Handover)
      → new ≡ old ++ put_below put now (length now) → (served : Served) → result ≡ Ok served → Settled w slots old new p
  settled result concludes some are own_is old new new_is served is =
      let own = owned result concludes some served is in record {
        holds = holds_all;
        whole = is_whole w slots clients p own;
        placed = are_placed w slots clients p own are put now old new (same ∙ count) (λ v less. refl) own_is new_is;
      }

-- ---- the workers have the passes that were handed out

pub seats_of : {X : Type 0} (w : Words) (pass : X → Pass) (workers : List X) (passes : List Pass)
    → map pass workers ≡ passes → HaveSeats w (λ p. p) passes → HaveSeats w pass workers
seats_of {X} w pass workers passes same seats v x less =
    let within : v < length passes
    = subst (λ n. v < n) (sym (length-map workers pass) ∙ ap length same) less in
    subst (λ p. IsNewcomer w p (caller (v + 1))) (get_or-map pass workers v x (pass x) less)
    (subst (λ (l : List Pass). IsNewcomer w (slice_index_or l v (pass x)) (caller (v + 1))) (sym same)
    (seats v (pass x) within))

pub passes_after : {X : Type 0} (w : Words) (plan : ProxyPlan) (pass : X → Pass) (put : X → List Handover)
    (outcome : X → Result Served ServeError) (before now : List X) → length now ≡ length before
    → LeaveSeats w plan pass put outcome before now → All (λ x. IsPassOf w (pass x)) now
passes_after w plan pass put outcome before now same leave k x less =
    (leave k x (subst (λ n. k < n) same less)).ready.pass

-- with the pass
pub answered_with : (P : Pass → Type 0) (p : Pass) (outcome : Result Served ManyError)
    (result : Result (Served × Pass) ManyError) → served_of result ≡ outcome → IfOk result (λ done. done.1 ≡ p)
    → ((served : Served) → outcome ≡ Ok served → P p) → IfOk result (λ done. P done.1)
answered_with P p outcome (Ok done) served_is pass_is has = subst P (sym pass_is) (has done.0 (sym served_is))
answered_with P p outcome (Err error) served_is pass_is has = tt
