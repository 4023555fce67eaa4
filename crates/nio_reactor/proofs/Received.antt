-- What a lane has received on its line.
use Rattle.std.proofs.Common.{◌≡◌, ℕ, ◌+◌, ◌-◌, ◌<◌, ◌≤◌, inl, inr, ◌⊎◌, Ok, Err, Result, Option, Some, refl, sym, ap}
use Rattle.std.proofs.Common.{subst, ◌∙◌, List, [], ◌∷◌, ◌++◌, map, length, arith, length-append, IsTrue, IsFalse, Bool, true, false, eqb-true}
use Rattle.std.proofs.Common.{OnOk, slice_get}
use Rattle.std.proofs.lemmas.Bool.{cases_eq}
use Rattle.std.proofs.lemmas.List.{append-nil, length-map, map_push, nil_from_length}
use Rattle.std.proofs.lemmas.Option.{same_Some, slice_get_within}
use mathlib.Core.List.{IsPrefix}
use Rattle.nio_base.specs.declared.numbers.Addr.{Addr}
use Rattle.nio_base.specs.declared.numbers.ChanId.{ChanId}
use Rattle.nio_line.specs.Lines.{End as LineEnd, Exit as LineExit}
use Rattle.nio_link.specs.Places.{never_asked}
use Rattle.nio_link.specs.declared.place.Place.{Place}
use Rattle.nio_link.specs.declared.place.Role.TheVariants as role
use Rattle.nio_link.specs.Nets.{NetView}
use Rattle.nio_relay.specs.declared.plan.ProxyPlan.{ProxyPlan}
use Rattle.nio_relay.specs.declared.plan.Served.{Served}
use Rattle.nio_serve.specs.Serving.{listener, Answers, IsAtMost, Serves}
use Rattle.nio_serve.specs.declared.serving.ServeError.{ServeError}
use Rattle.nio_reactor.specs.Dealing.{number_of}
use Rattle.nio_reactor.specs.Doors.{worker_at}
use Rattle.nio_reactor.specs.Lanes.{door_place}
use Rattle.nio_reactor.specs.Receiving.{AreSettled, HasReceived, is_door_of, put_number}
use Rattle.nio_reactor.specs.declared.door.Door.{Door}
use Rattle.nio_reactor.specs.declared.door.Door.TheVariants as door
use Rattle.nio_reactor.specs.declared.handover.Handover.{Handover}
use Rattle.nio_reactor.specs.declared.message.Message.{Message}

-- ---- one more link

-- the link in hand was put in
pub numbers_next : (put now : List Handover) (h : Handover) (came before after : List (Option ℕ))
    → now ≡ put ++ h ∷ [] → came ≡ map put_number put ++ before → before ≡ Some h.connection ∷ [] → after ≡ []
    → came ≡ map put_number now ++ after
numbers_next put now h came before after now_is was before_is after_is =
    was ∙ ap (λ l. map put_number put ++ l) before_is ∙ sym (map_push put_number put h)
    ∙ ap (map put_number) (sym now_is) ∙ sym (append-nil (map put_number now))
    ∙ ap (λ l. map put_number now ++ l) (sym after_is)

pub count_next : (put now : List Handover) (h : Handover) (left after all : ℕ) → now ≡ put ++ h ∷ [] → 0 < left
    → after ≡ left - 1 → left + length put ≡ all → after + length now ≡ all
count_next put now h left after all now_is some after_is was =
    let longer : length now ≡ length put + 1 = ap length now_is ∙ length-append put (h ∷ []) in
    omega (arith, longer, some, after_is, was)

-- ---- a lane whose line wasn't listened at

unasked_is : (d : Door) → door_place d ≡ never_asked → d ≡ door.Unasked
unasked_is door.Unasked is = refl
unasked_is (door.Open at) is =
    let same : role.Listener at ≡ role.Nothing = ap (λ (p : Place). p.role) is in absurd (cc)
unasked_is (door.Closed at) is =
    let same : role.Listener at ≡ role.Nothing = ap (λ (p : Place). p.role) is in absurd (cc)

pub nothing_came : {M : Type 0} (worker : ℕ) (d : Door) (carried : List M) → d ≡ door.Unasked
    → (IsFalse (is_door_of worker d) → length carried ≡ 0) → length carried ≡ 0
nothing_came worker d carried unasked at_door = at_door (ap (is_door_of worker) unasked)

-- it begins to listen
pub opens : {M : Type 0} (worker : ℕ) (d : Door) (carried : List M) → door_place d ≡ never_asked
    → (IsFalse (is_door_of worker d) → length carried ≡ 0) → length carried ≡ 0
opens worker d carried is at_door = nothing_came worker d carried (unasked_is d is) at_door

pub empty : (put : List Handover) (hand : List (Option ℕ)) → [] ≡ map put_number put ++ hand → put ≡ []
empty [] hand is = refl
empty (h ∷ put) hand is = absurd (cc)

module _ {L : Type 0} (v conns worker : ℕ) (d : Door) (line : LineExit (Message L)) (put : List Handover)
    (hand : List (Option ℕ)) (unasked : d ≡ door.Unasked)
    (at_door : IsFalse (is_door_of worker d) → length line.carried ≡ 0)
    (numbers : map number_of line.carried ≡ map put_number put ++ hand) where
  none_came : line.carried ≡ []
  none_came = nil_from_length line.carried (nothing_came worker d line.carried unasked at_door)

  pub none_put : put ≡ []
  none_put = empty put hand (ap (map number_of) (sym none_came) ∙ numbers)

  -- where it has no connections
  pub received_none : (served : Served) → conns ≡ 0 → HasReceived v conns line worker put (Ok served)
  received_none served none = record {
    few = omega (arith, ap length none_put);
    all = ap length none_put ∙ sym none;
    own = inl none_came;
  }

  -- where nothing was done
  pub received_not : (error : ServeError) → HasReceived v conns line worker put (Err error)
  received_not error = record {
    few = omega (arith, ap length none_put);
    all = tt;
    own = inl none_came;
  }

-- ---- a lane that was served

door_at : (listen : Addr) (worker : ℕ) (d : Door) → IsAtMost (role.Listener listen) (door_place d).role
    → IsTrue (is_door_of worker d) → worker ≡ worker_at listen
door_at listen worker door.Unasked listens is = absurd (cc)
door_at listen worker (door.Open at) (inl none) is = absurd (cc)
door_at listen worker (door.Open at) (inr its) is =
    let same : at ≡ listen = cc in sym (eqb-true (worker_at at) worker is) ∙ ap worker_at same
door_at listen worker (door.Closed at) (inl none) is = absurd (cc)
door_at listen worker (door.Closed at) (inr its) is =
    let same : at ≡ listen = cc in sym (eqb-true (worker_at at) worker is) ∙ ap worker_at same

own_line : {M : Type 0} (listen : Addr) (worker : ℕ) (d : Door) (carried : List M)
    → IsAtMost (role.Listener listen) (door_place d).role → (IsFalse (is_door_of worker d) → length carried ≡ 0)
    → (carried ≡ []) ⊎ (worker ≡ worker_at listen)
own_line listen worker d carried listens at_door = by_door (is_door_of worker d) refl
  where
    by_door : (b : Bool) → is_door_of worker d ≡ b → (carried ≡ []) ⊎ (worker ≡ worker_at listen)
    by_door true is = inr (door_at listen worker d listens is)
    by_door false is = inl (nil_from_length carried (at_door is))

all_served : (plan : ProxyPlan) (clients : List ChanId) (old new : NetView) (result : Result Served ServeError)
    → Answers plan clients old new result → OnOk result (length clients ≡ plan.conns)
all_served plan clients old new (Ok served) has = has.all
all_served plan clients old new (Err error) has = tt

-- at Ok as many were accepted as the plan has
pub served_length : (plan : ProxyPlan) (old new : NetView) (result : Result Served ServeError) → old.accepted ≡ []
    → Serves plan old new result → OnOk result (length new.accepted ≡ plan.conns)
served_length plan old new result none serves =
    subst (λ l. OnOk result (length l ≡ plan.conns)) (sym (serves.accepted ∙ ap (λ l. l ++ serves.clients) none))
    (all_served plan serves.clients old new result serves.answers)

pub received_all : {M : Type 0} (plan : ProxyPlan) (old new : NetView) (before put : List Handover) (line : LineExit M)
    (worker : ℕ) (d : Door) (result : Result Served ServeError) → before ≡ []
    → old.accepted ≡ map (λ h. h.client) before → new.accepted ≡ map (λ h. h.client) put
    → new.place listener ≡ door_place d → (serves : Serves plan old new result)
    → (IsFalse (is_door_of worker d) → length line.carried ≡ 0)
    → HasReceived (worker_at plan.listen) plan.conns line worker put result
received_all plan old new before put line worker d result none old_is new_is at_listener serves at_door =
    let long : length serves.clients ≡ length put
    = sym (ap length (serves.accepted ∙ ap (λ l. l ++ serves.clients) (old_is ∙ ap (map (λ h. h.client)) none)))
    ∙ ap length new_is ∙ length-map put (λ (h : Handover). h.client) in
    record {
      few = omega (arith, long, serves.within);
      all = subst (λ k. OnOk result (k ≡ plan.conns)) long
          (all_served plan serves.clients old new result serves.answers);
      own = own_line plan.listen worker d line.carried
          (subst (λ (p : Place). IsAtMost (role.Listener plan.listen) p.role) at_listener serves.leaves.listens) at_door;
    }

-- ---- the lines are settled one after the other

-- what each of the first k workers received is the first of what was sent to it
abbrev pub SettledBelow : {X M : Type 0} → (X → LineExit M) → ℕ → List X → List (LineEnd M) → Type 0
SettledBelow {X} {M} line k lanes entries =
    (v : ℕ) (x : X) (entry : LineEnd M) → v < k → slice_get lanes v ≡ Some x → slice_get entries v ≡ Some entry
    → IsPrefix (line x).carried entry.carried

pub settled_one : {X M : Type 0} (line : X → LineExit M) (k : ℕ) (lanes : List X) (entries : List (LineEnd M)) (x : X)
    (entry : LineEnd M) → SettledBelow line k lanes entries → slice_get lanes k ≡ Some x
    → slice_get entries k ≡ Some entry → IsPrefix (line x).carried entry.carried
    → SettledBelow line (k + 1) lanes entries
settled_one {X} {M} line k lanes entries x entry so_far at_x at_entry prefix v y other less at_y at_other =
    elim (cases_eq v k) [
      | inl same ↦
          let same_x : x ≡ y = same_Some x y (sym at_x ∙ ap (slice_get lanes) (sym same) ∙ at_y) in
          let same_entry : entry ≡ other
          = same_Some entry other (sym at_entry ∙ ap (slice_get entries) (sym same) ∙ at_other) in
          subst (λ (e : LineEnd M). IsPrefix (line y).carried e.carried) same_entry
          (subst (λ (z : X). IsPrefix (line z).carried entry.carried) same_x prefix)
      | inr apart ↦ so_far v y other (below v k less apart) at_y at_other
    ]
  where
    below : (a b : ℕ) → a < b + 1 → (a ≡ b → ⊥) → a < b
    below a b less apart = omega (arith, less, apart)

pub settled_all : {X M : Type 0} (line : X → LineExit M) (k : ℕ) (lanes : List X) (entries : List (LineEnd M))
    → SettledBelow line k lanes entries → length lanes ≤ k → AreSettled line lanes entries
settled_all line k lanes entries below all v x entry at_x at_entry =
    below v x entry (omega (arith, slice_get_within lanes v x at_x, all)) at_x at_entry
