use Rattle.std.proofs.lemmas.Option.{none-some, same_Some}
-- The completions of a channel that is closed, one after another.
use Rattle.std.proofs.Common.{◌≡◌, ◌≢◌, ℕ, ◌+◌, ◌<◌, ◌≤◌, zero, suc, true, false, eqb, List, [], ◌∷◌, ◌++◌, Option}
use Rattle.std.proofs.Common.{Some, None, get_or, set, map, length, refl, sym, ap, ◌∙◌, subst, arith, inl, inr}
use Rattle.std.proofs.Common.{append_assoc, get_or-set_same, get_or-set_other}
use Rattle.std.proofs.lemmas.Bool.{false≢true, eqb-true, eqb-false}
use Rattle.std.proofs.lemmas.List.{append-nil}
use Rattle.nio_base.specs.declared.group.OpKind.{OpKind}
use Rattle.nio_base.specs.declared.group.Finished.TheVariants.{Failed}
use Rattle.nio_base.specs.declared.group.Why.TheVariants.{AsynchronousClose}
use Rattle.nio_group.specs.declared.operation.Stage.TheVariants.{Queued}
use Rattle.nio_group.specs.declared.operation.Operation.{Operation}
use Rattle.nio_group.specs.Stages.{is_pending, is_pending_on, is_pending_as, at_stage}
use Rattle.nio_group.specs.Flight.{Flight, op_at, closed_on, pending_from, with_channel_closed, with_completed}
use Rattle.nio_group.specs.Flight.{IsPendingAs}
use Rattle.nio_group.proofs.TableLemmas.{by_test}
use Rattle.std.specs.Option.{option_map}
use Rattle.nio_group.specs.declared.pending.Pending as slots
use Rattle.nio_group.specs.Pending.{slot_of, with_slot}
use Rattle.nio_group.proofs.FlightLemmas.{some-within}
use Rattle.nio_group.proofs.PendingLemmas.{kinds, pending_on-as, pending_as-on, pending-parts, pending-as-pending}
use Rattle.nio_group.proofs.PendingLemmas.{not_pending-as, filled_slots, filled_slots-less, slot_of-with_same}
use Rattle.nio_group.proofs.PendingLemmas.{slot_of-with_other}

-- where nothing is pending, nothing completes
pub pending_from-none : (c k : ℕ) (xs : List (Option Operation))
    → ((i : ℕ) → is_pending_on c (get_or xs i None) ≡ false) → pending_from c k xs ≡ []
pending_from-none c k [] h = refl
pending_from-none c k (x ∷ xs) h = rw (h 0) (pending_from-none c (k + 1) xs (λ i. h (suc i)))

pub map-closed_on-none : (c : ℕ) (xs : List (Option Operation)) → ((i : ℕ) → is_pending_on c (get_or xs i None) ≡ false)
    → map (closed_on c) xs ≡ xs
map-closed_on-none c [] h = refl
map-closed_on-none c (x ∷ xs) h =
    let here : closed_on c x ≡ x = rw (h 0) refl in
    let rest = map-closed_on-none c xs (λ i. h (suc i)) in
    ap (λ y. y ∷ map (closed_on c) xs) here ∙ ap (λ ys. x ∷ ys) rest

-- the first that is pending completes first
pub pending_from-first : (c k i : ℕ) (xs : List (Option Operation)) (slot : Option Operation)
    → is_pending_on c (get_or xs i None) ≡ true → ((j : ℕ) → j < i → is_pending_on c (get_or xs j None) ≡ false)
    → is_pending_on c slot ≡ false → pending_from c k xs ≡ (k + i) ∷ pending_from c k (set xs i slot)
pending_from-first c k i [] slot here before after = absurd (false≢true here)
pending_from-first c k zero (x ∷ xs) slot here before after =
    rw (here, after) (ap (λ n. n ∷ pending_from c (k + 1) xs) (omega arith))
pending_from-first c k (suc i) (x ∷ xs) slot here before after =
    let rest = pending_from-first c (k + 1) i xs slot here (λ j l. before (suc j) (omega arith)) after in
    rw (before 0 (omega arith))
    (rest ∙ ap (λ n. n ∷ pending_from c (k + 1) (set xs i slot)) (omega arith))

pub map-closed_on-set : (c i : ℕ) (xs : List (Option Operation)) (slot : Option Operation)
    → closed_on c (get_or xs i None) ≡ slot → is_pending_on c slot ≡ false
    → map (closed_on c) (set xs i slot) ≡ map (closed_on c) xs
map-closed_on-set c i [] slot here after = refl
map-closed_on-set c zero (x ∷ xs) slot here after =
    let stays : closed_on c slot ≡ slot = rw after refl in
    ap (λ y. y ∷ map (closed_on c) xs) (stays ∙ sym here)
map-closed_on-set c (suc i) (x ∷ xs) slot here after =
    ap (λ ys. closed_on c x ∷ ys) (map-closed_on-set c i xs slot here after)

-- the slots hold what is pending on the channel
pub record IsListedOn (f : Flight) (c : ℕ) (p : slots.Pending) : Type 0 where
  pub listed : (kind : OpKind) (n : ℕ) → slot_of p kind ≡ Some n → IsPendingAs f c kind n
  pub all : (kind : OpKind) (n : ℕ) → IsPendingAs f c kind n → slot_of p kind ≡ Some n

-- nothing is pending where no slot is filled
pub nothing-pending_on : (f : Flight) (c : ℕ) (p : slots.Pending) → IsListedOn f c p
    → ((kind : OpKind) → slot_of p kind ≡ None) → (n : ℕ) → is_pending_on c (op_at f n) ≡ false
nothing-pending_on f c p on none n =
    by_test (is_pending_on c (op_at f n))
    (λ t. absurd (at_slot (op_at f n) refl t))
    (λ e. e)
  where
    at_slot : (slot : Option Operation) → op_at f n ≡ slot → is_pending_on c slot ≡ true → ⊥
    at_slot None is h = false≢true h
    at_slot (Some op) is h =
        let pending : is_pending_as c op.kind (op_at f n) ≡ true = rw is (pending_on-as c op h) in
        none-some n (sym (none op.kind) ∙ on.all op.kind n pending)

pub closed-nothing : (f : Flight) (c : ℕ) → ((n : ℕ) → is_pending_on c (op_at f n) ≡ false)
    → with_channel_closed f c ≡ f
closed-nothing f c none =
    let operations = map-closed_on-none c f.operations none in
    let queue = ap (λ (ns : List ℕ). f.queue ++ ns) (pending_from-none c 0 f.operations none) ∙ append-nil f.queue in
    rw (operations, queue) refl

-- where a number's operation isn't pending any more
pub pending-after : (xs : List (Option Operation)) (n : ℕ) (slot : Option Operation) (c : ℕ) (kind : OpKind) (m : ℕ)
    → n < length xs → is_pending slot ≡ false → is_pending_as c kind (get_or (set xs n slot) m None) ≡ true
    → (m ≢ n) × (is_pending_as c kind (get_or xs m None) ≡ true)
pending-after xs n slot c kind m l not_pending h =
    by_test (eqb m n)
    (λ t. let same = eqb-true m n t in
    let at : is_pending_as c kind (get_or (set xs n slot) n None) ≡ true = subst
    (λ (i : ℕ). is_pending_as c kind (get_or (set xs n slot) i None) ≡ true) same h in
    let no : is_pending_as c kind slot ≡ true = rw (get_or-set_same xs n slot None l) at at in
    absurd (false≢true (sym (not_pending-as c kind slot not_pending) ∙ no)))
    (λ e. let differ = eqb-false m n e in
    (differ, rw (get_or-set_other xs n m slot None differ) at h))

pub pending-before : (xs : List (Option Operation)) (n : ℕ) (slot : Option Operation) (c : ℕ) (kind : OpKind) (m : ℕ)
    → (is_pending_as c kind (get_or xs n None) ≡ true → ⊥) → is_pending_as c kind (get_or xs m None) ≡ true
    → is_pending_as c kind (get_or (set xs n slot) m None) ≡ true
pending-before xs n slot c kind m not h =
    rw (get_or-set_other xs n m slot None
    (λ same. not (subst (λ (i : ℕ). is_pending_as c kind (get_or xs i None) ≡ true) same h))) h

-- a step of the closing
pub record IsClosingStep (f : Flight) (c : ℕ) (p : slots.Pending) (n : ℕ) (op : Operation) : Type 0 where
  pub pending : is_pending (Some op) ≡ true
  pub on : IsListedOn (with_completed f n (Failed AsynchronousClose)) c (with_slot p op.kind None)
  pub closed : with_channel_closed (with_completed f n (Failed AsynchronousClose)) c ≡ with_channel_closed f c
  pub fewer : filled_slots (with_slot p op.kind None) + 1 ≡ filled_slots p

pub listed-step : (f : Flight) (c : ℕ) (p : slots.Pending) (n : ℕ) (op : Operation) (slot : Option Operation)
    (queue : List ℕ) → IsListedOn f c p → op_at f n ≡ Some op → n < length f.operations → slot_of p op.kind ≡ Some n
    → is_pending slot ≡ false
    → IsListedOn (record f { operations = set f.operations n slot; queue = queue }) c (with_slot p op.kind None)
listed-step f c p n op slot queue on is l own not_pending =
    record {
      listed = λ k m h.
          elim (kinds k op.kind) [
            | inl same ↦ absurd
                (none-some m
                (sym (slot_of-with_same p op.kind None)
                ∙ subst (λ (j : OpKind). slot_of (with_slot p op.kind None) j ≡ Some m) same h))
            | inr differ ↦ pending-before f.operations n slot c k m
                (λ at. differ (sym (pending-parts c k op (rw is at at)).same))
                (on.listed k m (sym (slot_of-with_other p op.kind k None differ) ∙ h))
          ];
      all = λ k m h.
          let old = pending-after f.operations n slot c k m l not_pending h in
          let has = on.all k m old.1 in
          elim (kinds k op.kind) [
            | inl same ↦ absurd
                (old.0 (same_Some m n (sym has ∙ subst (λ (j : OpKind). slot_of p j ≡ Some n) (sym same) own)))
            | inr differ ↦ slot_of-with_other p op.kind k None differ ∙ has
          ];
    }

-- what is pending before the least is nothing
none-before : (f : Flight) (c : ℕ) (p : slots.Pending) (n : ℕ) → IsListedOn f c p
    → ((k : OpKind) (m : ℕ) → slot_of p k ≡ Some m → n ≤ m) → (j : ℕ) → j < n → is_pending_on c (op_at f j) ≡ false
none-before f c p n on least j l =
    by_test (is_pending_on c (op_at f j)) (λ t. absurd (at_slot (op_at f j) refl t)) (λ e. e)
  where
    at_slot : (slot : Option Operation) → op_at f j ≡ slot → is_pending_on c slot ≡ true → ⊥
    at_slot None is h = false≢true h
    at_slot (Some op) is h =
        let pending : is_pending_as c op.kind (op_at f j) ≡ true = rw is (pending_on-as c op h) in
        let above = least op.kind j (on.all op.kind j pending) in
        omega arith

pub closing-step : (f : Flight) (c : ℕ) (p : slots.Pending) (n : ℕ) (op : Operation) (kind : OpKind) → IsListedOn f c p
    → slot_of p kind ≡ Some n → ((k : OpKind) (m : ℕ) → slot_of p k ≡ Some m → n ≤ m) → op_at f n ≡ Some op
    → IsClosingStep f c p n op
closing-step f c p n op kind on slot least is =
    let closed_slot = option_map (at_stage (Queued (Failed AsynchronousClose))) (op_at f n) in
    let as_kind : is_pending_as c kind (Some op) ≡ true = rw is at (on.listed kind n slot) in
    let parts = pending-parts c kind op as_kind in
    let own_slot : slot_of p op.kind ≡ Some n = subst (λ (k : OpKind). slot_of p k ≡ Some n) (sym parts.same) slot in
    let l : n < length f.operations = some-within f.operations n op is in
    let here : is_pending_on c (op_at f n) ≡ true = pending_as-on c kind (op_at f n) (on.listed kind n slot) in
    let not_pending : is_pending closed_slot ≡ false = rw is refl in
    let not_on : is_pending_on c closed_slot ≡ false = rw is refl in
    let closes : closed_on c (op_at f n) ≡ closed_slot = rw here refl in
    let operations = map-closed_on-set c n f.operations closed_slot closes not_on in
    let first = pending_from-first c 0 n f.operations closed_slot here (none-before f c p n on least) not_on in
    let queue : f.queue ++ n ∷ [] ++ pending_from c 0 (set f.operations n closed_slot)
    ≡ f.queue ++ pending_from c 0 f.operations =
    append_assoc f.queue (n ∷ []) (pending_from c 0 (set f.operations n closed_slot))
    ∙ ap (λ (i : ℕ). f.queue ++ (i ∷ pending_from c 0 (set f.operations n closed_slot))) (omega arith)
    ∙ ap (λ (ns : List ℕ). f.queue ++ ns) (sym first) in
    record {
      pending = pending-as-pending c kind (Some op) as_kind;
      on = listed-step f c p n op closed_slot (f.queue ++ n ∷ []) on is l own_slot not_pending;
      closed = rw (operations, queue) refl;
      fewer = filled_slots-less p op.kind n own_slot;
    }

-- a slot that is filled leads to an operation
pub listed-some : (f : Flight) (c : ℕ) (p : slots.Pending) (kind : OpKind) (n : ℕ) → IsListedOn f c p
    → slot_of p kind ≡ Some n → op_at f n ≡ None → ⊥
listed-some f c p kind n on slot none =
    let pending : is_pending_as c kind None ≡ true = rw none at (on.listed kind n slot) in
    false≢true pending
