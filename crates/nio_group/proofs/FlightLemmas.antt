-- What a group's calls keep of the operations in flight and their queue.
use Rattle.std.proofs.Common.{◌≡◌, ℕ, ◌+◌, ◌<◌, ◌≤◌, zero, suc, Bool, true, false, cond, List, [], ◌∷◌, ◌++◌, Option}
use Rattle.std.proofs.Common.{Some, None, is_some, count_by, get_or, set, length, refl, sym, ap, ◌∙◌, arith}
use Rattle.std.proofs.lemmas.List.Sums.{sum_by-le-sum_by}
use Rattle.nio_group.specs.declared.operation.Operation.{Operation}
use Rattle.std.proofs.lemmas.Bool.{false≢true}
use Rattle.nio_base.specs.declared.group.Finished.{Finished}
use Rattle.nio_group.specs.declared.operation.Stage.{Stage}
use Rattle.nio_group.specs.declared.operation.Stage.TheVariants.{Pending, Queued, Running}
use Rattle.nio_group.specs.Stages.{is_queued, is_pending, is_running, stage_is_queued, stage_is_pending}
use Rattle.nio_group.specs.Stages.{stage_is_running}
use Rattle.nio_group.specs.Operations.{Accepted, with_operation}
use Rattle.nio_group.specs.FlightKept.{IsFlightKept}
use Rattle.nio_group.proofs.TableLemmas.{count_by-set}
use Rattle.nio_group.proofs.ListLemmas.{count_by-push}
use Rattle.nio_group.proofs.QueueLemmas.{queued_after, queue-push, queue-taken, front-queued}

bit : (b : Bool) → cond b 1 0 ≤ 1
bit true = omega arith
bit false = omega arith

queued_le_some : (slot : Option Operation) → cond (is_queued slot) 1 0 ≤ cond (is_some slot) 1 0
queued_le_some None = omega arith
queued_le_some (Some op) = bit (is_queued (Some op))

-- no more operations are queued than are in flight
pub queued-in_flight : (xs : List (Option Operation)) → count_by is_queued xs ≤ count_by is_some xs
queued-in_flight xs =
    sum_by-le-sum_by (λ slot. cond (is_queued slot) 1 0) (λ slot. cond (is_some slot) 1 0) xs queued_le_some

-- the slot of an operation that is there is one of the list's
pub some-within : (xs : List (Option Operation)) (i : ℕ) (op : Operation) → get_or xs i None ≡ Some op → i < length xs
some-within [] i op is = cc
some-within (x ∷ xs) zero op is = omega arith
some-within (x ∷ xs) (suc i) op is = let rest = some-within xs i op is in omega arith

-- with one in flight that isn't queued, the queue has room
pub queued-below : (xs : List (Option Operation)) (i : ℕ) (op : Operation) → get_or xs i None ≡ Some op
    → is_queued (Some op) ≡ false → count_by is_queued xs + 1 ≤ count_by is_some xs
queued-below xs i op is not_queued =
    let l = some-within xs i op is in
    let some = rw is at (count_by-set is_some xs i None None l) in
    let queued = rw (is, not_queued) at (count_by-set is_queued xs i None None l) in
    let le = queued-in_flight (set xs i None) in
    omega (arith, some, queued, le)

pub kept-push : (a : Accepted) (queue : List ℕ) (len capacity : ℕ) (op : Operation) → IsFlightKept a queue len capacity
    → count_by is_some a.operations < a.limit
    → IsFlightKept (record a { operations = a.operations ++ Some op ∷ [] })
    (queued_after (is_queued (Some op)) queue (length a.operations))
    (len + cond (is_queued (Some op)) 1 0) capacity
kept-push a queue len capacity op kept room =
    let was = kept.queue_length in
    let has_room = kept.room in
    record {
      queued_once = queue-push a.operations queue (Some op) kept.queued_once;
      queue_length = ap (λ n. n + cond (is_queued (Some op)) 1 0) was
          ∙ sym (count_by-push is_queued a.operations (Some op));
      within = omega (arith, count_by-push is_some a.operations (Some op));
      room = has_room;
    }

pub kept-taken : (a : Accepted) (queue : List ℕ) (len len' capacity i : ℕ) (rest : List ℕ) (op op' : Operation)
    → queue ≡ i ∷ rest → len' + 1 ≡ len → IsFlightKept a queue len capacity → get_or a.operations i None ≡ Some op
    → is_queued (Some op') ≡ false → IsFlightKept (with_operation a i (Some op')) rest len' capacity
kept-taken a queue len len' capacity i rest op op' split one_less kept is not_queued =
    let was = kept.queue_length in
    let holds = rw split at kept.queued_once in
    let front = rw is at (front-queued a.operations i rest holds) in
    let was_within = kept.within in
    let l = some-within a.operations i op is in
    let queued = rw (is, front, not_queued) at (count_by-set is_queued a.operations i (Some op') None l) in
    let some = rw is at (count_by-set is_some a.operations i (Some op') None l) in
    record {
      queued_once = queue-taken a.operations i rest (Some op') l not_queued holds;
      queue_length = omega (arith, queued, was);
      within = omega (arith, some, was_within);
      room = kept.room;
    }

-- which operations are queued, by their stage
pub queued-stage : (op : Operation) (finished : Finished) → op.stage ≡ Queued finished → is_queued (Some op) ≡ true
queued-stage op finished is = ap stage_is_queued is

pub not_queued-stage : (op : Operation) → ((finished : Finished) → op.stage ≡ Queued finished → ⊥)
    → is_queued (Some op) ≡ false
not_queued-stage op not = by_stage op.stage refl
  where
    by_stage : (stage : Stage) → op.stage ≡ stage → stage_is_queued op.stage ≡ false
    by_stage Pending is = ap stage_is_queued is
    by_stage (Queued finished) is = absurd (not finished is)
    by_stage Running is = ap stage_is_queued is

pub not_queued-pending : (op : Operation) → is_pending (Some op) ≡ true → is_queued (Some op) ≡ false
not_queued-pending op pending = by_stage op.stage pending
  where
    by_stage : (stage : Stage) → stage_is_pending stage ≡ true → stage_is_queued stage ≡ false
    by_stage Pending h = refl
    by_stage (Queued finished) h = absurd (false≢true h)
    by_stage Running h = refl

pub not_queued-running : (op : Operation) → is_running (Some op) ≡ true → is_queued (Some op) ≡ false
not_queued-running op running = by_stage op.stage running
  where
    by_stage : (stage : Stage) → stage_is_running stage ≡ true → stage_is_queued stage ≡ false
    by_stage Pending h = refl
    by_stage (Queued finished) h = absurd (false≢true h)
    by_stage Running h = refl
