-- Completions that are moved from a core into a queue one after the other.
use Rattle.std.proofs.Common.{◌≡◌, ℕ, ◌+◌, ◌-◌, ◌^◌, ◌≤◌, min, if◌then◌else◌, Option, Some, None, List, [], ◌∷◌, ◌++◌, length, map}
use Rattle.std.proofs.Common.{◌==◌, refl, ap, sym, subst, ◌∙◌, arith}
use Rattle.std.proofs.lemmas.List.{append_assoc, append-nil, length-append, map-append}
use Rattle.nio_base.specs.declared.numbers.GChan.{GChan}
use Rattle.nio_base.specs.declared.group.OpKind.{OpKind}
use Rattle.nio_group.proofs.IndexLemmas.{count_by-cons}
use Rattle.nio_group.proofs.ListLemmas.{eqb-same}
use Rattle.nio_group.specs.Completion.{CompletionFields}
use Rattle.nio_group.specs.Flight.{op_at}
use Rattle.nio_group.specs.Group.{Group, IsLawful}
use Rattle.nio_group.specs.Stages.{is_queued, stage_is_queued}
use Rattle.nio_group.specs.Steps.{after_take, answer_to_take, completion_at, completion_of}
use Rattle.nio_group.specs.declared.operation.Operation.{Operation}
use Rattle.nio_group.specs.declared.operation.Stage.{Stage}
use Rattle.nio_group.specs.declared.operation.Stage.TheVariants.{Pending, Queued, Running}
use Rattle.nio_pool.proofs.BatchLemmas.{takes_more}
use Rattle.nio_pool.specs.Batches.{TakesInto}
use Rattle.nio_pool.specs.Hands.{number}
use Rattle.nio_pool.specs.Moves.{Moves, with_all_put}
use Rattle.nio_pool.specs.Queues.{PassFields, with_put}
use Rattle.nio_pool.specs.declared.moving.Moved.{Moved}

-- ---- where none is taken

has_completion : (n : ℕ) (chan : GChan) (kind : OpKind) (s : Stage) → 1 ≤ (if stage_is_queued s then 1 else 0)
    → completion_of n chan kind s ≡ None → ⊥
has_completion n chan kind Pending queued none = omega (arith, queued)
has_completion n chan kind (Queued finished) queued none = cc
has_completion n chan kind Running queued none = omega (arith, queued)

queued_completes : (n : ℕ) (o : Option Operation) → 1 ≤ (if is_queued o then 1 else 0) → completion_at n o ≡ None → ⊥
queued_completes n None queued none = omega (arith, queued)
queued_completes n (Some op) queued none = has_completion n op.chan op.kind op.stage queued none

-- then none is queued
none_queued : (g : Group) → IsLawful g → answer_to_take g ≡ None → g.flight.queue ≡ []
none_queued g lawful none = by_queue g.flight.queue refl
  where
    by_queue : (queue : List ℕ) → g.flight.queue ≡ queue → g.flight.queue ≡ []
    by_queue [] is = is
    by_queue (n ∷ rest) is = absurd (queued_completes n (op_at g.flight n) once (rw is at none))
      where
        once : 1 ≤ (if is_queued (op_at g.flight n) then 1 else 0)
        once =
            let listed = rw is at (lawful.queued_once n) in
            let same = eqb-same n in
            omega (arith, listed, ap {B = ℕ} (λ b. if b then 1 else 0) same, count_by-cons (λ (m : ℕ). m == n) n rest)

-- and the group stays as it is
same_group : (g : Group) → g.flight.queue ≡ [] → after_take g ≡ g
same_group g none = rw none refl

-- ---- what a pass has put

with_puts : PassFields → List ℕ → PassFields
with_puts p ns = record p { hand = record p.hand { put = p.hand.put ++ ns } }

puts_more : (p : PassFields) (done : List CompletionFields) (d : CompletionFields)
    → with_put (with_all_put p done) d ≡ with_all_put p (done ++ d ∷ [])
puts_more p done d =
    ap (λ (ns : List ℕ). record p { hand = record p.hand { put = ns } })
    (append_assoc p.hand.put (map number done) (number d ∷ [])
    ∙ ap (λ (ns : List ℕ). p.hand.put ++ ns) (sym (map-append number done (d ∷ []))))

-- ---- so far

pub record MovesSo (core left : Group) (old new : PassFields) (moved : Moved) : Type 0 where
  pub done : List CompletionFields
  pub taken : TakesInto (map Some done) core left
  pub put : new ≡ with_all_put old done
  pub counted : moved.count ≡ min (length done) (2 ^ 64 - 1)
  pub all : moved.back ≡ None

pub moves_none : (core : Group) (old : PassFields) (moved : Moved) → moved.count ≡ 0 → moved.back ≡ None
    → MovesSo core core old old moved
moves_none core old moved count back =
    record {
      done = [];
      taken = refl;
      put = ap (λ (ns : List ℕ). record old { hand = record old.hand { put = ns } }) (sym (append-nil old.hand.put));
      counted = omega arith;
      all = back;
    }

takes_one : (done : List CompletionFields) (d : CompletionFields) (core mid left : Group)
    → TakesInto (map Some done) core mid → answer_to_take mid ≡ Some d → left ≡ after_take mid
    → TakesInto (map Some (done ++ d ∷ [])) core left
takes_one done d core mid left takes answer after =
    subst (λ (slots : List (Option CompletionFields)). TakesInto slots core left)
    (sym (map-append Some done (d ∷ [])))
    (takes_more (map Some done) (Some d) core mid left takes (sym answer) after)

pub moves_one : (core mid left : Group) (old between new : PassFields) (moved now : Moved) (d : CompletionFields)
    → MovesSo core mid old between moved → answer_to_take mid ≡ Some d → left ≡ after_take mid
    → new ≡ with_put between d → now.count ≡ min (moved.count + 1) (2 ^ 64 - 1) → now.back ≡ moved.back
    → MovesSo core left old new now
moves_one core mid left old between new moved now d moves answer after put count back =
    record {
      done = moves.done ++ d ∷ [];
      taken = takes_one moves.done d core mid left moves.taken answer after;
      put = put ∙ ap (λ (p : PassFields). with_put p d) moves.put ∙ puts_more old moves.done d;
      counted = omega (arith, moves.counted, length-append moves.done (d ∷ []));
      all = back ∙ moves.all;
    }

-- where the core has none left
pub moves_all : (core mid left : Group) (old new : PassFields) (moved : Moved) → MovesSo core mid old new moved
    → IsLawful mid → answer_to_take mid ≡ None → left ≡ after_take mid → Moves core left old new moved
moves_all core mid left old new moved moves lawful none after =
    let empty = none_queued mid lawful none in
    let same : left ≡ mid = after ∙ same_group mid empty in
    record {
      done = moves.done;
      taken = rw (moves.all, append-nil, same) moves.taken;
      put = moves.put;
      counted = moves.counted;
      none_left = λ _. ap (λ (g : Group). g.flight.queue) same ∙ empty;
    }

-- where the queue has no room for one
pub moves_back : (core mid left : Group) (old between new : PassFields) (moved now : Moved) (d back : CompletionFields)
    → MovesSo core mid old between moved → answer_to_take mid ≡ Some d → left ≡ after_take mid
    → new ≡ between → back ≡ d → now.count ≡ moved.count → now.back ≡ Some back
    → Moves core left old new now
moves_back core mid left old between new moved now d back moves answer after same is count had =
    record {
      done = moves.done;
      taken = rw (had, is) (takes_one moves.done d core mid left moves.taken answer after);
      put = same ∙ moves.put;
      counted = count ∙ moves.counted;
      none_left = λ none. cc;
    }
