use Rattle.std.proofs.lemmas.Bool.{eqb-true, eqb-false, ne_eqb}
-- The queue lists each queued operation once: what the changes of an operation keep of that.
use Rattle.std.proofs.Common.{◌≡◌, ℕ, ◌+◌, ◌<◌, Bool, true, false, cond, eqb, List, [], ◌∷◌, ◌++◌, Option, None}
use Rattle.std.proofs.Common.{count_by, get_or, set, length, sym, ap, ◌∙◌, subst, arith}
use Rattle.std.proofs.lemmas.List.{get_or_past}
use Rattle.nio_group.specs.declared.operation.Operation.{Operation}
use Rattle.nio_group.specs.Stages.{is_queued}
use Rattle.nio_group.proofs.IndexLemmas.{count_by-cons}
use Rattle.nio_group.proofs.TableLemmas.{by_test}
use Rattle.nio_group.proofs.ListLemmas.{count_by-push, get_or-set, get_or-push, eqb-same}

-- how often the queue lists an operation in this slot
abbrev pub once_if : Bool → ℕ
once_if queued = cond queued 1 0

abbrev pub QueueHolds : List (Option Operation) → List ℕ → Type 0
QueueHolds xs queue = (n : ℕ) → count_by (λ m. eqb m n) queue ≡ once_if (is_queued (get_or xs n None))

-- the queue after a number was put to its back, where the slot is queued
abbrev pub queued_after : Bool → List ℕ → ℕ → List ℕ
queued_after queued queue n = cond queued (queue ++ n ∷ []) queue

count_by-queued_after : (queued : Bool) (queue : List ℕ) (n m : ℕ)
    → count_by (λ k. eqb k m) (queued_after queued queue n) ≡ count_by (λ k. eqb k m) queue
    + cond queued (cond (eqb n m) 1 0) 0
count_by-queued_after true queue n m = count_by-push (λ k. eqb k m) queue n
count_by-queued_after false queue n m = omega arith

-- how often the queue lists the number that has changed, and how often another one
counted_here : {c c' : ℕ} (q : Bool) → c' ≡ c + cond q 1 0 → c ≡ 0 → c' ≡ once_if q
counted_here true a b = omega arith
counted_here false a b = omega arith

counted_elsewhere : {c c' w : ℕ} (q : Bool) → c' ≡ c + cond q 0 0 → c ≡ w → c' ≡ w
counted_elsewhere true a b = omega arith
counted_elsewhere false a b = omega arith

pub queue-push : (xs : List (Option Operation)) (queue : List ℕ) (slot : Option Operation) → QueueHolds xs queue
    → QueueHolds (xs ++ slot ∷ []) (queued_after (is_queued slot) queue (length xs))
queue-push xs queue slot holds n =
    let had = holds n in
    let counts = count_by-queued_after (is_queued slot) queue (length xs) n in
    by_test (eqb n (length xs))
    (λ t. let same = eqb-true n (length xs) t in
    let none : get_or xs n None ≡ None = get_or_past xs n None (omega arith) in
    let had_none = rw none at had in
    let has = rw t at (get_or-push xs slot None n) in
    let turned : eqb (length xs) n ≡ true = subst (λ (k : ℕ). eqb (length xs) k ≡ true) (sym same)
    (eqb-same (length xs)) in
    let counted = rw turned at counts in
    rw has (counted_here (is_queued slot) counted had_none))
    (λ f. let has = rw f at (get_or-push xs slot None n) in
    let turned : eqb (length xs) n ≡ false = ne_eqb (length xs) n (λ e. eqb-false n (length xs) f (sym e)) in
    let counted = rw turned at counts in
    rw has (counted_elsewhere (is_queued slot) counted had))

pub queue-set : (xs : List (Option Operation)) (queue : List ℕ) (i : ℕ) (slot : Option Operation) → i < length xs
    → is_queued (get_or xs i None) ≡ false → QueueHolds xs queue
    → QueueHolds (set xs i slot) (queued_after (is_queued slot) queue i)
queue-set xs queue i slot l was holds n =
    let had = holds n in
    let counts = count_by-queued_after (is_queued slot) queue i n in
    by_test (eqb n i)
    (λ t. let same = eqb-true n i t in
    let had_none = subst (λ (k : ℕ). count_by (λ m. eqb m n) queue ≡ once_if (is_queued (get_or xs k None))) same had
    ∙ ap once_if was in
    let has = rw t at (get_or-set xs i slot None n l) in
    let turned : eqb i n ≡ true = subst (λ (k : ℕ). eqb i k ≡ true) (sym same) (eqb-same i) in
    let counted = rw turned at counts in
    rw has (counted_here (is_queued slot) counted had_none))
    (λ f. let has = rw f at (get_or-set xs i slot None n l) in
    let turned : eqb i n ≡ false = ne_eqb i n (λ e. eqb-false n i f (sym e)) in
    let counted = rw turned at counts in
    rw has (counted_elsewhere (is_queued slot) counted had))

-- the number at the front of the queue is that of a queued operation
pub front-queued : (xs : List (Option Operation)) (i : ℕ) (rest : List ℕ) → QueueHolds xs (i ∷ rest)
    → is_queued (get_or xs i None) ≡ true
front-queued xs i rest holds =
    let counts = rw (eqb-same i) at (sym (count_by-cons (λ m. eqb m i) i rest) ∙ holds i) in
    by_test (is_queued (get_or xs i None)) (λ t. t) (λ f. absurd (let none = rw f at counts in omega (arith, none)))

pub queue-taken : (xs : List (Option Operation)) (i : ℕ) (rest : List ℕ) (slot : Option Operation) → i < length xs
    → is_queued slot ≡ false → QueueHolds xs (i ∷ rest) → QueueHolds (set xs i slot) rest
queue-taken xs i rest slot l is holds n =
    let counts = sym (count_by-cons (λ m. eqb m n) i rest) ∙ holds n in
    by_test (eqb n i)
    (λ t. let same = eqb-true n i t in
    let has = rw t at (get_or-set xs i slot None n l) in
    let turned : eqb i n ≡ true = subst (λ (k : ℕ). eqb i k ≡ true) (sym same) (eqb-same i) in
    let counted = rw turned at counts in
    let queued : is_queued (get_or xs n None) ≡ true = subst (λ (k : ℕ). is_queued (get_or xs k None) ≡ true) (sym same)
    (front-queued xs i rest holds) in
    let one = rw queued at counted in
    rw (has, is) (omega (arith, one)))
    (λ f. let has = rw f at (get_or-set xs i slot None n l) in
    let turned : eqb i n ≡ false = ne_eqb i n (λ e. eqb-false n i f (sym e)) in
    let counted = rw turned at counts in
    rw has (omega (arith, counted)))
