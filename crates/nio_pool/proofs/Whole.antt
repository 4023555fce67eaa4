-- What a pass with all parts learns from a call.
use Rattle.std.proofs.Common.{◌≡◌, ℕ, ◌+◌, ◌<◌, ◌↔◌, true≢false, List, [], ◌∷◌, length, map, sum_by, Result, Ok, Err}
use Rattle.std.proofs.Common.{IsOk, MatchResult, Option, Some, None, IsNone, IfNone, cond, eqb, refl, sym, subst, arith}
use Rattle.crossbeam_queue.specs.Fifo.{Held}
use Rattle.nio_group.specs.Completion.{CompletionFields}
use Rattle.nio_pool.specs.declared.hand.Hand.{Hand}
use Rattle.nio_pool.specs.Hands.{number, SameNumbers, Moment, Puts, Takes}
use Rattle.nio_pool.specs.Queues.{QueueFields, PassFields, HasAllParts, HasTakenAll, IsDrained}
use Rattle.nio_pool.proofs.Balance.{counts_alone, weighs_alone}

pub put_whole : (room : ℕ) (v : Hand) (done : CompletionFields) (w : Hand) (r : Result Unit CompletionFields)
    → v.parts ≡ v.all
    → MatchResult r (λ _. Puts room v done w) (λ x. (x ≡ done) × (w ≡ v) × Held room (Moment v))
    → IsOk r ↔ (length v.put < length v.taken + room)
put_whole room v done w (Ok u) whole told = ((λ _. told.had_room whole), λ _. refl)
put_whole room v done w (Err x) whole told =
    let held = told.2 in
    let count = counts_alone v held.0 held.2 whole in
    let full : length held.0 ≡ room = held.1 in
    ((λ ok. absurd (true≢false (sym ok))), λ short. absurd (omega arith))

-- a completion that is taken had been put more often than taken
pub take_whole : (v : Hand) (done : CompletionFields) (w : Hand) → v.parts ≡ v.all → Takes v done w
    → SameNumbers v.put v.taken → ⊥
take_whole v done w whole told same =
    let more = told.waited whole in
    let here = same (number done) in
    omega arith

-- where nothing waits the same numbers were put and taken
none_weighs : (weight : ℕ → ℕ) (items : List CompletionFields) → length items ≡ 0
    → sum_by weight (map number items) ≡ 0
none_weighs weight [] none = refl
none_weighs weight (x ∷ items) none = absurd (omega arith)

pub empty_whole : (v : Hand) → v.parts ≡ v.all → Held 0 (Moment v) → SameNumbers v.put v.taken
empty_whole v whole held n =
    let weight : ℕ → ℕ = λ k. cond (eqb k n) 1 0 in
    let all = weighs_alone v held.0 held.2 whole weight in
    let none = none_weighs weight held.0 held.1 in
    omega arith

-- a pass that finds nothing is drained
pub none_drained : (o : Option CompletionFields) (q : QueueFields) (old new : PassFields)
    → (HasAllParts q old → IsNone o ↔ HasTakenAll old) → (IsNone o → new ≡ old) → IfNone o (IsDrained q new)
none_drained None q old new exact same =
    subst (λ (p : PassFields). IsDrained q p) (sym (same refl)) (λ whole. (exact whole).0 refl)
none_drained (Some done) q old new exact same = tt
