-- What the passes of a queue of completions know, and the rule that ties them to what waits in the queue.
use Rattle.std.specs.Prelude.{◌≡◌, ◌≢◌, ℕ, ◌+◌, ◌<◌, ◌≤◌, ◌==◌, List, [], ◌∷◌, ◌++◌, length, map, count_by, sum_by}
use mathlib.Core.Option.{some}
use lib.ListN.{get_elem?}
use Rattle.nio_group.specs.Completion.{CompletionFields}
use Rattle.nio_pool.specs.declared.hand.Hand.{Hand}

-- the number of the operation that has completed
abbrev pub number : CompletionFields → ℕ
number done = done.op.0

-- how often a number stands in a list
abbrev pub times : ℕ → List ℕ → ℕ
times n xs = count_by (λ k. k == n) xs

-- the two lists have the same numbers, each as often
abbrev pub SameNumbers : List ℕ → List ℕ → Type 0
SameNumbers xs ys = (n : ℕ) → times n xs ≡ times n ys

abbrev pub hand : ℕ → ℕ → List ℕ → List ℕ → Hand
hand parts all put taken = record { parts = parts; all = all; put = put; taken = taken }

-- a put or a take adds the number at the end of the pass's list
abbrev pub after_put : Hand → CompletionFields → Hand
after_put v done = record v { put = v.put ++ number done ∷ [] }

abbrev pub after_take : Hand → CompletionFields → Hand
after_take v done = record v { taken = v.taken ++ number done ∷ [] }

-- two passes made one
abbrev pub joined : Hand → Hand → Hand
joined v w = hand (v.parts + w.parts) v.all (v.put ++ w.put) (v.taken ++ w.taken)

-- what is left of a pass that was joined into another
abbrev pub spent : Hand
spent = hand 0 0 [] []

-- the parts of all passes
abbrev pub parts_of : List Hand → ℕ
parts_of views = sum_by (λ v. v.parts) views

-- what holds of each pass, where the parts of all passes add up to this total
pub record Fits (total : ℕ) (v : Hand) : Type 0 where
  pub all : 0 < v.parts → total ≡ v.all
  pub idle : v.parts ≡ 0 → (v.put ≡ []) × (v.taken ≡ [])

-- The rule, at every moment: `items` wait in the queue, the first to be taken first, and each pass has its
-- place in `views`.
pub record IsBalanced (items : List CompletionFields) (views : List Hand) : Type 0 where
  -- however numbers are weighed, what was put weighs as much as what was taken and what waits together: so each
  -- number was put as often as it was taken and waits
  pub weights : (weight : ℕ → ℕ) → sum_by (λ v. sum_by weight v.put) views
      ≡ sum_by (λ v. sum_by weight v.taken) views + sum_by weight (map number items)
  pub passes : (place : ℕ) (v : Hand) → get_elem? views place ≡ some v → Fits (parts_of views) v

-- the other passes than the one at this place have put and taken nothing
abbrev pub OthersIdle : ℕ → List Hand → Type 0
OthersIdle mine views =
    (place : ℕ) (v : Hand) → place ≢ mine → get_elem? views place ≡ some v → (v.put ≡ []) × (v.taken ≡ [])

-- What a pass knows of a moment at which `items` waited in the queue: it was one of the queue's passes, for which the
-- rule held. Where it has all parts there is no other pass that has put or taken anything.
pub record Moment (v : Hand) (items : List CompletionFields) : Type 0 where
  pub passes : List Hand
  pub mine : ℕ
  pub is_one : get_elem? passes mine ≡ some v
  pub balanced : IsBalanced items passes
  pub alone : v.parts ≡ v.all → OthersIdle mine passes

-- what a put tells: where the pass has all parts, there was room
pub record Puts (room : ℕ) (v : Hand) (done : CompletionFields) (w : Hand) : Type 0 where
  pub after : w ≡ after_put v done
  pub had_room : v.parts ≡ v.all → length v.put < length v.taken + room

-- what a take tells: where the pass has all parts, the number was put more often than it had been taken
pub record Takes (v : Hand) (done : CompletionFields) (w : Hand) : Type 0 where
  pub after : w ≡ after_take v done
  pub waited : v.parts ≡ v.all → times (number done) v.taken < times (number done) v.put

-- how often all passes together have put a number, and taken it
abbrev pub times_put : ℕ → List Hand → ℕ
times_put n views = sum_by (λ v. times n v.put) views

abbrev pub times_taken : ℕ → List Hand → ℕ
times_taken n views = sum_by (λ v. times n v.taken) views

-- no pass has taken this number and it waits, or one pass has taken it and it doesn't wait, or neither
pub record IsTakenOnce (n : ℕ) (items : List CompletionFields) (views : List Hand) : Type 0 where
  pub once : times_taken n views ≤ 1
  pub waits_once : times n (map number items) ≤ 1
  pub gone : times_taken n views ≡ 1 → times n (map number items) ≡ 0

-- At every moment of a queue: where all its passes together have put a number at most once, they have taken it at most
-- once, and once it is taken it doesn't wait. So no completion is taken twice, by one pass or by two.
abbrev pub TakenOnce : Type 0
TakenOnce = (items : List CompletionFields) (views : List Hand) → IsBalanced items views
    → (n : ℕ) → times_put n views ≤ 1 → IsTakenOnce n items views
