-- Calls made of other calls: one and then another, and a call that waits, which makes one call again until
-- that says that it is over.
--
-- A shape says of acts and an answer whether a caller that makes the call may do these acts and have this
-- answer. `Completes` of a plan is one.
use Rattle.std.specs.Prelude.{◌≡◌, Bool, IsTrue, IsFalse, List, [], ◌∷◌, ◌++◌}
use Rattle.std.specs.List.{All}
use Rattle.nio_history.specs.declared.act.Act.{Act}

-- the acts are those of one call and then those of another, which takes the answer of the first
pub record Then {A R : Type 0} (First : List Act → A → Type 0) (Second : A → List Act → R → Type 0) (acts : List Act)
    (answer : R) : Type 0 where
  pub first : List Act
  pub middle : A
  pub second : List Act
  pub parts : acts ≡ first ++ second
  pub runs_first : First first middle
  pub runs_second : Second middle second answer

-- ---- the same call again and again

-- one run of a call: what it was given, what the caller did in it, and what it answered
pub record Run (X R : Type 0) : Type 0 where
  pub given : X
  pub acts : List Act
  pub answer : R

-- what the caller did in these runs, one after the other
abbrev pub acts_of : {X R : Type 0} → List (Run X R) → List Act
acts_of [] = []
acts_of (run ∷ later) = run.acts ++ acts_of later

-- The acts are runs of a call, one after the other, each of which answers that the call is to be made again.
-- `Shape x` is the shape of a run that is given x.
pub record Tries {X R : Type 0} (Shape : X → List Act → R → Type 0) (goes_on : X → R → Bool)
    (acts : List Act) : Type 0 where
  pub runs : List (Run X R)
  pub parts : acts ≡ acts_of runs
  pub made : All (λ run. Shape run.given run.acts run.answer) runs
  pub again : All (λ run. IsTrue (goes_on run.given run.answer)) runs

-- The acts are such runs and then one that answers that the call is over: a call that waits has done them
-- when it returns.
pub record Repeats {X R : Type 0} (Shape : X → List Act → R → Type 0) (goes_on : X → R → Bool) (acts : List Act)
    (answer : R) : Type 0 where
  pub before : List Act
  pub tries : Tries Shape goes_on before
  pub last : Run X R
  pub parts : acts ≡ before ++ last.acts
  pub made : Shape last.given last.acts last.answer
  pub over : IsFalse (goes_on last.given last.answer)
  pub answers : last.answer ≡ answer

-- the same of runs that are given nothing
abbrev pub Retries : {R : Type 0} → (List Act → R → Type 0) → (R → Bool) → List Act → R → Type 0
Retries Shape goes_on acts answer = Repeats (λ (_ : Unit {0}). Shape) (λ _. goes_on) acts answer
