-- What holds of all elements of a list holds of the last one, and of all others.
use Rattle.std.proofs.Common.{ℕ, zero, suc, List, [], ◌∷◌, ◌++◌, All, arith}

pub last : {X : Type 0} (P : X → Type 0) (xs : List X) (y : X) → All P (xs ++ y ∷ []) → P y
last P [] y all = all zero y (omega arith)
last P (x ∷ xs) y all = last P xs y (λ k d below. all (suc k) d (omega arith))

pub all_but_last : {X : Type 0} (P : X → Type 0) (xs : List X) (y : X) → All P (xs ++ y ∷ []) → All P xs
all_but_last P [] y all k d below = absurd (omega arith)
all_but_last P (x ∷ xs) y all zero d below = all zero d (omega arith)
all_but_last P (x ∷ xs) y all (suc k) d below =
    all_but_last P xs y (λ j e there. all (suc j) e (omega arith)) k d (omega arith)
