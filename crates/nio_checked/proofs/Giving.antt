-- What stands at the front of a list.
use Rattle.std.proofs.Common.{◌≡◌, List, [], ◌∷◌, ◌++◌, refl, ◌∙◌}

-- a list begins with nothing where it is nothing
pub front_none : {X : Type 0} (first second all : List X) → first ++ second ≡ all → all ≡ [] → first ≡ []
front_none [] second all is none = refl
front_none (x ∷ first) second all is none = let clash = is ∙ none in absurd (cc clash)
