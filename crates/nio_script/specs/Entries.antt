-- How the lines of a text become calls or entries.
use Rattle.std.specs.Prelude.{◌≡◌, ℕ, ◌+◌, Option, Some, IfSome, List, [], ◌∷◌, ◌++◌, length}
use Rattle.nio_language.specs.Calls.{IsBlank}
use Rattle.nio_plain.specs.declared.rules.Rules.{Rules}
use Rattle.nio_script.specs.History.{Entry, IsEntry}

-- the answer of a reader that looks for an x with `IsSo x`: what it finds is one, and it finds any that there is
pub record Finds {A : Type 0} (IsSo : A → Type 0) (answer : Option A) : Type 0 where
  pub found : IfSome answer IsSo
  pub only : (x : A) → IsSo x → answer ≡ Some x

-- items with `AreSo` are added behind those before
pub record Adds {A : Type 0} (AreSo : List A → Type 0) (before after : List A) : Type 0 where
  pub added : List A
  pub so : AreSo added
  pub adds : after ≡ before ++ added

-- no calls are those of this line
abbrev pub IsNoLine : {A : Type 0} → (List (List ℕ) → List A → Type 0) → List ℕ → Type 0
IsNoLine {A} Are line = (calls : List A) → Are (line ∷ []) calls → ⊥

-- Of these lines, which stand behind so many others, number n of all is the first that has no calls:
-- the lines before it have some, and with it they have none.
pub record StopsAt {A : Type 0} (Are : List (List ℕ) → List A → Type 0) (skipped : ℕ) (lines : List (List ℕ)) (n : ℕ)
    : Type 0 where
  pub line : List ℕ
  pub before : List (List ℕ)
  pub after : List (List ℕ)
  pub calls : List A
  pub parts : lines ≡ before ++ line ∷ after
  pub number : skipped + length before + 1 ≡ n
  pub good : Are before calls
  pub bad : (others : List A) → Are (before ++ line ∷ []) others → ⊥

-- a line is neither blank nor entry number n
pub record IsNoEntry (rules : Rules) (n : ℕ) (line : List ℕ) : Type 0 where
  pub full : IsBlank line → ⊥
  pub bad : (e : Entry) → IsEntry rules n e line → ⊥
