-- How the options of a command are written.
use Rattle.std.specs.Prelude.{◌≡◌, ℕ, List, [], ◌∷◌, ◌++◌, map, codes, IsPermutation}
use Rattle.std.specs.List.{flat_map}

abbrev pub Text : Type 0
Text = List ℕ

-- an option as it is written: joined, as `--name=value`, or apart, as `--name value`
pub data Written : Type 0 where
  joined : Text → Text → Written
  apart : Text → Text → Written

-- the name and the value of an option
abbrev pub given : Written → Text × Text
given (joined name value) = (name, value)
given (apart name value) = (name, value)

-- its words on the command line: one where it is joined, two where it is apart
abbrev pub option_words : Written → List Text
option_words (joined name value) = (codes "--" ++ name ++ codes "=" ++ value) ∷ []
option_words (apart name value) = (codes "--" ++ name) ∷ value ∷ []

-- The words are these options, each written once, in any order.
pub record AreOptions (words : List Text) (options : List (Text × Text)) : Type 0 where
  pub written : List Written
  pub order : IsPermutation (map given written) options
  pub spelled : words ≡ flat_map option_words written
