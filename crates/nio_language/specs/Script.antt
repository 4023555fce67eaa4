-- Scripts: which bytes are a script of which calls, and where the first line stands that isn't in
-- the grammar.
use Rattle.std.specs.Prelude.{◌≡◌, ℕ, ◌+◌, ◌==◌, List, [], ◌∷◌, ◌++◌, length, All}
use Rattle.std.specs.List.{slice_split}
use Rattle.nio_base.specs.declared.numbers.CallerNo.{CallerNo}
use Rattle.nio_language.specs.Calls.{IsLine, IsBlank}
use Rattle.nio_language.specs.declared.call.Call.{Call}
use Rattle.nio_language.specs.declared.call.ScriptCall.{ScriptCall}

-- the lines of a text. A line ends with a newline; what follows the last one is a line too, which
-- has no bytes where the text ends with a newline, and is blank then
abbrev pub lines_of : List ℕ → List (List ℕ)
lines_of text = slice_split (λ b. b == 10) text

-- lines are these calls in this order, and blank lines among them
pub data AreCalls : List (List ℕ) → List ScriptCall → Type 0 where
  no_lines : AreCalls [] []
  blank_line : {line : List ℕ} {lines : List (List ℕ)} {calls : List ScriptCall}
      → IsBlank line → AreCalls lines calls → AreCalls (line ∷ lines) calls
  call_line : {line : List ℕ} {lines : List (List ℕ)} {caller : CallerNo} {c : Call} {calls : List ScriptCall}
      → IsLine caller c line → AreCalls lines calls
      → AreCalls (line ∷ lines) (record { caller = caller; call = c } ∷ calls)

-- a text is a script of these calls
abbrev pub IsScript : List ℕ → List ScriptCall → Type 0
IsScript text calls = AreCalls (lines_of text) calls

-- a line that is in the grammar of scripts: it is blank, or a call of a caller
pub data IsInGrammar : List ℕ → Type 0 where
  is_blank : {line : List ℕ} → IsBlank line → IsInGrammar line
  is_call : {line : List ℕ} (caller : CallerNo) (c : Call) → IsLine caller c line → IsInGrammar line

-- line number n, counted from 1 over all lines, is the first that isn't in the grammar
pub record IsFirstBad (text : List ℕ) (n : ℕ) : Type 0 where
  pub line : List ℕ
  pub before : List (List ℕ)
  pub after : List (List ℕ)
  pub lines : lines_of text ≡ before ++ line ∷ after
  pub number : length before + 1 ≡ n
  pub good : All IsInGrammar before
  pub bad : IsInGrammar line → ⊥
