-- The history text: which bytes are a history of which calls and replies, by each of the rules, and
-- where the first line stands that isn't in its grammar.
use Rattle.std.specs.Prelude.{◌≡◌, ℕ, ◌+◌, List, [], ◌∷◌, ◌++◌, length, codes}
use Rattle.std.specs.Fmt.{decimal}
use Rattle.nio_language.specs.Calls.{IsBlank, IsLaterCall, IsLine, line_text}
use Rattle.nio_language.specs.Script.{lines_of}
use Rattle.nio_language.specs.declared.call.Call.{Call}
use Rattle.nio_language.specs.declared.call.ScriptCall.{ScriptCall}
use Rattle.nio_plain.specs.declared.rules.Rules.{Rules}
use Rattle.nio_plain.specs.declared.rules.Rules.TheVariants.{First, Now}

-- an entry of a history: a call of a caller, and the text of its reply
pub record Entry : Type 0 where
  pub line : ScriptCall
  pub reply : List ℕ

-- the call of an entry as a line of a script
abbrev pub call_text : Entry → List ℕ
call_text e = line_text e.line.caller e.line.call

-- entry number n: `n tC call -> reply`
abbrev pub entry_text : ℕ → Entry → List ℕ
entry_text n e = decimal n ++ codes " " ++ call_text e ++ codes " -> " ++ e.reply

-- The call is in the grammar of these rules. By the first rules each channel, each key and each channel of the group has
-- the serial 0, so no call names another, and there are no datagram channels.
abbrev pub IsCallOf : Rules → Call → Type 0
IsCallOf First call = ¬ IsLaterCall call
IsCallOf Now call = Unit {0}

-- These bytes are entry number n. Its call is in the grammar of scripts and of these rules, and its
-- reply is any text: all that follows the first arrow, since no call has an arrow.
pub record IsEntry (rules : Rules) (n : ℕ) (e : Entry) (bytes : List ℕ) : Type 0 where
  pub call : IsLine e.line.caller e.line.call (call_text e)
  pub of_rules : IsCallOf rules e.line.call
  pub text : bytes ≡ entry_text n e

-- lines are these entries in this order, numbered from n on, and blank lines among them
pub data AreEntries (rules : Rules) : ℕ → List (List ℕ) → List Entry → Type 0 where
  no_lines : {n : ℕ} → AreEntries rules n [] []
  blank_line : {n : ℕ} {line : List ℕ} {lines : List (List ℕ)} {entries : List Entry}
      → IsBlank line → AreEntries rules n lines entries → AreEntries rules n (line ∷ lines) entries
  entry_line : {n : ℕ} {line : List ℕ} {lines : List (List ℕ)} {e : Entry} {entries : List Entry}
      → IsEntry rules n e line → AreEntries rules (n + 1) lines entries
      → AreEntries rules n (line ∷ lines) (e ∷ entries)

-- a text is a history of these entries, by these rules
abbrev pub IsHistory : Rules → List ℕ → List Entry → Type 0
IsHistory rules text entries = AreEntries rules 1 (lines_of text) entries

-- Line number n, counted from 1 over all lines, is the first that isn't in the grammar: the lines
-- before it are entries, and it is neither blank nor the next entry.
pub record IsFirstBadEntry (rules : Rules) (text : List ℕ) (n : ℕ) : Type 0 where
  pub line : List ℕ
  pub before : List (List ℕ)
  pub after : List (List ℕ)
  pub entries : List Entry
  pub lines : lines_of text ≡ before ++ line ∷ after
  pub number : length before + 1 ≡ n
  pub good : AreEntries rules 1 before entries
  pub full : IsBlank line → ⊥
  pub bad : (e : Entry) → IsEntry rules (length entries + 1) e line → ⊥
