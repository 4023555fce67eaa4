-- Timed scripts: which bytes are a timed script of which calls, and where the first line stands that isn't in the
-- grammar.
use Rattle.std.specs.Prelude.{◌≡◌, ⊤, ℕ, ◌+◌, ◌<◌, ◌≤◌, ◌^◌, ◌⊎◌, List, [], ◌∷◌, ◌++◌, length, All, codes}
use Rattle.std.specs.Fmt.{decimal}
use Rattle.std.specs.List.{join_with_byte}
use Rattle.nio_language.specs.Calls.{IsBlank, call_words}
use Rattle.nio_language.specs.GroupCalls.{IsGroupCall}
use Rattle.nio_language.specs.GroupWords.{IsGroupName, group_channel_word, operation_kind_word}
use Rattle.nio_language.specs.Script.{lines_of}
use Rattle.nio_language.specs.Words.{IsNumber, caller_word}
use Rattle.nio_language.specs.declared.call.Call.TheVariants as call
use Rattle.nio_timed.specs.declared.call.TimedCall.{TimedCall}
use Rattle.nio_timed.specs.declared.call.TimedCall.TheVariants.{Group, StartTimed, Expire, Next}
use Rattle.nio_timed.specs.declared.call.TimedLine.{TimedLine}
use Rattle.nio_timed.specs.declared.call.TimedStart.{TimedStart}

-- ---- a call

-- the arguments of `start-timed`: a channel, a kind, a length, the moment now, and a limit
abbrev pub start_words : TimedStart → List (List ℕ)
start_words s =
    group_channel_word s.chan ∷ operation_kind_word s.kind ∷ decimal s.len ∷ decimal s.now ∷ decimal s.limit ∷ []

-- a call's word and its arguments; a call on the group has those that it has in a script
abbrev pub timed_words : TimedCall → List (List ℕ)
timed_words (Group g) = call_words (call.Group g)
timed_words (StartTimed s) = codes "start-timed" ∷ start_words s
timed_words (Expire now) = codes "expire" ∷ decimal now ∷ []
timed_words Next = codes "next" ∷ []

pub record IsTimedStart (s : TimedStart) : Type 0 where
  pub chan : IsGroupName s.chan
  pub len : IsNumber s.len
  pub now : s.now < 2 ^ 64
  pub limit : s.limit < 2 ^ 64

-- a call that a line can say: its moments and limits are below 2 ^ 64, its other numbers below 2 ^ 32
abbrev pub IsTimedCall : TimedCall → Type 0
IsTimedCall (Group g) = IsGroupCall g
IsTimedCall (StartTimed s) = IsTimedStart s
IsTimedCall (Expire now) = now < 2 ^ 64
IsTimedCall Next = ⊤

-- ---- a line

-- a caller and its call, each word after one space
abbrev pub timed_line_words : TimedLine → List (List ℕ)
timed_line_words l = caller_word l.caller ∷ timed_words l.call

abbrev pub timed_line_text : TimedLine → List ℕ
timed_line_text l = join_with_byte 32 (timed_line_words l)

-- these bytes are this line
pub record IsTimedLine (l : TimedLine) (bytes : List ℕ) : Type 0 where
  pub caller_fits : l.caller.0 < 64
  pub call_fits : IsTimedCall l.call
  pub text : bytes ≡ timed_line_text l
  pub short : length bytes ≤ 4096

-- ---- a text

-- lines are these calls in this order, and blank lines among them
pub data AreTimedLines : List (List ℕ) → List TimedLine → Type 0 where
  no_lines : AreTimedLines [] []
  blank_line : {line : List ℕ} {lines : List (List ℕ)} {calls : List TimedLine}
      → IsBlank line → AreTimedLines lines calls → AreTimedLines (line ∷ lines) calls
  timed_line : {line : List ℕ} {lines : List (List ℕ)} {l : TimedLine} {calls : List TimedLine}
      → IsTimedLine l line → AreTimedLines lines calls → AreTimedLines (line ∷ lines) (l ∷ calls)

-- a text is a timed script of these calls
abbrev pub IsTimedScript : List ℕ → List TimedLine → Type 0
IsTimedScript text calls = AreTimedLines (lines_of text) calls

-- a line that is in the grammar: it is blank, or a call of a caller
abbrev pub IsInTimedGrammar : List ℕ → Type 0
IsInTimedGrammar line = IsBlank line ⊎ ((l : TimedLine) × IsTimedLine l line)

-- line number n, counted from 1 over all lines, is the first that isn't in the grammar
pub record IsFirstBadTimed (text : List ℕ) (n : ℕ) : Type 0 where
  pub line : List ℕ
  pub before : List (List ℕ)
  pub after : List (List ℕ)
  pub lines : lines_of text ≡ before ++ line ∷ after
  pub number : length before + 1 ≡ n
  pub good : All IsInTimedGrammar before
  pub bad : IsInTimedGrammar line → ⊥
