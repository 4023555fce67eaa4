-- How the calls of a text grow by a line; and that a text is a timed script, or has one first line that isn't in the
-- grammar, and not both.
use Rattle.std.proofs.Common.{◌≡◌, ℕ, ◌+◌, List, ◌++◌, drop, take, inl, inr, sym, ◌∙◌}
use Rattle.std.specs.Prelude.{All}
use Rattle.std.proofs.lemmas.List.Elements.{All-nil, All-cons}
use Rattle.nio_language.specs.Script.{lines_of}
use Rattle.nio_script.proofs.FirstBreak.{IsBreak, break_of_all, unbroken, one_break}
use Rattle.nio_script.proofs.Lines.{IsNext, parts, number_of_next}
use Rattle.nio_timed.specs.Lines.{AreTimedLines, no_lines, blank_line, timed_line, IsFirstBadTimed, IsInTimedGrammar}
use Rattle.nio_timed.specs.Lines.{IsTimedScript}
use Rattle.nio_timed.specs.declared.call.TimedLine.{TimedLine}

-- lines behind others
pub AreTimedLines-append : {first rest : List (List ℕ)} {front back : List TimedLine}
    → AreTimedLines first front → AreTimedLines rest back → AreTimedLines (first ++ rest) (front ++ back)
AreTimedLines-append no_lines more = more
AreTimedLines-append (blank_line b others) more = blank_line b (AreTimedLines-append others more)
AreTimedLines-append (timed_line is others) more = timed_line is (AreTimedLines-append others more)

-- lines that are calls are in the grammar
grammatical : {lines : List (List ℕ)} {calls : List TimedLine} → AreTimedLines lines calls → All IsInTimedGrammar lines
grammatical no_lines = All-nil IsInTimedGrammar
grammatical (blank_line {line = line} {lines = lines} b rest) =
    All-cons IsInTimedGrammar line lines (inl b) (grammatical rest)
grammatical (timed_line {line = line} {lines = lines} {l = l} is rest) =
    All-cons IsInTimedGrammar line lines (inr (l, is)) (grammatical rest)

-- a line that isn't in the grammar, behind lines that are calls, is the first
pub first_bad_here : {text : List ℕ} {lines : List (List ℕ)} {i : ℕ} {line : List ℕ} {calls : List TimedLine}
    → lines ≡ lines_of text → IsNext lines i line → AreTimedLines (take i lines) calls → (IsInTimedGrammar line → ⊥)
    → IsFirstBadTimed text (i + 1)
first_bad_here {lines = lines} {i = i} {line = line} are next read bad = record {
  line = line;
  before = take i lines;
  after = drop (i + 1) lines;
  lines = sym are ∙ parts next;
  number = number_of_next next;
  good = grammatical read;
  bad = bad;
}

break_of : (text : List ℕ) (n : ℕ) → IsFirstBadTimed text n → IsBreak (All IsInTimedGrammar) (lines_of text) n
break_of text n bad = break_of_all IsInTimedGrammar bad.before bad.after bad.lines bad.number bad.good bad.bad

pub script_not_bad : (text : List ℕ) (calls : List TimedLine) (n : ℕ) → IsTimedScript text calls
    → IsFirstBadTimed text n → ⊥
script_not_bad text calls n script bad =
    unbroken (All IsInTimedGrammar) (lines_of text) n (grammatical script) (break_of text n bad)

pub first_bad_is_one : (text : List ℕ) (m n : ℕ) → IsFirstBadTimed text m → IsFirstBadTimed text n → m ≡ n
first_bad_is_one text m n x y =
    one_break (All IsInTimedGrammar) (lines_of text) m n (break_of text m x) (break_of text n y)
