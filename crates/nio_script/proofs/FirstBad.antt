-- How the calls of a text grow by a line; and that a text is a script, or has one first line that
-- isn't in the grammar, and not both.
use Rattle.std.proofs.Common.{◌≡◌, ℕ, List, [], ◌∷◌, ◌++◌, ap, arith}
use Rattle.std.specs.Prelude.{All, Result, Ok, Err, IfOk, MatchResult}
use Rattle.std.proofs.lemmas.List.Elements.{All-nil, All-cons}
use Rattle.nio_language.specs.Script.{lines_of, IsScript, IsFirstBad, AreCalls, no_lines, blank_line, call_line}
use Rattle.nio_language.specs.Script.{IsInGrammar, is_blank, is_call}
use Rattle.nio_language.specs.declared.call.ScriptCall.{ScriptCall}
use Rattle.nio_language.proofs.OneReading.{calls_one}
use Rattle.nio_script.specs.Entries.{StopsAt}
use Rattle.nio_script.specs.declared.script.ScriptError.{ScriptError}
use Rattle.nio_script.specs.declared.script.ScriptError.TheVariants.{BadLine, Memory}
use Rattle.nio_script.proofs.FirstBreak.{IsBreak, break_of_all, unbroken, one_break}
use Rattle.nio_script.proofs.Lines.{only_memory}

-- lines behind others
pub AreCalls-append : {first rest : List (List ℕ)} {front back : List ScriptCall}
    → AreCalls first front → AreCalls rest back → AreCalls (first ++ rest) (front ++ back)
AreCalls-append no_lines more = more
AreCalls-append (blank_line b others) more = blank_line b (AreCalls-append others more)
AreCalls-append (call_line is others) more = call_line is (AreCalls-append others more)

-- the last lines of some
pub AreCalls-behind : (xs ys : List (List ℕ)) (calls : List ScriptCall) → AreCalls (xs ++ ys) calls
    → (rest : List ScriptCall) × AreCalls ys rest
AreCalls-behind [] ys calls are = (calls, are)
AreCalls-behind (x ∷ xs) ys calls (blank_line b are) = AreCalls-behind xs ys calls are
AreCalls-behind (x ∷ xs) ys calls (call_line {calls = others} is are) = AreCalls-behind xs ys others are

-- lines that are calls are in the grammar
grammatical : {lines : List (List ℕ)} {calls : List ScriptCall} → AreCalls lines calls → All IsInGrammar lines
grammatical no_lines = All-nil IsInGrammar
grammatical (blank_line {line = line} {lines = lines} b rest) =
    All-cons IsInGrammar line lines (is_blank b) (grammatical rest)
grammatical (call_line {line = line} {lines = lines} {caller = caller} {c = c} is rest) =
    All-cons IsInGrammar line lines (is_call caller c is) (grammatical rest)

-- a line in the grammar has calls
calls_of_line : {line : List ℕ} → IsInGrammar line → (calls : List ScriptCall) × AreCalls (line ∷ []) calls
calls_of_line (is_blank b) = ([], blank_line b no_lines)
calls_of_line (is_call caller c is) = (record { caller = caller; call = c } ∷ [], call_line is no_lines)

-- where the lines of a text stop being calls, the first line stands that isn't in the grammar
pub first_bad_from_stop : {text : List ℕ} {n : ℕ} → StopsAt AreCalls 0 (lines_of text) n → IsFirstBad text n
first_bad_from_stop stop = record {
  line = stop.line;
  before = stop.before;
  after = stop.after;
  lines = stop.parts;
  number = omega (arith, stop.number);
  good = grammatical stop.good;
  bad = λ good.
      let read = calls_of_line good in
      stop.bad (stop.calls ++ read.0) (AreCalls-append stop.good read.1);
}

break_of : (text : List ℕ) (n : ℕ) → IsFirstBad text n → IsBreak (All IsInGrammar) (lines_of text) n
break_of text n bad = break_of_all IsInGrammar bad.before bad.after bad.lines bad.number bad.good bad.bad

pub script_not_bad : (text : List ℕ) (calls : List ScriptCall) (n : ℕ) → IsScript text calls → IsFirstBad text n → ⊥
script_not_bad text calls n script bad =
    unbroken (All IsInGrammar) (lines_of text) n (grammatical script) (break_of text n bad)

pub first_bad_is_one : (text : List ℕ) (m n : ℕ) → IsFirstBad text m → IsFirstBad text n → m ≡ n
first_bad_is_one text m n x y = one_break (All IsInGrammar) (lines_of text) m n (break_of text m x) (break_of text n y)

-- whatever calls a text is a script of, a reader finds these
pub only_calls : {V : Type 0} {text : List ℕ} (items : V → List ScriptCall) (r : Result V ScriptError)
    → IfOk r (λ v. IsScript text (items v)) → ((n : ℕ) → r ≡ Err (BadLine n) → IsFirstBad text n)
    → (calls : List ScriptCall) → IsScript text calls → MatchResult r (λ v. items v ≡ calls) (λ e. e ≡ Memory)
only_calls items (Ok v) ok bad calls are = calls_one ok are
only_calls {text = text} items (Err e) ok bad calls are =
    only_memory e (λ n named. script_not_bad text calls n are (bad n (ap Err named)))
