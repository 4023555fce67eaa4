-- What the words behind a call word, and a whole line, are read as.
use Rattle.std.specs.Prelude.{◌≡◌, ℕ, ◌<◌, List, ◌∷◌, Option, Some, IfSome}
use Rattle.nio_base.specs.declared.numbers.CallerNo.{CallerNo}
use Rattle.nio_language.specs.Arguments.{argument_words}
use Rattle.nio_language.specs.CallWords.{arguments, call_word}
use Rattle.nio_language.specs.Calls.{IsCall, IsLine, call_words}
use Rattle.nio_language.specs.Reading.{Reads}
use Rattle.nio_language.specs.Words.{caller_word}
use Rattle.nio_language.specs.declared.call.Call.{Call}
use Rattle.nio_language.specs.declared.call_word.CallWord.{CallWord}

-- the answer is the call with this word whose arguments these words are, where there is one
abbrev pub ReadsCall : CallWord → List (List ℕ) → Option Call → Type 0
ReadsCall word args result =
    Reads (λ c. IsCall c × (call_word c ≡ word)) (λ c. argument_words (arguments c)) args result

pub record FitsLine (p : CallerNo × Call) : Type 0 where
  pub caller : p.0.0 < 64
  pub call : IsCall p.1

abbrev pub line_words : CallerNo × Call → List (List ℕ)
line_words p = caller_word p.0 ∷ call_words p.1

-- the answer is the caller and the call that these bytes are a line of, where there are any
pub record ReadsLine (bytes : List ℕ) (result : Option (CallerNo × Call)) : Type 0 where
  pub found : IfSome result (λ p. IsLine p.0 p.1 bytes)
  pub only : (caller : CallerNo) (call : Call) → IsLine caller call bytes → result ≡ Some (caller, call)
