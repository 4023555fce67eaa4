-- The lines of a script: which bytes are a call of which caller, and which are blank.
use Rattle.std.specs.Prelude.{◌≡◌, ℕ, ◌<◌, ◌≤◌, Some, List, [], ◌∷◌, ◌⊎◌, length, slice_get}
use Rattle.std.specs.List.{join_with_byte}
use Rattle.nio_base.specs.declared.numbers.CallerNo.{CallerNo}
use Rattle.nio_language.specs.Arguments.{AreLater, ArgumentsFit, argument_words}
use Rattle.nio_language.specs.CallWords.{arguments, call_word, call_word_text}
use Rattle.nio_language.specs.Words.{caller_word}
use Rattle.nio_language.specs.declared.call.Call.{Call}

-- a call word and its arguments
abbrev pub call_words : Call → List (List ℕ)
call_words call = call_word_text (call_word call) ∷ argument_words (arguments call)

-- a call that a line can say: its numbers fit, and it names each key at most once
abbrev pub IsCall : Call → Type 0
IsCall call = ArgumentsFit (arguments call)

-- the call came later than the first rules: it names a channel, a key or a channel of the group whose serial isn't 0,
-- or opens a datagram channel
abbrev pub IsLaterCall : Call → Type 0
IsLaterCall call = AreLater (arguments call)

-- a caller and its call, each word after one space
abbrev pub line_text : CallerNo → Call → List ℕ
line_text caller call = join_with_byte 32 (caller_word caller ∷ call_words call)

-- these bytes are a line with this call of this caller
pub record IsLine (caller : CallerNo) (call : Call) (bytes : List ℕ) : Type 0 where
  pub caller_fits : caller.0 < 64
  pub call_fits : IsCall call
  pub text : bytes ≡ line_text caller call
  pub short : length bytes ≤ 4096

-- a line of no bytes, or one that begins with #
abbrev pub IsBlank : List ℕ → Type 0
IsBlank bytes = (bytes ≡ []) ⊎ (slice_get bytes 0 ≡ Some 35)
