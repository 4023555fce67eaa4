-- The texts of lines and of replies: neither has a newline, and a line has no `>`, so no arrow.
use Rattle.std.proofs.Common.{◌≢◌, ℕ, List, [], ◌∷◌, arith, All}
use Rattle.std.specs.List.{AllByRecursion, join_with_byte}
use Rattle.std.proofs.lemmas.List.Elements.{All-append, All-cons, All-nil, All-same}
use Rattle.nio_base.specs.declared.numbers.CallerNo.{CallerNo}
use Rattle.nio_language.specs.Calls.{IsLine, call_words, line_text}
use Rattle.nio_language.specs.Replies.{reply_text, reply_words}
use Rattle.nio_language.specs.Words.{caller_word}
use Rattle.nio_language.specs.declared.call.Call.{Call}
use Rattle.nio_language.specs.declared.reply.Reply.{Reply}
use Rattle.nio_language.proofs.PlainWords.{IsPlain, IsPlainByte, call_plain, caller_plain, reply_words_plain}
use Rattle.nio_language.proofs.PlainWords.{words_weaker}

-- what holds of a space and of each byte of some words holds of each byte of them joined
joined : (P : ℕ → Type 0) → P 32 → (words : List (List ℕ)) → AllByRecursion (All P) words
    → All P (join_with_byte 32 words)
joined P space [] all = All-nil P
joined P space (word ∷ []) all = all.0
joined P space (word ∷ next ∷ words) all =
    All-append P word (32 ∷ join_with_byte 32 (next ∷ words)) all.0
    (All-cons P 32 (join_with_byte 32 (next ∷ words)) space (joined P space (next ∷ words) all.1))

joined_plain : (P : ℕ → Type 0) → P 32 → ((b : ℕ) → IsPlainByte b → P b) → (words : List (List ℕ))
    → AllByRecursion IsPlain words
    → All P (join_with_byte 32 words)
joined_plain P space weaker words plain = joined P space words (words_weaker P weaker words plain)

pub line_plain : {caller : CallerNo} {call : Call} {bytes : List ℕ} → IsLine caller call bytes
    → All (λ b. (b ≢ 10) × (b ≢ 62)) bytes
line_plain {caller = caller} {call = call} {bytes = bytes} line =
    All-same (λ b. (b ≢ 10) × (b ≢ 62)) bytes (line_text caller call) line.text
    (joined_plain (λ b. (b ≢ 10) × (b ≢ 62)) (omega arith, omega arith)
    (λ b plain. (omega (arith, plain), omega (arith, plain)))
    (caller_word caller ∷ call_words call)
    (caller_plain caller, call_plain call))

pub reply_plain : (r : Reply) → All (λ b. b ≢ 10) (reply_text r)
reply_plain r =
    joined_plain (λ b. b ≢ 10) (omega arith) (λ b plain. omega (arith, plain)) (reply_words r) (reply_words_plain r)
