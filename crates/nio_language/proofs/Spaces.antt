-- Words without a space: those of a line are, and so splitting the line gives them back.
use Rattle.std.proofs.Common.{◌≡◌, ◌≢◌, ℕ, ◌<◌, ◌==◌, false, List, [], ◌∷◌, refl, ap, ◌∙◌, arith, All}
use Rattle.std.specs.Fmt.{decimal}
use Rattle.std.specs.List.{AllByRecursion, join_with_byte, slice_split}
use Rattle.std.proofs.lemmas.Bool.{ne_eqb}
use Rattle.std.proofs.lemmas.List.Elements.{All-weaker}
use Rattle.std.proofs.lemmas.List.Splits.{slice_split_none, slice_split_at}
use Rattle.nio_language.specs.Calls.{IsCall, call_words}
use Rattle.nio_language.specs.declared.call.Call.{Call}
use Rattle.nio_language.proofs.PlainWords.{IsPlainByte, call_plain, numbered_plain, words_weaker}

abbrev pub Spaceless : List ℕ → Type 0
Spaceless word = All (λ b. b ≢ 32) word

-- the words of a text, joined by spaces and split at them
pub split_join : (word : List ℕ) (words : List (List ℕ)) → Spaceless word → AllByRecursion Spaceless words
    → slice_split (λ b. b == 32) (join_with_byte 32 (word ∷ words)) ≡ word ∷ words
split_join word [] s all =
    slice_split_none (λ b. b == 32) word
    (All-weaker (λ b. b ≢ 32) (λ b. (b == 32) ≡ false) (λ b n. ne_eqb b 32 n) word s)
split_join word (next ∷ words) s all =
    slice_split_at (λ b. b == 32) word 32 (join_with_byte 32 (next ∷ words))
    (All-weaker (λ b. b ≢ 32) (λ b. (b == 32) ≡ false) (λ b n. ne_eqb b 32 n) word s)
    refl
    ∙ ap (λ ws. word ∷ ws) (split_join next words all.0 all.1)

no_space : (b : ℕ) → IsPlainByte b → b ≢ 32
no_space b plain = omega (arith, plain)

pub call_spaceless : (call : Call) → IsCall call → AllByRecursion Spaceless (call_words call)
call_spaceless call fits = words_weaker (λ b. b ≢ 32) no_space (call_words call) (call_plain call)

pub caller_spaceless : (n : ℕ) → n < 64 → Spaceless (116 ∷ decimal n)
caller_spaceless n h =
    All-weaker IsPlainByte (λ b. b ≢ 32) no_space (116 ∷ decimal n) (numbered_plain 116 n (omega arith, omega arith))
