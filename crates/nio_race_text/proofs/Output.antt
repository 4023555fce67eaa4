-- The line of a history and the line of a race's output.
use Rattle.std.proofs.Common.{◌≡◌, ℕ, List, [], ◌∷◌, ◌++◌, drop, length, codes, refl, ap, ◌∙◌, append_assoc}
use Rattle.std.proofs.Common.{length-append, arith}
use Rattle.std.specs.Fmt.{decimal}
use Rattle.std.specs.List.{join_with_byte}
use Rattle.std.proofs.Math.Seq.{drop-append_seam}
use Rattle.nio_base.specs.declared.numbers.CallerNo.{CallerNo}
use Rattle.nio_language.specs.Calls.{call_words}
use Rattle.nio_language.specs.Replies.{history_line, reply_text}
use Rattle.nio_language.specs.Words.{caller_word}
use Rattle.nio_language.specs.declared.call.Call.{Call}
use Rattle.nio_language.specs.declared.reply.Reply.{Reply}
use Rattle.nio_race_text.specs.RaceOutput.{race_line_text}
use Rattle.nio_race_text.specs.declared.call.RaceCall.TheVariants.{Script}

-- The words of a caller and of a number with their spaces, in either order, and what follows.
module _ (caller number space rest arrow reply newline : List ℕ) where
  swapped_size : length (caller ++ space ++ number ++ space) ≡ length (number ++ space ++ (caller ++ space))
  swapped_size = simp length-append (omega arith)

  number_first : number ++ space ++ (caller ++ (space ++ rest)) ++ arrow ++ reply ++ newline
      ≡ number ++ space ++ (caller ++ space) ++ (rest ++ arrow ++ reply ++ newline)
  number_first = simp append_assoc refl

  caller_first : caller ++ space ++ number ++ space ++ (rest ++ arrow ++ reply ++ newline)
      ≡ caller ++ space ++ number ++ space ++ rest ++ arrow ++ reply ++ newline
  caller_first = simp append_assoc refl

  behind_swapped : drop (length (caller ++ space ++ number ++ space))
      (number ++ space ++ (caller ++ (space ++ rest)) ++ arrow ++ reply ++ newline)
      ≡ rest ++ arrow ++ reply ++ newline
  behind_swapped =
      ap (λ n. drop n (number ++ space ++ (caller ++ (space ++ rest)) ++ arrow ++ reply ++ newline)) swapped_size
      ∙ ap (drop (length (number ++ space ++ (caller ++ space)))) number_first
      ∙ drop-append_seam (number ++ space ++ (caller ++ space)) (rest ++ arrow ++ reply ++ newline)

-- the history's line from its third word on, behind the first two exchanged
pub exchanged : (number : ℕ) (caller : CallerNo) (call : Call) (reply : Reply) (line history rest : List ℕ) (size : ℕ)
    → line ≡ caller_word caller ++ codes " " ++ decimal number ++ codes " " → history
    ≡ history_line number caller call reply
    → size ≡ length line → rest ≡ drop size history → line ++ rest ≡ race_line_text caller number (Script call) reply
exchanged number caller call reply line history rest size e f g h =
    let words = join_with_byte 32 (call_words call) in
    let behind = behind_swapped (caller_word caller) (decimal number) (codes " ") words (codes " -> ")
    (reply_text reply) (10 ∷ []) in
    ap (λ l. l ++ rest) e
    ∙ ap (λ r. caller_word caller ++ codes " " ++ decimal number ++ codes " " ++ r)
    (h ∙ ap (drop size) f ∙ ap (λ n. drop n (history_line number caller call reply)) (g ∙ ap length e) ∙ behind)
    ∙ caller_first (caller_word caller) (decimal number) (codes " ") words (codes " -> ") (reply_text reply) (10 ∷ [])
