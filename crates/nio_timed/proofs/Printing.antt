-- The line within a history of one call.
use Rattle.std.proofs.Common.{◌≡◌, ℕ, ◌-◌, List, [], ◌∷◌, ◌++◌, codes, drop, length, take, refl, sym, ap, ◌∙◌, OnOk}
use Rattle.std.proofs.Common.{Result, Ok, Err, append_assoc, length-append, arith}
use Rattle.std.specs.Bool.{if◌then◌else◌}
use Rattle.std.specs.Fmt.{decimal, digits}
use Rattle.std.specs.Result.{is_ok}
use Rattle.std.proofs.Math.Seq.{drop-append_seam, take-append_seam}
use Rattle.nio_base.specs.declared.numbers.CallerNo.{CallerNo}
use Rattle.nio_language.specs.Calls.{line_text}
use Rattle.nio_language.specs.Replies.{history_line, reply_text}
use Rattle.nio_language.specs.declared.call.Call.{Call}
use Rattle.nio_language.specs.declared.reply.Reply.TheVariants as reply

grouped : (number space text arrow reply newline : List ℕ)
    → number ++ space ++ text ++ arrow ++ reply ++ newline
    ≡ (number ++ space) ++ (text ++ (arrow ++ (reply ++ newline)))
grouped number space text arrow reply newline = simp append_assoc refl

-- a text that stands behind 2 bytes and before 7
within : (head text tail history : List ℕ) → history ≡ head ++ (text ++ tail) → length head ≡ 2 → length tail ≡ 7
    → take (length history - 7 - 2) (drop 2 history) ≡ text
within head text tail history is two seven =
    let many = length-append head (text ++ tail) in
    let more = length-append text tail in
    let whole = ap length is in
    let count : length history - 7 - 2 ≡ length text = omega (arith, many, more, whole, two, seven) in
    ap (λ n. take n (drop 2 history)) count
    ∙ ap (λ h. take (length text) (drop 2 h)) is
    ∙ ap (λ n. take (length text) (drop n (head ++ (text ++ tail)))) (sym two)
    ∙ ap (take (length text)) (drop-append_seam head (text ++ tail))
    ∙ take-append_seam text tail

one : decimal 1 ≡ 49 ∷ []
unfolding digits
one = refl

two_bytes : length (decimal 1 ++ codes " ") ≡ 2
two_bytes = ap (λ (n : List ℕ). length (n ++ codes " ")) one

pub line_within : (caller : CallerNo) (c : Call) (history : List ℕ) → history ≡ history_line 1 caller c reply.«Ok»
    → take (length history - 7 - 2) (drop 2 history) ≡ line_text caller c
line_within caller c history is =
    within (decimal 1 ++ codes " ") (line_text caller c) (codes " -> " ++ (reply_text reply.«Ok» ++ (10 ∷ []))) history
    (is ∙ grouped (decimal 1) (codes " ") (line_text caller c) (codes " -> ") (reply_text reply.«Ok») (10 ∷ []))
    two_bytes refl

-- what was added, where there was memory
pub on_ok : {E : Type 0} (r : Result (Unit {0}) E) (new old xs ys : List ℕ)
    → new ≡ (if is_ok r then old ++ xs else old) → xs ≡ ys → OnOk r (new ≡ old ++ ys)
on_ok (Ok _) new old xs ys e f = e ∙ ap (λ zs. old ++ zs) f
on_ok (Err _) new old xs ys e f = tt
