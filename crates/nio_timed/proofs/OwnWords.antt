-- The words of the lines that scripts don't have.
use Rattle.std.proofs.Common.{◌≡◌, ◌≢◌, ℕ, ◌==◌, List, ◌∷◌, ◌++◌, codes, None, drop, inl}
use Rattle.std.proofs.Common.{inr, refl, sym, ap, ◌∙◌, arith}
use Rattle.std.specs.Prelude.{⊤}
use Rattle.std.specs.Fmt.{decimal}
use Rattle.std.specs.List.{AllByRecursion, slice_split}
use Rattle.std.proofs.lemmas.Option.{none-some, same_Some}
use Rattle.nio_base.specs.declared.group.OpKind.TheVariants.{Read}
use Rattle.nio_base.specs.declared.numbers.CallerNo.{CallerNo}
use Rattle.nio_language.specs.Calls.{IsBlank, IsLine, call_words}
use Rattle.nio_language.specs.CallWords.{call_word, call_word_text}
use Rattle.nio_language.specs.Printing.{spaced}
use Rattle.nio_language.specs.Reading.{Reads}
use Rattle.nio_language.specs.Words.{caller_word}
use Rattle.nio_language.specs.declared.call.Call.{Call}
use Rattle.nio_language.specs.declared.call.Call.TheVariants as call
use Rattle.nio_language.specs.declared.group_call.GroupCall.TheVariants as group
use Rattle.nio_language.proofs.CallWordTable.{reads_call_word}
use Rattle.nio_language.proofs.JoinedWords.{join_spaced}
use Rattle.nio_language.proofs.Ones.{word_at}
use Rattle.nio_language.proofs.PlainWords.{IsPlain, call_plain, literal, words_weaker}
use Rattle.nio_language.proofs.Spaces.{Spaceless, split_join, caller_spaceless}
use Rattle.nio_script.proofs.Lines.{line_words_of}
use Rattle.nio_timed.specs.Lines.{IsTimedLine, timed_line_words, timed_words}
use Rattle.nio_timed.specs.Reading.{IsOwnCall}
use Rattle.nio_timed.specs.declared.call.TimedCall.{TimedCall}
use Rattle.nio_timed.specs.declared.call.TimedCall.TheVariants.{Group, StartTimed, Expire, Next}
use Rattle.nio_timed.specs.declared.call.TimedLine.{TimedLine}

-- ---- a line of either sort begins with `t`

begins : {l : TimedLine} {line : List ℕ} → IsTimedLine l line
    → line ≡ 116 ∷ (decimal l.caller.0 ++ spaced (timed_words l.call))
begins {l = l} is = is.text ∙ join_spaced (caller_word l.caller) (timed_words l.call)

pub timed_full : {l : TimedLine} {line : List ℕ} → IsTimedLine l line → IsBlank line → ⊥
timed_full is (inl none) = cc (begins is, none)
timed_full is (inr hash) = absurd (omega (arith, same_Some 116 35 (rw (begins is) at hash)))

-- ---- words without a space

-- the words of `start` are plain, so these are
own_plain : (c : TimedCall) → IsOwnCall c → AllByRecursion IsPlain (timed_words c)
own_plain (Group g) own = absurd own
own_plain (StartTimed s) own =
    let len = call_plain (call.Group (group.Start s.chan s.kind s.len)) in
    let now = call_plain (call.Group (group.Start s.chan s.kind s.now)) in
    let limit = call_plain (call.Group (group.Start s.chan s.kind s.limit)) in (
      literal (codes "start-timed") refl,
      (len.1.0, (len.1.1.0, (len.1.1.1.0, (now.1.1.1.0, (limit.1.1.1.0, tt))))),
    )
own_plain (Expire now) own =
    let len = call_plain (call.Group (group.Start (record { number = 0; serial = 0 }) Read now)) in
    (literal (codes "expire") refl, (len.1.1.1.0, tt))
own_plain Next own = (literal (codes "next") refl, tt)

own_spaceless : (c : TimedCall) → IsOwnCall c → AllByRecursion Spaceless (timed_words c)
own_spaceless c own =
    words_weaker (λ b. b ≢ 32) (λ b plain. omega (arith, plain)) (timed_words c) (own_plain c own)

pub own_words_of : {l : TimedLine} {line : List ℕ} → IsTimedLine l line → IsOwnCall l.call
    → slice_split (λ b. b == 32) line ≡ timed_line_words l
own_words_of {l = l} is own =
    ap (slice_split (λ b. b == 32)) is.text
    ∙ split_join (caller_word l.caller) (timed_words l.call) (caller_spaceless l.caller.0 is.caller_fits)
    (own_spaceless l.call own)

-- ---- no call of a script has one of these words

no_call_word : (word : List ℕ) (c : Call) → Reads (λ _. ⊤) call_word_text word None
    → call_word_text (call_word c) ≡ word → ⊥
no_call_word word c read e = none-some (call_word c) (read.only (call_word c) tt (sym e))

not_own_word : (c : Call) (d : TimedCall) → IsOwnCall d → call_words c ≡ timed_words d → ⊥
not_own_word c (Group g) own e = absurd own
not_own_word c (StartTimed s) own e =
    no_call_word (codes "start-timed") c (reads_call_word (codes "start-timed") None refl) (word_at 0 e)
not_own_word c (Expire now) own e =
    no_call_word (codes "expire") c (reads_call_word (codes "expire") None refl) (word_at 0 e)
not_own_word c Next own e = no_call_word (codes "next") c (reads_call_word (codes "next") None refl) (word_at 0 e)

pub apart : {caller : CallerNo} {c : Call} {l : TimedLine} {line : List ℕ} → IsLine caller c line
    → IsTimedLine l line → IsOwnCall l.call → ⊥
apart {c = c} {l = l} x y own =
    not_own_word c l.call own (ap (drop 1) (sym (line_words_of x) ∙ own_words_of y own))
