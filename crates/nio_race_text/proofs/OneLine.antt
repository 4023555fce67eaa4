-- A line behind `go` is one call of one caller; and a caller's line is neither blank nor `go`.
use Rattle.std.proofs.Common.{◌≡◌, ◌≢◌, ℕ, ◌<◌, ◌^◌, ◌==◌, List, [], ◌∷◌, ◌++◌, get_or, codes, None, inl, inr, refl}
use Rattle.std.proofs.Common.{sym, ap, ◌∙◌, arith}
use Rattle.std.specs.Fmt.{decimal}
use Rattle.std.specs.List.{join_with_byte, slice_split}
use Rattle.std.proofs.lemmas.List.Elements.{All-cons, All-nil}
use Rattle.std.proofs.lemmas.Option.{none-some, same_Some}
use Rattle.nio_base.specs.declared.numbers.CallerNo.{CallerNo}
use Rattle.nio_base.specs.declared.numbers.SelNo.{SelNo}
use Rattle.nio_language.proofs.Ones.{numbered_one, word_at}
use Rattle.nio_language.specs.Calls.{IsBlank, IsLine, call_words}
use Rattle.nio_language.specs.CallWords.{call_word, call_word_text}
use Rattle.nio_language.specs.Words.{caller_word}
use Rattle.nio_language.specs.declared.call.Call.{Call}
use Rattle.nio_language.proofs.CallWordTable.{reads_call_word}
use Rattle.nio_language.proofs.NameWords.{decimal_lacks}
use Rattle.nio_language.proofs.OneReading.{line_one}
use Rattle.nio_language.proofs.Spaces.{Spaceless, split_join, caller_spaceless}
use Rattle.nio_race_text.specs.RaceLines.{IsBlockLine, IsRaceLine, script_line, block_line, AreRaceLines, no_lines}
use Rattle.nio_race_text.specs.RaceLines.{blank_line, race_line, race_words}
use Rattle.nio_race_text.specs.RaceText.{go_line}
use Rattle.nio_race_text.specs.declared.call.RaceCall.{RaceCall}
use Rattle.nio_race_text.specs.declared.call.RaceCall.TheVariants.{Script, Block}
use Rattle.nio_race_text.specs.declared.call.RaceLine.{RaceLine}
use Rattle.nio_script.proofs.Lines.{line_words_of}

-- ---- how a line begins

-- a line that begins with `t`
abbrev Begins : List ℕ → Type 0
Begins line = (rest : List ℕ) × (line ≡ 116 ∷ rest)

line_begins : {caller : CallerNo} {c : Call} {line : List ℕ} → IsLine caller c line → Begins line
line_begins {caller = caller} {c = c} is = (decimal caller.0 ++ 32 ∷ join_with_byte 32 (call_words c), is.text)

race_begins : {caller : CallerNo} {c : RaceCall} {line : List ℕ} → IsRaceLine caller c line → Begins line
race_begins (script_line is may) = line_begins is
race_begins (block_line {caller = caller} {s = s} is) =
    (decimal caller.0 ++ 32 ∷ join_with_byte 32 (race_words (Block s)), is.text)

begins_full : {line : List ℕ} → Begins line → IsBlank line → ⊥
begins_full begins (inl none) = cc (begins.1, none)
begins_full begins (inr hash) = absurd (omega (arith, same_Some 116 35 (rw begins.1 at hash)))

begins_not_go : {line : List ℕ} → Begins line → line ≡ go_line → ⊥
begins_not_go begins go = omega (arith, ap (λ w. get_or w 0 0) (sym begins.1 ∙ go))

pub line_not_go : {caller : CallerNo} {c : Call} {line : List ℕ} → IsLine caller c line → line ≡ go_line → ⊥
line_not_go is = begins_not_go (line_begins is)

pub race_full : {caller : CallerNo} {c : RaceCall} {line : List ℕ} → IsRaceLine caller c line → IsBlank line → ⊥
race_full is = begins_full (race_begins is)

pub go_full : {line : List ℕ} → line ≡ go_line → IsBlank line → ⊥
go_full go (inl none) = cc (go, none)
go_full go (inr hash) = absurd (omega (arith, same_Some 103 35 (rw go at hash)))

-- ---- the words of a line

block_spaceless : Spaceless (codes "block")
block_spaceless =
    each 98 (codes "lock") (omega arith)
    (each 108 (codes "ock") (omega arith)
    (each 111 (codes "ck") (omega arith) (each 99 (codes "k") (omega arith)
    (each 107 [] (omega arith) (All-nil (λ b. b ≢ 32))))))
  where
    each : (b : ℕ) (bs : List ℕ) → b ≢ 32 → Spaceless bs → Spaceless (b ∷ bs)
    each b bs = All-cons (λ b. b ≢ 32) b bs

selector_spaceless : (n : ℕ) → n < 2 ^ 32 → Spaceless (115 ∷ decimal n)
selector_spaceless n fits =
    All-cons (λ b. b ≢ 32) 115 (decimal n) (omega arith) (decimal_lacks n 32 (omega arith) (λ r. omega (arith, r)))

block_words_of : {caller : CallerNo} {s : SelNo} {line : List ℕ} → IsBlockLine caller s line
    → slice_split (λ b. b == 32) line ≡ caller_word caller ∷ race_words (Block s)
block_words_of {caller = caller} {s = s} is =
    ap (slice_split (λ b. b == 32)) is.text
    ∙ split_join (caller_word caller) (race_words (Block s)) (caller_spaceless caller.0 is.caller_fits)
    (block_spaceless, (selector_spaceless s.0 is.selector_fits, tt))

-- no call of a script has the word `block`
no_block_word : (c : Call) → call_word_text (call_word c) ≡ codes "block" → ⊥
no_block_word c e = none-some (call_word c) ((reads_call_word (codes "block") None refl).only (call_word c) tt (sym e))

pub no_block : {caller other : CallerNo} {c : Call} {s : SelNo} {line : List ℕ} → IsLine caller c line
    → IsBlockLine other s line → ⊥
no_block {c = c} x y = no_block_word c (word_at 1 (sym (line_words_of x) ∙ block_words_of y))

-- ---- one reading

block_one : {caller other : CallerNo} {s r : SelNo} {line : List ℕ} → IsBlockLine caller s line
    → IsBlockLine other r line
    → (caller ≡ other) × (s ≡ r)
block_one {caller = caller} {other = other} {s = s} {r = r} x y =
    let words = sym (block_words_of x) ∙ block_words_of y in (
      ap (λ n. record { 0 = n })
          (numbered_one 116 caller.0 other.0 (omega (arith, x.caller_fits)) (omega (arith, y.caller_fits))
          (word_at 0 words)),
      ap (λ n. record { 0 = n })
          (numbered_one 115 s.0 r.0 (omega (arith, x.selector_fits)) (omega (arith, y.selector_fits))
          (word_at 2 words)),
    )

-- a line behind `go` is a call of one caller alone
pub race_line_one : {caller other : CallerNo} {c d : RaceCall} {line : List ℕ} → IsRaceLine caller c line
    → IsRaceLine other d line
    → (caller ≡ other) × (c ≡ d)
race_line_one (script_line x may) (script_line y also) = let one = line_one x y in (one.0, ap Script one.1)
race_line_one (script_line x may) (block_line y) = absurd (no_block x y)
race_line_one (block_line x) (script_line y may) = absurd (no_block y x)
race_line_one (block_line x) (block_line y) = let one = block_one x y in (one.0, ap Block one.1)

pub same_race_line : (x y : RaceLine) → x.caller ≡ y.caller → x.call ≡ y.call → x ≡ y
same_race_line x y callers calls =
    ap (λ t. record { caller = t; call = x.call }) callers ∙ ap (λ c. record { caller = y.caller; call = c }) calls

-- lines behind `go` are one list of calls
pub race_one : {lines : List (List ℕ)} {race others : List RaceLine} → AreRaceLines lines race
    → AreRaceLines lines others → race ≡ others
race_one no_lines no_lines = refl
race_one (blank_line b rest) (blank_line c more) = race_one rest more
race_one (blank_line b rest) (race_line is more) = absurd (race_full is b)
race_one (race_line is rest) (blank_line b more) = absurd (race_full is b)
race_one (race_line {caller = t} {c = c} {race = race} is rest) (race_line {caller = u} {c = d} same more) =
    let one = race_line_one is same in
    ap (λ x. x ∷ race) (same_race_line (record { caller = t; call = c }) (record { caller = u; call = d }) one.0 one.1)
    ∙ ap (λ xs. record { caller = u; call = d } ∷ xs) (race_one rest more)
