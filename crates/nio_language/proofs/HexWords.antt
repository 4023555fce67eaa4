-- Bytes as hexadecimal digits: what they are printed as decodes to them, and to no others.
use Rattle.std.proofs.Common.{◌≡◌, ◌↔◌, IsTrue, Fits, w8, ℕ, zero, suc, ◌+◌, ◌/◌, ◌%◌, ◌<◌, ◌≤◌, length, ◌==◌, nat_lt}
use Rattle.std.proofs.Common.{Bool, true, false, ◌&&◌, List, [], ◌∷◌, get_or, Option, Some, None, Result, Ok, Err, refl}
use Rattle.std.proofs.Common.{sym, ap, subst, ◌∙◌, ⊎_elim, arith, All}
use Rattle.std.proofs.lemmas.Bool.{and_parts, cases_eq, cond_both, eqb-true, false≢true}
use Rattle.std.proofs.lemmas.List.Elements.{All-head, All-tail, All-from_get_or}
use Rattle.std.proofs.lemmas.Slice.Eq.{bytes_eq-Decides}
use Rattle.std.specs.Str.{bytes_eq}
use Rattle.hex.proofs.HexLemmas.{decode_of-encode_lower}
use Rattle.hex.specs.Hex.{IsBytes, decode_of, encode_lower, encode_with, lower_digits}
use Rattle.hex.specs.declared.error.FromHexError.{FromHexError}
use Rattle.nio_language.specs.Arguments.{AreBytes}
use Rattle.nio_language.specs.Reading.{Reads}
use Rattle.nio_language.specs.Words.{bytes_word, hex_digit, hex_digits}
use Rattle.nio_language.proofs.Ones.{IsOne, byte_at}

-- the digits are those of the table

abbrev agree_below : ℕ → Bool
agree_below zero = true
agree_below (suc n) = (hex_digit n == get_or lower_digits n 0) && agree_below n

agree-at : (n d : ℕ) → agree_below n ≡ true → d < n → hex_digit d ≡ get_or lower_digits d 0
agree-at zero d e h = absurd (omega arith)
agree-at (suc n) d e h =
    let parts = and_parts (hex_digit n == get_or lower_digits n 0) (agree_below n) e in
    ⊎_elim
    (λ (same : d ≡ n). subst (λ (k : ℕ). hex_digit k ≡ get_or lower_digits k 0) (sym same)
    (eqb-true (hex_digit n) (get_or lower_digits n 0) parts.0))
    (λ (differ : d ≡ n → ⊥). agree-at n d parts.1 (omega arith))
    (cases_eq d n)

digit_at : (d : ℕ) → d < 16 → hex_digit d ≡ get_or lower_digits d 0
digit_at d h = agree-at 16 d refl h

encoded : (xs : List ℕ) → All (λ b. b < 256) xs → hex_digits xs ≡ encode_lower xs
unfolding encode_with
encoded [] all = refl
encoded (b ∷ xs) all =
    let small : b < 256 = All-head (λ b. b < 256) b xs all in
    let rest = encoded xs (All-tail (λ b. b < 256) b xs all) in
    ap (λ d. d ∷ hex_digit (b % 16) ∷ hex_digits xs) (digit_at (b / 16) (omega arith))
    ∙ (ap (λ d. get_or lower_digits (b / 16) 0 ∷ d ∷ hex_digits xs) (digit_at (b % 16) (omega arith))
    ∙ ap (λ t. get_or lower_digits (b / 16) 0 ∷ get_or lower_digits (b % 16) 0 ∷ t) rest)

each_byte : (xs : List ℕ) → All (λ b. b < 256) xs → IsBytes xs
each_byte [] all i = omega arith
each_byte (b ∷ xs) all zero = All-head (λ b. b < 256) b xs all
each_byte (b ∷ xs) all (suc i) = each_byte xs (All-tail (λ b. b < 256) b xs all) i

pub decode_of-printed : (b : ℕ) (xs : List ℕ) → All (λ b. b < 256) (b ∷ xs)
    → decode_of (bytes_word (b ∷ xs)) ≡ Ok (b ∷ xs)
decode_of-printed b xs all =
    ap decode_of (encoded (b ∷ xs) all) ∙ decode_of-encode_lower (b ∷ xs) (each_byte (b ∷ xs) all)

-- no digit is a dash

digit_no_dash : (d : ℕ) → hex_digit d ≡ 45 → ⊥
digit_no_dash d =
    cond_both (nat_lt d 10) (48 + d) (87 + d) (λ (n : ℕ). n ≡ 45 → ⊥) (λ _ e. omega arith) (λ _ e. omega arith)

dash_is_empty : (b : ℕ) (xs : List ℕ) → bytes_word (b ∷ xs) ≡ 45 ∷ [] → ⊥
dash_is_empty b xs e = digit_no_dash (b / 16) (byte_at 0 e)

-- what is printed alike is the same
pub bytes_one : IsOne (All (λ b. b < 256)) bytes_word
bytes_one [] [] f g e = refl
bytes_one [] (y ∷ ys) f g e = absurd (dash_is_empty y ys (sym e))
bytes_one (x ∷ xs) [] f g e = absurd (dash_is_empty x xs e)
bytes_one (x ∷ xs) (y ∷ ys) f g e =
    let same : ◌≡◌ {A = Result (List ℕ) FromHexError} (Ok (x ∷ xs)) (Ok (y ∷ ys)) =
    sym (decode_of-printed x xs f) ∙ (ap decode_of e ∙ decode_of-printed y ys g) in
    cc same

-- a word that was found unlike a dash
pub not_dash : (word dash : List ℕ) (same : Bool) → dash ≡ 45 ∷ [] → same ≡ bytes_eq word dash → same ≡ false
    → word ≡ 45 ∷ [] → ⊥
not_dash word dash same is tested differs e =
    false≢true (sym differs ∙ (tested ∙ (bytes_eq-Decides word dash).1 (e ∙ sym is)))

-- what a word decodes to, where it is printed from bytes

abbrev pub Decodes : List ℕ → Option (List ℕ) → Type 0
Decodes word found = (bytes : List ℕ) → AreBytes bytes → word ≡ bytes_word bytes → found ≡ Some bytes

pub word_decodes : (word found : List ℕ) → (word ≡ 45 ∷ [] → ⊥) → decode_of word ≡ Ok found
    → Decodes word (Some found)
word_decodes word found no_dash is [] fits e = absurd (no_dash e)
word_decodes word found no_dash is (b ∷ bytes) fits e =
    let same : ◌≡◌ {A = Result (List ℕ) FromHexError} (Ok found) (Ok (b ∷ bytes)) =
    sym is ∙ (ap decode_of e ∙ decode_of-printed b bytes fits.each) in
    ap Some (cc same)

pub word_fails : (word : List ℕ) (error : FromHexError) → (word ≡ 45 ∷ [] → ⊥) → decode_of word ≡ Err error
    → Decodes word None
word_fails word error no_dash is [] fits e = absurd (no_dash e)
word_fails word error no_dash is (b ∷ bytes) fits e =
    let same : ◌≡◌ {A = Result (List ℕ) FromHexError} (Err error) (Ok (b ∷ bytes)) =
    sym is ∙ (ap decode_of e ∙ decode_of-printed b bytes fits.each) in
    absurd (cc same)

-- bytes that a line says are bytes of eight bits, and few

pub few_bytes : (word printed bytes : List ℕ) (same : Bool) → length bytes ≤ 2000
    → ((i : ℕ) → Fits w8 (get_or bytes i 0)) → printed ≡ bytes_word bytes → same ≡ bytes_eq printed word
    → (IsTrue same ↔ (AreBytes bytes × (word ≡ bytes_word bytes)))
few_bytes word printed bytes same few small is tested =
    let each = All-from_get_or (λ b. b < 256) bytes 0 (λ i _. let fits = small i in omega arith) in
    let decides = bytes_eq-Decides printed word in (
      λ yes. (record { few = few; each = each }, sym (decides.0 (sym tested ∙ yes)) ∙ is),
      λ says. tested ∙ decides.1 (is ∙ sym says.1),
    )

pub bytes_read : (word bytes : List ℕ) → AreBytes bytes × (word ≡ bytes_word bytes) → Decodes word (Some bytes)
    → Reads AreBytes bytes_word word (Some bytes)
bytes_read word bytes says decodes = record {
  found = says;
  only = decodes;
}
