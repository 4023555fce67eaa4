-- Decimal numbers.
use Rattle.std.proofs.Common.{◌≡◌, ◌≢◌, ℕ, zero, suc, ◌<◌, ◌≤◌, ◌^◌, List, length, get_or, Result, Ok, arith, sym}
use Rattle.std.proofs.Common.{subst, ap, ◌∙◌, lit<}
use Rattle.std.specs.Fmt.{decimal}
use Rattle.std.specs.Str.{IsUtf8}
use Rattle.std.specs.Str.Parse.{AllDigits, digits_value, ParsesUnsigned}
use Rattle.std.proofs.lemmas.Str.{IsUtf8-from_ascii}
use Rattle.std.proofs.lemmas.Fmt.{digits_decimal, first_decimal, decimal_digit, decimal-digits_value, decimal_nonempty}
use Rattle.std.proofs.lemmas.Fmt.{IsAscii-decimal, parse-decimal, decimal_injective}
use Rattle.std.proofs.lemmas.Str.Parse.{IsNumeralModel, numerals_by_value, tells_digits, not_in_digits, parse_plain}
use Rattle.nio_language.specs.Reading.{Reads}
use Rattle.nio_language.proofs.Readers.{reads_none, reads_some}

pub own : IsNumeralModel (AllDigits 10) (digits_value 10)
own = numerals_by_value (AllDigits 10) tells_digits

pub no_plus : (n : ℕ) → n < 2 ^ 64 → get_or (decimal n) 0 0 ≢ 43
no_plus n h =
    not_in_digits own (decimal n) 43 (digits_decimal own n h) (λ r. omega (arith, r)) 0 (decimal_nonempty n h)

pub lone_zero : (n : ℕ) → n < 2 ^ 64 → get_or (decimal n) 0 0 ≡ 48 → length (decimal n) ≡ 1
lone_zero zero h e = ap length (decimal_digit 0 (lit< tt))
lone_zero (suc n) h e = absurd (omega (arith, first_decimal (suc n) (omega arith) h))

-- a text that begins with a sign or a needless zero is no number
pub not_begun : (text : List ℕ) (max : ℕ) → max < 2 ^ 64
    → ((get_or text 0 0 ≢ 43) × (get_or text 0 0 ≡ 48 → length text ≡ 1) → ⊥)
    → Reads (λ n. n ≤ max) decimal text Rattle.std.proofs.Common.None
not_begun text max h bad =
    reads_none (λ n. n ≤ max) decimal text
    (λ n fits e.
    let small : n < 2 ^ 64 = omega arith in
    bad
    (subst (λ (t : List ℕ). (get_or t 0 0 ≢ 43) × (get_or t 0 0 ≡ 48 → length t ≡ 1)) (sym e)
    (no_plus n small, lone_zero n small)))

-- a text that is no UTF-8 is no number
pub not_text : (text : List ℕ) (max : ℕ) → max < 2 ^ 64 → (IsUtf8 text → ⊥)
    → Reads (λ n. n ≤ max) decimal text Rattle.std.proofs.Common.None
not_text text max h bad =
    reads_none (λ n. n ≤ max) decimal text
    (λ n fits e.
    bad (subst IsUtf8 (sym e) (IsUtf8-from_ascii (decimal n) (IsAscii-decimal n (omega arith)))))

-- what parses without a sign and without a needless zero is that number
pub is_number : {E : Type 0} (text digits : List ℕ) (max v : ℕ) (r : Result ℕ E) → max < 2 ^ 64
    → digits ≡ text
    → (get_or text 0 0 ≢ 43) × (get_or text 0 0 ≡ 48 → length text ≡ 1)
    → ParsesUnsigned 64 10 digits r → r ≡ Ok v → v ≤ max
    → Reads (λ n. n ≤ max) decimal text (Rattle.std.proofs.Common.Some v)
is_number {E} text digits max v r h same begins parsed is fits =
    let p = parse_plain own {E = E} 64 text (Ok v) (rw (same, is) at parsed) begins.0 in
    reads_some (λ n. n ≤ max) decimal text v fits
    (sym (subst (λ (x : ℕ). decimal x ≡ text) (sym p.1) (decimal-digits_value own text p.0.0 p.0.1 begins.1 p.0.2)))
    (λ x f e. decimal_injective x v (omega arith) (omega arith) (sym e))

-- what is too large, or doesn't parse, is no number
pub not_parsed : {E : Type 0} (text digits : List ℕ) (max : ℕ) (r : Result ℕ E) → max < 2 ^ 64
    → digits ≡ text → ParsesUnsigned 64 10 digits r → ((v : ℕ) → r ≡ Ok v → v ≤ max → ⊥)
    → Reads (λ n. n ≤ max) decimal text Rattle.std.proofs.Common.None
not_parsed text digits max r h same parsed bad =
    reads_none (λ n. n ≤ max) decimal text
    (λ n fits e.
    bad n (parse-decimal 64 n digits r (omega arith) (omega arith) (same ∙ e) parsed) fits)
