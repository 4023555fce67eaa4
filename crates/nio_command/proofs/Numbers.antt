-- Decimal numbers.
use Rattle.std.proofs.Common.{◌≡◌, ◌≢◌, ℕ, zero, suc, ◌<◌, ◌^◌, List, length, get_or, Result, Ok, arith, sym, subst}
use Rattle.std.proofs.Common.{ap, lit<}
use Rattle.std.specs.Fmt.{decimal}
use Rattle.std.specs.Str.Parse.{AllDigits, digits_value, ParsesUnsigned}
use Rattle.std.proofs.lemmas.Fmt.{digits_decimal, first_decimal, decimal_digit, decimal-digits_value}
use Rattle.std.proofs.lemmas.Fmt.{decimal_nonempty, parse-decimal}
use Rattle.std.proofs.lemmas.Str.Parse.{IsNumeralModel, numerals_by_value, tells_digits, not_in_digits, parse_plain}

pub own : IsNumeralModel (AllDigits 10) (digits_value 10)
own = numerals_by_value (AllDigits 10) tells_digits

no_plus : (n : ℕ) → n < 2 ^ 64 → get_or (decimal n) 0 0 ≢ 43
no_plus n h =
    not_in_digits own (decimal n) 43 (digits_decimal own n h) (λ r. omega (arith, r)) 0 (decimal_nonempty n h)

lone_zero : (n : ℕ) → n < 2 ^ 64 → get_or (decimal n) 0 0 ≡ 48 → length (decimal n) ≡ 1
lone_zero zero h e = ap length (decimal_digit 0 (lit< tt))
lone_zero (suc n) h e = absurd (omega (arith, first_decimal (suc n) (omega arith) h))

-- a text that begins with a sign or a needless zero is no number
pub not_begun : (text : List ℕ) (n : ℕ) → n < 2 ^ 32
    → ((get_or text 0 0 ≢ 43) × (get_or text 0 0 ≡ 48 → length text ≡ 1) → ⊥) → text ≡ decimal n → ⊥
not_begun text n h bad e =
    let small : n < 2 ^ 64 = omega arith in
    bad (subst (λ (t : List ℕ). (get_or t 0 0 ≢ 43) × (get_or t 0 0 ≡ 48 → length t ≡ 1)) (sym e)
    (no_plus n small, lone_zero n small))

-- what parses without a sign and without a needless zero is that number
pub is_number : {E : Type 0} (text : List ℕ) (v : ℕ) (r : Result ℕ E)
    → (get_or text 0 0 ≢ 43) × (get_or text 0 0 ≡ 48 → length text ≡ 1)
    → ParsesUnsigned 32 10 text r → r ≡ Ok v → text ≡ decimal v
is_number {E} text v r begins parsed is =
    let p = parse_plain own {E = E} 32 text (Ok v)
    (subst (λ (q : Result ℕ E). ParsesUnsigned 32 10 text q) is parsed) begins.0 in
    let below : digits_value 10 text < 2 ^ 32 = p.0.2 in
    let small : digits_value 10 text < 2 ^ 64 = omega arith in
    sym (subst (λ (x : ℕ). decimal x ≡ text) (sym p.1) (decimal-digits_value own text p.0.0 p.0.1 begins.1 small))

-- a number parses as itself
pub parses_as : {E : Type 0} (text : List ℕ) (n : ℕ) (r : Result ℕ E) → n < 2 ^ 32 → text ≡ decimal n
    → ParsesUnsigned 32 10 text r → r ≡ Ok n
parses_as text n r h e parsed = parse-decimal 32 n text r (omega arith) (omega arith) e parsed

-- a number does not begin with a hyphen
pub decimal_plain : (n : ℕ) → n < 2 ^ 32 → get_or (decimal n) 0 0 ≢ 45
decimal_plain n h =
    let small : n < 2 ^ 64 = omega arith in
    not_in_digits own (decimal n) 45 (digits_decimal own n small) (λ r. omega (arith, r)) 0 (decimal_nonempty n small)
