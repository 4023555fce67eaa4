-- Numbers of milliseconds: a minus stands before those below zero alone.
use Rattle.std.proofs.Common.{◌≡◌, ℕ, zero, suc, ℤ, pos, negsuc, neg_ℤ, ◌≤◌, List, ◌∷◌, drop, get_or, Option, Some}
use Rattle.std.proofs.Common.{None, refl, sym, ap, ◌∙◌, arith}
use Rattle.std.specs.Fmt.{decimal, signed_decimal}
use Rattle.std.proofs.lemmas.Fmt.{decimal_nonempty}
use Rattle.std.proofs.lemmas.Option.{none-some, same_Some}
use Rattle.nio_language.specs.Arguments.{IsMilliseconds}
use Rattle.nio_language.specs.Reading.{Reads}
use Rattle.nio_language.proofs.NameWords.{decimal_lacks}
use Rattle.nio_language.proofs.Readers.{reads_none}

-- what stands behind a minus is the number of a time below zero
behind_minus : (digits : List ℕ) (r : Option ℕ) → Reads (λ n. n ≤ 9223372036854775807) decimal digits r
    → (ms : ℤ) → IsMilliseconds ms → 45 ∷ digits ≡ signed_decimal ms
    → (n : ℕ) × (ms ≡ negsuc n) × (r ≡ Some (suc n))
behind_minus digits r read (pos m) fits e =
    absurd (decimal_lacks m 45 (omega arith) (λ k. omega (arith, k)) 0 0 (decimal_nonempty m (omega arith))
    (sym (ap (λ (t : List ℕ). get_or t 0 0) e)))
behind_minus digits r read (negsuc m) fits e =
    (m, refl, read.only (suc m) (omega arith) (ap (drop 1) e))

pub no_time : (digits : List ℕ) → Reads (λ n. n ≤ 9223372036854775807) decimal digits None
    → Reads IsMilliseconds signed_decimal (45 ∷ digits) None
no_time digits read =
    reads_none IsMilliseconds signed_decimal (45 ∷ digits)
    (λ ms fits e.
    let p = behind_minus digits None read ms fits e in
    none-some (suc p.0) p.2)

pub minus_zero : (digits : List ℕ) (n : ℕ) → Reads (λ n. n ≤ 9223372036854775807) decimal digits (Some n) → n ≡ 0
    → Reads IsMilliseconds signed_decimal (45 ∷ digits) None
minus_zero digits n read zeroth =
    reads_none IsMilliseconds signed_decimal (45 ∷ digits)
    (λ ms fits e.
    let p = behind_minus digits (Some n) read ms fits e in
    omega (arith, same_Some n (suc p.0) p.2))

pub time_before : (digits : List ℕ) (n : ℕ) → Reads (λ n. n ≤ 9223372036854775807) decimal digits (Some n)
    → (n ≡ 0 → ⊥) → Reads IsMilliseconds signed_decimal (45 ∷ digits) (Some (neg_ℤ (pos n)))
time_before digits zero read some = absurd (some refl)
time_before digits (suc n) read some = record {
  found = (omega (arith, read.found.0), ap (λ (t : List ℕ). 45 ∷ t) read.found.1);
  only = λ ms fits e.
      let p = behind_minus digits (Some (suc n)) read ms fits e in
      let same : n ≡ p.0 = omega (arith, same_Some (suc n) (suc p.0) p.2) in
      ap Some (ap negsuc same ∙ sym p.1);
}
