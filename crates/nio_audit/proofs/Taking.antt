-- The bits of 64 touched indexes, when those below some bit are taken.
use Rattle.std.proofs.Common.{◌≡◌, ℕ, ◌+◌, ◌*◌, ◌/◌, ◌%◌, ◌<◌, ◌==◌, nat_lt, Bool, true, false, ◌&&◌, ◌||◌, if◌then◌else◌}
use Rattle.std.proofs.Common.{refl, ap, sym, ◌∙◌, eqb-true, arith}
use mathlib.Core.Path.{fun_ext}
use Rattle.std.proofs.lemmas.Bool.{eqb-false, ltb-true, ltb-false, lt-ltb, le-ltb}
use Rattle.nio_history.specs.State.{put_at}

-- index i is one of the first `bit` of the 64 from 64 times j on
abbrev pub is_before : ℕ → ℕ → ℕ → Bool
is_before j bit i = (i / 64 == j) && nat_lt (i % 64) bit

-- which indexes are touched after those of selector s are taken
abbrev pub taken_before : (ℕ → ℕ → Bool) → ℕ → ℕ → ℕ → ℕ → ℕ → Bool
taken_before touched s j bit t i = if (t == s) && is_before j bit i then false else touched t i

is_before-more : (i j bit : ℕ) → bit < 64 → ((i == 64 * j + bit) || is_before j bit i) ≡ is_before j (bit + 1) i
is_before-more i j bit below = by_tests (i / 64 == j) (i == 64 * j + bit) (nat_lt (i % 64) bit) refl refl refl
  where
    by_tests : (b d c : Bool) → (i / 64 == j) ≡ b → (i == 64 * j + bit) ≡ d → nat_lt (i % 64) bit ≡ c
        → (d || (b && c)) ≡ (b && nat_lt (i % 64) (bit + 1))
    by_tests true true c eb ed ec =
        let at : i ≡ 64 * j + bit = eqb-true i (64 * j + bit) ed in
        sym (lt-ltb (i % 64) (bit + 1) (omega (arith, at, below)))
    by_tests true false true eb ed ec = sym (lt-ltb (i % 64) (bit + 1) (omega (arith, ltb-true (i % 64) bit ec)))
    by_tests true false false eb ed ec =
        sym (le-ltb (i % 64) (bit + 1) (omega (
          arith,
          eqb-false i (64 * j + bit) ed,
          eqb-true (i / 64) j eb,
          ltb-false (i % 64) bit ec,
        )))
    by_tests false true c eb ed ec =
        let at : i ≡ 64 * j + bit = eqb-true i (64 * j + bit) ed in
        absurd (eqb-false (i / 64) j eb (omega (arith, at, below)))
    by_tests false false c eb ed ec = refl

taken_either : (a x y v : Bool) → (if a && x then false else (if a && y then false else v)) ≡ (if a && (x || y) then false else v)
taken_either true true y v = refl
taken_either true false y v = refl
taken_either false x y v = refl

pub taken-more : (touched : ℕ → ℕ → Bool) (s j bit : ℕ) → bit < 64
    → put_at (taken_before touched s j bit) s (64 * j + bit) false ≡ taken_before touched s j (bit + 1)
taken-more touched s j bit below = fun_ext (λ t. fun_ext (λ i.
    taken_either (t == s) (i == 64 * j + bit) (is_before j bit i) (touched t i)
    ∙ ap (λ b. if (t == s) && b then false else touched t i) (is_before-more i j bit below)))

pub all-taken : (touched : ℕ → ℕ → Bool) (s j : ℕ)
    → ◌≡◌ {A = ℕ → ℕ → Bool} (taken_before touched s j 64)
    (λ t i. if (t == s) && (i / 64 == j) then false else touched t i)
all-taken touched s j = fun_ext (λ t. fun_ext (λ i.
    ap (λ b. if (t == s) && ((i / 64 == j) && b) then false else touched t i) (lt-ltb (i % 64) 64 (omega arith))
    ∙ shorter (t == s) (i / 64 == j) (touched t i)))
  where
    shorter : (a b x : Bool) → (if a && (b && true) then false else x) ≡ (if a && b then false else x)
    shorter true true x = refl
    shorter true false x = refl
    shorter false b x = refl
