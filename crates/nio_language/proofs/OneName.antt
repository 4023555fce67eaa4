-- Names with the same text are one.
use Rattle.std.proofs.Common.{◌≡◌, ◌≢◌, ℕ, ◌∷◌, ◌++◌, sym, ◌∙◌, subst, arith, All}
use Rattle.std.specs.Fmt.{decimal}
use Rattle.std.proofs.lemmas.Fmt.{decimal_injective}
use Rattle.nio_language.specs.Words.{IsName}
use Rattle.nio_language.specs.Words.{name_word}
use Rattle.nio_language.proofs.Cuts.{cut_one}
use Rattle.nio_language.proofs.NameWords.{NameForm, first, later, lacks_none, name_form, number_lacks_point, number_word}
use Rattle.nio_language.proofs.Ones.{numbered_one}

-- names with the same text have the same number and the same serial
pub name_one : (letter n m n' m' : ℕ) → letter ≢ 46 → IsName n m → IsName n' m'
    → name_word letter (n, m) ≡ name_word letter (n', m') → (n ≡ n') × (m ≡ m')
name_one letter n m n' m' other f g e = by_forms (name_form letter n m) (name_form letter n' m')
  where
    by_forms : NameForm letter n m → NameForm letter n' m' → (n ≡ n') × (m ≡ m')
    by_forms (first zeroth is) (first also that) = (
      numbered_one letter n n' (omega (arith, f.number_fits)) (omega (arith, g.number_fits))
          (sym is ∙ (e ∙ that)),
      zeroth ∙ sym also,
    )
    by_forms (first zeroth is) (later some that) =
        absurd (lacks_none 46 (number_word letter n') (decimal m')
        (subst (All (λ b. b ≢ 46)) (sym is ∙ (e ∙ that)) (number_lacks_point letter n f.number_fits other)))
    by_forms (later some is) (first zeroth that) =
        absurd (lacks_none 46 (number_word letter n) (decimal m)
        (subst (All (λ b. b ≢ 46)) (sym that ∙ (sym e ∙ is)) (number_lacks_point letter n' g.number_fits other)))
    by_forms (later some is) (later more that) =
        let parts = cut_one 46 (number_word letter n) (decimal m) (number_word letter n') (decimal m')
        (number_lacks_point letter n f.number_fits other) (number_lacks_point letter n' g.number_fits other)
        (sym is ∙ (e ∙ that)) in (
          numbered_one letter n n' (omega (arith, f.number_fits)) (omega (arith, g.number_fits)) parts.0,
          decimal_injective m m' (omega (arith, f.serial_fits)) (omega (arith, g.serial_fits)) parts.1,
        )
