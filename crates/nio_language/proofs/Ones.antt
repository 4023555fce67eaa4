-- What has the same text is the same: where texts are compared by their words, and words by their bytes.
use Rattle.std.proofs.Common.{◌≡◌, ℕ, ◌<◌, ◌^◌, List, [], ◌∷◌, get_or, drop, ap, ◌∙◌}
use Rattle.std.specs.Fmt.{decimal}
use Rattle.std.proofs.lemmas.Fmt.{decimal_injective}

-- what fits and is printed alike is the same
abbrev pub IsOne : {A T : Type 0} → (A → Type 0) → (A → T) → Type 0
IsOne {A} Fits print = (x y : A) → Fits x → Fits y → print x ≡ print y → x ≡ y

pub word_at : (k : ℕ) {xs ys : List (List ℕ)} → xs ≡ ys → get_or xs k [] ≡ get_or ys k []
word_at k e = ap (λ (ws : List (List ℕ)). get_or ws k []) e

pub byte_at : (k : ℕ) {xs ys : List ℕ} → xs ≡ ys → get_or xs k 0 ≡ get_or ys k 0
byte_at k e = ap (λ (w : List ℕ). get_or w k 0) e

pub numbered_one : (letter m n : ℕ) → m < 2 ^ 64 → n < 2 ^ 64 → letter ∷ decimal m ≡ letter ∷ decimal n → m ≡ n
numbered_one letter m n h k e = decimal_injective m n h k (ap (drop 1) e)

pub both : {A B : Type 0} (x y : A × B) → x.0 ≡ y.0 → x.1 ≡ y.1 → x ≡ y
both x y p q = ap (λ a. (a, x.1)) p ∙ ap (λ b. (y.0, b)) q

pub all_three : {A B C : Type 0} (x y : A × B × C) → x.0 ≡ y.0 → x.1 ≡ y.1 → x.2 ≡ y.2 → x ≡ y
all_three x y p q r = ap (λ a. (a, x.1, x.2)) p ∙ ap (λ b. (y.0, b, x.2)) q ∙ ap (λ c. (y.0, y.1, c)) r
