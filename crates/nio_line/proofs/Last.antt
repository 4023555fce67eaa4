-- Where the last message was received, all was.
use Rattle.std.proofs.Common.{◌≡◌, ◌≢◌, List, [], ◌∷◌, ◌++◌, All, refl, ap, sym, ◌∙◌}
use Rattle.std.proofs.lemmas.List.Elements.{All-head, All-tail}
use mathlib.Core.List.{IsPrefix, head-eq_of_cons-eq, tail-eq_of_cons-eq, cons≢nil}

module _ {T : Type 0} (last : T) where
  pub last_is_all : (received sent : List T) → All (λ x. x ≢ last) sent
      → IsPrefix (received ++ last ∷ []) (sent ++ last ∷ []) → received ≡ sent
  last_is_all [] [] once prefix = refl
  last_is_all [] (y ∷ sent) once prefix =
      absurd (All-head (λ x. x ≢ last) y sent once (sym (head-eq_of_cons-eq prefix.1)))
  last_is_all (x ∷ []) [] once prefix = absurd (cons≢nil (tail-eq_of_cons-eq prefix.1))
  last_is_all (x ∷ z ∷ received) [] once prefix = absurd (cons≢nil (tail-eq_of_cons-eq prefix.1))
  last_is_all (x ∷ received) (y ∷ sent) once prefix =
      let rest : received ≡ sent =
      last_is_all received sent (All-tail (λ x. x ≢ last) y sent once) (prefix.0, tail-eq_of_cons-eq prefix.1) in
      ap (λ (a : T). a ∷ received) (head-eq_of_cons-eq prefix.1) ∙ ap (λ (l : List T). y ∷ l) rest
