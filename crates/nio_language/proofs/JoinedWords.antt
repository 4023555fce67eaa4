-- Words that are joined by spaces.
use Rattle.std.proofs.Common.{◌≡◌, ℕ, List, [], ◌∷◌, ◌++◌, Result, Ok, Err, OnOk, sym, ap, ◌∙◌, append_assoc}
use Rattle.std.proofs.lemmas.List.{append-nil}
use Rattle.std.specs.List.{join_with_byte}
use Rattle.nio_language.specs.Printing.{spaced}

-- a word, and then each word after a space
pub join_spaced : (word : List ℕ) (words : List (List ℕ)) → join_with_byte 32 (word ∷ words) ≡ word ++ spaced words
join_spaced word [] = sym (append-nil word)
join_spaced word (next ∷ words) = ap (λ t. word ++ 32 ∷ t) (join_spaced next words)

-- two pieces, one behind the other
pub both_pushed : {E : Type 0} (before between after first rest whole : List ℕ) (r : Result (Unit {0}) E)
    → between ≡ before ++ first → OnOk r (after ≡ between ++ rest) → first ++ rest ≡ whole
    → OnOk r (after ≡ before ++ whole)
both_pushed before between after first rest whole (Ok _) e f g =
    f ∙ (ap (λ t. t ++ rest) e ∙ (append_assoc before first rest ∙ ap (λ t. before ++ t) g))
both_pushed before between after first rest whole (Err _) e f g = tt
