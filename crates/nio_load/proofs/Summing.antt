-- The text of a summary.
use Rattle.std.proofs.Common.{◌≡◌, List, ℕ, ◌∷◌, [], ◌++◌, codes, sym, ◌∙◌, append_assoc}
use Rattle.std.specs.Prelude.{Result, Ok, Err, IfOk}

-- its pieces, put together from the last one
pub summary_pieces : (lines selections updates : List ℕ)
    → codes "lines " ++ (lines ++ (codes "\nselections "
    ++ (selections ++ (codes "\nupdates " ++ (updates ++ 10 ∷ [])))))
    ≡ codes "lines " ++ lines ++ codes "\nselections " ++ selections ++ codes "\nupdates " ++ updates ++ 10 ∷ []
summary_pieces lines selections updates =
    let first = codes "lines " in
    let second = codes "\nselections " in
    let third = codes "\nupdates " in
    let last = 10 ∷ [] in
    sym
    (append_assoc (first ++ lines ++ second ++ selections ++ third) updates last
    ∙ append_assoc (first ++ lines ++ second ++ selections) third (updates ++ last)
    ∙ append_assoc (first ++ lines ++ second) selections (third ++ (updates ++ last))
    ∙ append_assoc (first ++ lines) second (selections ++ (third ++ (updates ++ last)))
    ∙ append_assoc first lines (second ++ (selections ++ (third ++ (updates ++ last)))))

-- what follows from what holds of the value
pub if_ok_map : {T E : Type 0} (r : Result T E) (P Q : T → Type 0) → ((x : T) → P x → Q x) → IfOk r P → IfOk r Q
if_ok_map (Ok x) P Q f p = f x p
if_ok_map (Err e) P Q f p = tt
