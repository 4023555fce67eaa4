-- The word elapsed before pairs: no pair begins as it does.
use Rattle.std.proofs.Common.{◌≡◌, ℕ, ◌≤◌, ◌-◌, Bool, true, false, List, [], ◌∷◌, ◌++◌, length, get_or, take, drop, map}
use Rattle.std.proofs.Common.{codes, refl, sym, ap, ◌∙◌, arith}
use denote.Ref.{Bor}
use Rattle.std.proofs.lemmas.List.{take_all}
use Rattle.nio_base.specs.declared.numbers.KeyId.{KeyId}
use Rattle.nio_language.specs.Arguments.{elapsed_words}
use Rattle.nio_language.specs.Words.{pair_word}

pub behind_elapsed : (words : List (Bor (List ℕ))) (d : Bor (List ℕ)) → 1 ≤ length words
    → (get_or words 0 d).now ≡ codes "elapsed" → (elapsed : Bool) (pairs : List (KeyId × ℕ))
    → map (λ w. w.now) words ≡ elapsed_words elapsed ++ map pair_word pairs
    → (elapsed ≡ true)
    × (map (λ w. w.now) (take (length words - 1) (drop 1 words)) ≡ map pair_word pairs)
behind_elapsed [] d some is elapsed pairs e = absurd (omega arith)
behind_elapsed (w ∷ words) d some is true pairs e = (
  refl,
  ap (map (λ (v : Bor (List ℕ)). v.now)) (take_all (length (w ∷ words) - 1) words (omega arith))
      ∙ ap (drop 1) e,
)
behind_elapsed (w ∷ words) d some is false [] e = absurd (omega (arith, ap length e))
behind_elapsed (w ∷ words) d some is false (p ∷ pairs) e =
    let first : w.now ≡ pair_word p = ap (λ (t : List (List ℕ)). get_or t 0 []) e in
    absurd (omega (arith, ap (λ (t : List ℕ). get_or t 0 0) (sym is ∙ first)))
