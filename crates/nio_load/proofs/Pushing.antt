-- How the generated text grows.
use Rattle.std.proofs.Common.{◌≡◌, ℕ, zero, suc, ◌+◌, List, [], ◌∷◌, ◌++◌, refl, sym, ap, ◌∙◌, append_assoc, append-nil}
use Rattle.std.proofs.Common.{arith}
use Rattle.std.specs.List.{flat_map, range_with_len}
use Rattle.std.proofs.lemmas.Grind.{flat_map-append}
use Rattle.nio_load.specs.Generator.{lines_below, text_of}

-- one number more
range_more : (a n : ℕ) → range_with_len a (suc n) ≡ range_with_len a n ++ (a + n) ∷ []
range_more a zero = let same : a ≡ a + 0 = omega arith in ap (λ k. k ∷ []) same
range_more a (suc n) =
    let same : a + 1 + n ≡ a + suc n = omega arith in
    ap (λ ks. a ∷ ks) (range_more (a + 1) n ∙ ap (λ k. range_with_len (a + 1) n ++ k ∷ []) same)

pub text-append : (xs ys : List (List ℕ)) → text_of (xs ++ ys) ≡ text_of xs ++ text_of ys
text-append xs ys = flat_map-append (λ line. line ++ 10 ∷ []) xs ys

module _ (lines : ℕ → List (List ℕ)) where
  lines_below_none : lines_below 0 lines ≡ []
  unfolding lines_below
  lines_below_none = refl

  lines_below_more : (n : ℕ) → lines_below (n + 1) lines ≡ lines_below n lines ++ lines n
  unfolding lines_below
  lines_below_more n =
      let first : 0 + n ≡ n = omega arith in
      let next : n + 1 ≡ suc n = omega arith in
      ap (λ m. flat_map lines (range_with_len 0 m)) next
      ∙ ap (flat_map lines) (range_more 0 n ∙ ap (λ k. range_with_len 0 n ++ k ∷ []) first)
      ∙ flat_map-append lines (range_with_len 0 n) (n ∷ [])
      ∙ ap (λ ls. flat_map lines (range_with_len 0 n) ++ ls) (append-nil (lines n))

  -- no lines yet
  pub pushed_none : (text : List ℕ) → text ≡ text ++ text_of (lines_below 0 lines)
  pushed_none text = sym (ap (λ ls. text ++ text_of ls) lines_below_none ∙ append-nil text)

  -- and then those of the next number
  pub pushed_more : (before text after : List ℕ) (n : ℕ) → text ≡ before ++ text_of (lines_below n lines)
      → after ≡ text ++ text_of (lines n) → after ≡ before ++ text_of (lines_below (n + 1) lines)
  pushed_more before text after n so next =
      next
      ∙ ap (λ t. t ++ text_of (lines n)) so
      ∙ append_assoc before (text_of (lines_below n lines)) (text_of (lines n))
      ∙ ap (λ t. before ++ t)
      (sym (text-append (lines_below n lines) (lines n)) ∙ ap text_of (sym (lines_below_more n)))

-- three lines, one after the other
pub pushed_three : (before first second third one two two' three three' : List ℕ) → first ≡ before ++ (one ++ 10 ∷ [])
    → second ≡ first ++ (two' ++ 10 ∷ []) → two' ≡ two → third ≡ second ++ (three' ++ 10 ∷ []) → three' ≡ three
    → third ≡ before ++ text_of (one ∷ two ∷ three ∷ [])
pushed_three before first second third one two two' three three' a b same c also =
    let line = λ (l : List ℕ). l ++ 10 ∷ [] in
    c
    ∙ ap (λ t. second ++ line t) also
    ∙ ap (λ t. t ++ line three)
    (b ∙ ap (λ t. first ++ line t) same ∙ ap (λ t. t ++ line two) a ∙ append_assoc before (line one) (line two))
    ∙ append_assoc before (line one ++ line two) (line three)
    ∙ ap (λ t. before ++ t)
    (append_assoc (line one) (line two) (line three)
    ∙ ap (λ t. line one ++ (line two ++ t)) (sym (append-nil (line three))))

-- some lines, and then others
pub pushed_both : (before first second : List ℕ) (xs ys : List (List ℕ)) → first ≡ before ++ text_of xs
    → second ≡ first ++ text_of ys
    → second ≡ before ++ text_of (xs ++ ys)
pushed_both before first second xs ys a b =
    b ∙ ap (λ t. t ++ text_of ys) a ∙ append_assoc before (text_of xs) (text_of ys)
    ∙ ap (λ t. before ++ t) (sym (text-append xs ys))
