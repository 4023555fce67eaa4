-- When a list of options is another one in another order.
use Rattle.std.proofs.Common.{◌≡◌, ◌⊎◌, ◌∙◌, ◌≤◌, List, [], ◌∷◌, map, inl, inr, refl, sym, ap, subst, arith}
use Rattle.std.proofs.Common.{IsPermutation}
use Rattle.std.specs.List.{Contains, remove}
use Rattle.std.proofs.lemmas.List.Elements.{Contains-append_right}
use Rattle.std.proofs.lemmas.List.Sums.{sum_by-cons}
use Rattle.std.proofs.lemmas.List.Sorted.{Contains-permutation, IsPermutation-refl, IsPermutation-cons}
use Rattle.std.proofs.lemmas.List.Sorted.{IsPermutation-remove, IsPermutation-sym, IsPermutation-trans}
use Rattle.std.proofs.lemmas.List.Sorted.{sum_by-IsPermutation}
use Rattle.clap.specs.Walk.{Text}
use Rattle.nio_command.specs.Options.{Written, given}
use Rattle.nio_command.proofs.Givens.{Distinct, Given, bears, bears_own, contains_cases, tail_distinct, times}
use Rattle.nio_command.proofs.Givens.{times_contained}
use Rattle.nio_command.proofs.LongWords.{IsPlainName, IsPlainValue}
use Rattle.nio_command.proofs.Parses.{AreNames, AreWritable}
use Rattle.nio_command.proofs.Table.{IsName}

abbrev pub names_of_options : List Given → List Text
names_of_options = map (λ g. g.0)

-- each of the options stands in the list
abbrev pub AllIn : List Given → List Given → Type 0
AllIn gs [] = Unit {0}
AllIn gs (o ∷ os) = Contains gs o × AllIn gs os

pub permuted_distinct : (gs os : List Given) → IsPermutation gs os → Distinct gs → Distinct os
permuted_distinct gs os p d n = let most : times n gs ≤ 1 = d n in omega (arith, sum_by-IsPermutation (bears n) gs os p)

move_all : (o : Given) (gs rest os : List Given) → IsPermutation gs (o ∷ rest) → times o.0 os ≡ 0 → AllIn gs os
    → AllIn rest os
move_all o gs rest [] p none all = tt
move_all o gs rest (x ∷ os) p none all = (
  there (contains_cases o x rest (Contains-permutation gs (o ∷ rest) x p all.0)),
  move_all o gs rest os p (omega (arith, sum_by-cons (bears o.0) x os)) all.1,
)
  where
    there : (o ≡ x) ⊎ Contains rest x → Contains rest x
    there (inl same) =
        let one : bears o.0 x ≡ 1 = ap (bears o.0) (sym same) ∙ bears_own o.0 o.1 in
        absurd (omega (arith, sum_by-cons (bears o.0) x os))
    there (inr c) = c

known_rest : (o : Given) (os rest : List Given) → times o.0 rest ≡ 0
    → ((g : Given) → Contains (o ∷ rest) g → IsName (names_of_options (o ∷ os)) g.0)
    → (g : Given) → Contains rest g → IsName (names_of_options os) g.0
known_rest o os rest none known g c = by_name (known g (Contains-append_right (o ∷ []) rest g c))
  where
    by_name : (o.0 ≡ g.0) ⊎ IsName (names_of_options os) g.0 → IsName (names_of_options os) g.0
    by_name (inl same) =
        let some : 1 ≤ times g.0 rest = times_contained g.0 g.1 rest c in
        let nothing : times g.0 rest ≡ 0 = subst (λ (n : Text). times n rest ≡ 0) same none in
        absurd (omega arith)
    by_name (inr n) = n

own_none : (o : Given) (rest : List Given) → Distinct (o ∷ rest) → times o.0 rest ≡ 0
own_none o rest d =
    let most : times o.0 (o ∷ rest) ≤ 1 = d o.0 in
    let one : bears o.0 o ≡ 1 = bears_own o.0 o.1 in
    omega (arith, sum_by-cons (bears o.0) o rest)

pub in_order : (os gs : List Given) → Distinct os → Distinct gs → AllIn gs os
    → ((g : Given) → Contains gs g → IsName (names_of_options os) g.0) → IsPermutation gs os
in_order [] [] d e all known = IsPermutation-refl []
in_order [] (g ∷ gs) d e all known = absurd (known g (0, omega arith, refl))
in_order (o ∷ os) gs d e all known =
    let k = all.0.0 in
    let rest = remove gs k in
    let p = IsPermutation-remove gs k o all.0.1 (sym all.0.2) in
    let e2 = permuted_distinct gs (o ∷ rest) p e in
    let none = own_none o rest e2 in
    let known2 : (g : Given) → Contains (o ∷ rest) g → IsName (names_of_options (o ∷ os)) g.0 =
    λ g c. known g (Contains-permutation (o ∷ rest) gs g (IsPermutation-sym gs (o ∷ rest) p) c) in
    IsPermutation-trans gs (o ∷ rest) (o ∷ os) p
    (IsPermutation-cons o rest os
    (in_order os rest (tail_distinct o os d) (tail_distinct o rest e2) (move_all o gs rest os p (own_none o os d) all.1)
    (known_rest o os rest none known2)))

-- ---- what is known of each option that is written

pub names_known : (names : List Text) (ws : List Written) → AreNames names ws → (g : Given)
    → Contains (map given ws) g → IsName names g.0
names_known names [] h g c = absurd (let lt = c.1 in omega arith)
names_known names (w ∷ ws) h g c = go (contains_cases (given w) g (map given ws) c) (names_known names ws h.1 g)
  where
    go : (given w ≡ g) ⊎ Contains (map given ws) g → (Contains (map given ws) g → IsName names g.0) → IsName names g.0
    go (inl same) more = subst (λ (x : Given). IsName names x.0) same h.0
    go (inr there) more = more there

pub writable_from : (names : List Text) (ws : List Written)
    → ((g : Given) → Contains (map given ws) g → IsName names g.0 × IsPlainName g.0 × IsPlainValue g.1)
    → AreWritable names ws
writable_from names [] h = tt
writable_from names (w ∷ ws) h =
    let here = h (given w) (0, omega arith, refl) in (
      here.0,
      here.1,
      here.2,
      writable_from names ws
          (λ g c. h g (Contains-append_right (given w ∷ []) (map given ws) g c)),
    )
