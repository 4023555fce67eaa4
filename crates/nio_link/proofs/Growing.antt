-- Lists that go on with the value that is read past their end.
use Rattle.std.proofs.Common.{◌≡◌, ℕ, ◌-◌, ◌<◌, ◌≤◌, ◌⊎◌, inl, inr, List, ◌++◌, length, get_or, replicate, sym, ◌∙◌}
use Rattle.std.proofs.Common.{arith}
use Rattle.std.proofs.Math.ListN.{get_or-append}
use Rattle.std.proofs.Math.Seq.{get_or-append_right}
use Rattle.std.proofs.lemmas.Bool.{cases_lt}
use Rattle.std.proofs.lemmas.Grind.{common_steps}
use Rattle.std.proofs.lemmas.List.{get_or-replicate}

module _ {A : Type 0} (d : A) where
  default_there : (m i : ℕ) → get_or (replicate m d) i d ≡ d
  default_there m i = by_place (cases_lt i m)
    where
      by_place : (i < m) ⊎ (m ≤ i) → get_or (replicate m d) i d ≡ d
      by_place (inl within) = get_or-replicate m i d d within
      by_place (inr past) = grind (arith, common_steps)

  pub goes_on : (xs : List A) (m i : ℕ) → get_or (xs ++ replicate m d) i d ≡ get_or xs i d
  goes_on xs m i = by_place (cases_lt i (length xs))
    where
      by_place : (i < length xs) ⊎ (length xs ≤ i) → get_or (xs ++ replicate m d) i d ≡ get_or xs i d
      by_place (inl within) = get_or-append xs (replicate m d) d i within
      by_place (inr past) =
          let beyond : get_or xs i d ≡ d = grind (arith, common_steps) in
          get_or-append_right xs (replicate m d) i d past ∙ default_there m (i - length xs) ∙ sym beyond
