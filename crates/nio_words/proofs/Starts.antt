-- A table that was just made keeps its rule.
use Rattle.std.proofs.Common.{◌≡◌, ℕ, zero, suc, ◌<◌, false, List, [], ◌∷◌, length, set, get_or, replicate, refl, ap}
use Rattle.std.proofs.Common.{sym, ◌∙◌, subst, arith, length-set, get_or-set_same, get_or-set_other}
use Rattle.std.proofs.lemmas.List.{get_or-replicate, length-replicate}
use mathlib.Core.Option.{some, some-injective, some-ne-none}
use lib.ListN.{get_elem?}
use Rattle.atomic_table.specs.Table.{opening as first_table}
use Rattle.nio_base.specs.Limits.{IsFit}
use Rattle.nio_base.specs.declared.limits.Limits.{Limits}
use Rattle.nio_history.proofs.Legal.{legal_empty}
use Rattle.nio_history.specs.State.{opening, unclaimed}
use Rattle.nio_history.proofs.Counts.{count_none}
use Rattle.nio_words.proofs.Beginnings.{prefix_self}
use Rattle.nio_words.proofs.Bits.{none_has, bits_below-none}
use Rattle.nio_words.proofs.Places.{place_inside, place-limits, limits_inside}
use Rattle.nio_words.specs.Encodings.{encoding, bound, IsProper, limits_word, stage_word}
use Rattle.nio_words.specs.Places.{IsWithin, place, word_count}
use Rattle.nio_words.specs.Rule.{first_view, Knows, IsEncoded, IsKept}
use Rattle.nio_words.specs.declared.part.Part.{Part}
use Rattle.nio_words.specs.declared.part.Part.TheVariants.{Callers, Interrupts, Selectors, Enrolled, Key, Mark, Free, Touched}
use Rattle.nio_words.specs.declared.view.View.{View}

-- in the opening state every word is 0
encoding-opening : (p : Part) → encoding opening p ≡ 0
encoding-opening Callers = bits_below-none 64
encoding-opening Interrupts = bits_below-none 64
encoding-opening Selectors = bits_below-none 64
encoding-opening (Key s i) = ap (stage_word unclaimed) (count_none 64 (λ _. false) (λ _ _. refl))
encoding-opening (Free s j) = bits_below-none 64
encoding-opening (Touched s j) = bits_below-none 64
encoding-opening p = refl

bound-pos : (p : Part) → 0 < bound p
bound-pos Callers = omega arith
bound-pos p = omega arith

proper-opening : (p : Part) → IsProper opening p
proper-opening (Enrolled c s) = tt
proper-opening (Key s i) = omega arith
proper-opening (Mark s i) = omega arith
proper-opening p = tt

only_first : (v : View) (i : ℕ) (u : View) → get_elem? (v ∷ []) i ≡ some u → (i ≡ 0) × (v ≡ u)
only_first v zero u at = (refl, some-injective v u at)
only_first v (suc i) u at = absurd (some-ne-none u (sym at))

knows_first : (l : Limits) → Knows l [] (first_view l)
knows_first l = record {
  limits = refl;
  begins = prefix_self [];
  own = λ n has. refl;
  callers = λ n has. absurd (none_has n has);
  drawn = λ n has. absurd (none_has n has);
  halves = λ k d h. absurd (omega arith);
}

pub starts : (l : Limits) (words : List ℕ) → IsFit l → words ≡ set (replicate (word_count l) 0) 1 (limits_word l)
    → IsKept l (first_table words [] (first_view l))
starts l words fit are = record {
  fit = fit;
  history = [];
  legal = legal_empty l;
  longest = record { seat = 0; view = first_view l; there = refl; unspent = refl; whole = refl };
  wide = ap length are
      ∙ (length-set (replicate (word_count l) 0) 1 (limits_word l) ∙ length-replicate (word_count l) 0);
  encoded = encoded;
  limits = ap (λ ws. get_or ws 1 0) are
      ∙ get_or-set_same (replicate (word_count l) 0) 1 (limits_word l) 0
      (subst (λ (k : ℕ). 1 < k) (sym (length-replicate (word_count l) 0)) (limits_inside l));
  each = λ i u at live. subst (Knows l []) (only_first (first_view l) i u at).1 (knows_first l);
  one_seat = λ i j u w n at_i at_j has_i has_j. (only_first (first_view l) i u at_i).0
      ∙ sym (only_first (first_view l) j w at_j).0;
  spent_empty = λ i u at spent. ap (λ x. x.numbers) (sym (only_first (first_view l) i u at).1);
  undrawn = λ n h. refl;
  alone = λ i u at alone. ap (λ x. x.seen) (sym (only_first (first_view l) i u at).1);
  others_spent = λ i j u w at_i alone at_j ne. absurd
      (ne ((only_first (first_view l) j w at_j).0 ∙ sym (only_first (first_view l) i u at_i).0));
}
  where
    encoded : (p : Part) → IsWithin l p → IsEncoded l [] words p
    encoded p h =
        let zero_there : get_or words (place l p) 0 ≡ 0 =
        ap (λ ws. get_or ws (place l p) 0) are
        ∙ (get_or-set_other (replicate (word_count l) 0) 1 (place l p) (limits_word l) 0 (place-limits l p h)
        ∙ get_or-replicate (word_count l) (place l p) 0 0 (place_inside l p h)) in
        record {
          word = zero_there ∙ sym (encoding-opening p);
          small = subst (λ (k : ℕ). k < bound p) (sym zero_there) (bound-pos p);
          proper = proper-opening p;
        }
