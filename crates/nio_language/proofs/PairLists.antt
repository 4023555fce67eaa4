-- Lists of pairs, read word by word.
use Rattle.std.proofs.Common.{◌≡◌, ◌≢◌, ℕ, ◌<◌, ◌≤◌, ◌+◌, List, [], ◌∷◌, ◌++◌, length, get_or, take, map, Option, Some}
use Rattle.std.proofs.Common.{None, sym, ap, ◌∙◌, refl, arith, Any}
use denote.Ref.{Bor}
use Rattle.std.proofs.lemmas.List.{get_or-map, get_or-take, length-map, length-take-le, map-append, take_more, take_all}
use Rattle.std.proofs.lemmas.List.Elements.{All-push, All-get_or, All-nil, Contains-get_or}
use Rattle.std.proofs.lemmas.List.Quantifiers.{all_pairs_push}
use Rattle.std.proofs.lemmas.Option.{same_Some, none-some}
use Rattle.nio_base.specs.declared.numbers.KeyId.{KeyId}
use Rattle.nio_language.specs.Arguments.{ArePairs, IsPair}
use Rattle.nio_language.specs.Reading.{Reads}
use Rattle.nio_language.specs.Words.{pair_word}
use Rattle.nio_language.proofs.Readers.{reads_none}

abbrev origin : KeyId × ℕ
origin = (record { index = 0; serial = 0 }, 0)

-- the first i words are read as these pairs, and as no others
pub record AreRead (words : List (List ℕ)) (i : ℕ) (pairs : List (KeyId × ℕ)) : Type 0 where
  pub fits : ArePairs pairs
  pub texts : take i words ≡ map pair_word pairs
  pub only : (ps : List (KeyId × ℕ)) → ArePairs ps → words ≡ map pair_word ps → take i ps ≡ pairs

pub none_read : (words : List (List ℕ)) → AreRead words 0 []
none_read words = record {
  fits = (All-nil IsPair, λ i j d lt within. absurd (omega (arith, within)));
  texts = refl;
  only = λ ps fits e. refl;
}

-- the word at a place
pub record StandsAt (words : List (List ℕ)) (i : ℕ) (w : List ℕ) : Type 0 where
  pub within : i < length words
  pub is : w ≡ get_or words i w

pub stands_at : (ws : List (Bor (List ℕ))) (i : ℕ) (d : Bor (List ℕ)) → i < length ws
    → StandsAt (map (λ w. w.now) ws) i (get_or ws i d).now
stands_at ws i d h = record {
  within = omega (arith, length-map ws (λ (w : Bor (List ℕ)). w.now));
  is = sym (get_or-map (λ (w : Bor (List ℕ)). w.now) ws i d (get_or ws i d).now h);
}

-- where the words are printed from pairs, it is printed from the pair there
word_at : (words : List (List ℕ)) (ps : List (KeyId × ℕ)) (i : ℕ) (w : List ℕ) → words ≡ map pair_word ps
    → StandsAt words i w → (i < length ps) × (w ≡ pair_word (get_or ps i origin))
word_at words ps i w e at =
    let within : i < length ps = omega (arith, at.within, ap length e, length-map ps pair_word) in
    (within, at.is ∙ (ap (λ (ws : List (List ℕ)). get_or ws i w) e ∙ get_or-map pair_word ps i origin w within))

-- and so what is read of it is that pair
pair_at : (words : List (List ℕ)) (ps : List (KeyId × ℕ)) (i : ℕ) (w : List ℕ) (r : Option (KeyId × ℕ))
    → words ≡ map pair_word ps → ArePairs ps → StandsAt words i w
    → Reads IsPair pair_word w r → r ≡ Some (get_or ps i origin)
pair_at words ps i w r e fits at read =
    let there = word_at words ps i w e at in
    read.only (get_or ps i origin) (All-get_or IsPair ps i origin there.0 fits.0) there.1

pub no_pair : (words : List (List ℕ)) (i : ℕ) (w : List ℕ) → StandsAt words i w
    → Reads IsPair pair_word w None → Reads ArePairs (map pair_word) words None
no_pair words i w at read =
    reads_none ArePairs (map pair_word) words
    (λ ps fits e. none-some (get_or ps i origin) (pair_at words ps i w None e fits at read))

-- no pair has the key, so the keys stay distinct with it
fits_push : (pairs : List (KeyId × ℕ)) (p : KeyId × ℕ) → ArePairs pairs → IsPair p
    → (Any (λ q. q.0 ≡ p.0) pairs → ⊥) → ArePairs (pairs ++ p ∷ [])
fits_push pairs p fits is_pair new =
    let key = λ (q : KeyId × ℕ). q.0 in
    let others : (k : ℕ) (d : KeyId) → k < length (map key pairs) → get_or (map key pairs) k d ≢ p.0 =
    λ k d lt e.
    let within : k < length pairs = omega (arith, lt, length-map pairs key) in
    let at = Contains-get_or pairs k p within in
    new (at.0, get_or pairs k p, at.1, at.2, sym (get_or-map key pairs k p d within) ∙ e) in (
      All-push IsPair pairs p fits.0 is_pair,
      rw (map-append key pairs (p ∷ [])) (all_pairs_push (λ k m. k ≢ m) (map key pairs) p.0 fits.1 others),
    )

pub one_more : (words : List (List ℕ)) (i : ℕ) (w : List ℕ) (p : KeyId × ℕ) (pairs : List (KeyId × ℕ))
    → StandsAt words i w → Reads IsPair pair_word w (Some p)
    → (Any (λ q. q.0 ≡ p.0) pairs → ⊥) → AreRead words i pairs → AreRead words (i + 1) (pairs ++ p ∷ [])
one_more words i w p pairs at read new so_far = record {
  fits = fits_push pairs p so_far.fits read.found.0 new;
  texts =
      rw (take_more words i w at.within, map-append pair_word pairs (p ∷ []), so_far.texts, ← at.is, ← read.found.1)
      refl;
  only = λ ps fits e.
      let there = word_at words ps i w e at in
      let same : p ≡ get_or ps i origin = same_Some p (get_or ps i origin)
      (pair_at words ps i w (Some p) e fits at read) in
      rw (take_more ps i origin there.0, so_far.only ps fits e, ← same) refl;
}

pub key_again : (words : List (List ℕ)) (i : ℕ) (w : List ℕ) (p : KeyId × ℕ) (pairs : List (KeyId × ℕ))
    → StandsAt words i w → Reads IsPair pair_word w (Some p)
    → Any (λ q. q.0 ≡ p.0) pairs → AreRead words i pairs → Reads ArePairs (map pair_word) words None
key_again words i w p pairs at read twice so_far =
    let key = λ (q : KeyId × ℕ). q.0 in
    reads_none ArePairs (map pair_word) words
    (λ ps fits e.
    let same : p ≡ get_or ps i origin = same_Some p (get_or ps i origin)
    (pair_at words ps i w (Some p) e fits at read) in
    let there = word_at words ps i w e at in
    let front : take i ps ≡ pairs = so_far.only ps fits e in
    let k : ℕ = twice.0 in
    let q : KeyId × ℕ = twice.1 in
    let before : k < i = omega (arith, twice.2, ap length front, length-take-le i ps (omega (arith, there.0))) in
    let early : get_or ps k q ≡ q = sym (get_or-take i ps k q before)
    ∙ (ap (λ (l : List (KeyId × ℕ)). get_or l k q) front ∙ twice.3) in
    fits.1 k i origin.0 before (omega (arith, there.0, length-map ps key))
    (get_or-map key ps k q origin.0 (omega (arith, there.0))
    ∙ (ap key early ∙ (twice.4 ∙ (ap key same ∙ sym (get_or-map key ps i origin origin.0 there.0))))))

pub all_read : (words : List (List ℕ)) (i : ℕ) (pairs : List (KeyId × ℕ)) → length words ≤ i
    → AreRead words i pairs → Reads ArePairs (map pair_word) words (Some pairs)
all_read words i pairs h so_far = record {
  found = (so_far.fits, sym (take_all i words h) ∙ so_far.texts);
  only = λ ps fits e.
      let size : length ps ≤ i = omega (arith, ap length e, length-map ps pair_word) in
      ap Some (sym (so_far.only ps fits e) ∙ take_all i ps size);
}
