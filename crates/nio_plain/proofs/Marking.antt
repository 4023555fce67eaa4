-- What was told of each key, and the marks that it makes, pair by pair.
use Rattle.std.proofs.Common.{◌≡◌, ℕ, suc, ◌+◌, ◌<◌, ◌≤◌, eqb, Bool, true, false, cond, List, [], ◌∷◌, ◌++◌, take}
use Rattle.std.proofs.Common.{length, get_or, set, bit_and, bit_or, count_by, refl, sym, ap, ◌∙◌, subst, arith, ⊎_elim}
use Rattle.std.proofs.lemmas.Bool.{cases_eq, cond-true, cond-false, eq-eqb, ne_eqb}
use Rattle.std.proofs.lemmas.List.{get_or-set_same, get_or-set_other, take_more, get_or_read}
use Rattle.std.proofs.lemmas.List.Elements.{All-push}
use Rattle.std.proofs.lemmas.Nat.Bits.{bit_at_or, same_from_bits}
use Rattle.std.specs.List.{All}
use lib.Bits.{and_zero_r, or_zero_r}
use Rattle.nio_base.specs.declared.numbers.KeyId.{KeyId}
use Rattle.nio_group.proofs.IndexLemmas.{count_by-cons}
use Rattle.nio_history.specs.State.{put}
use Rattle.nio_plain.proofs.Lists.{same-key, same-is, other-index, other-serial, Rise, AreBelow, rising-before}
use Rattle.nio_plain.proofs.Lists.{looked_interest-absent, looked_interest-last, looked_interest-others}
use Rattle.nio_plain.proofs.Lists.{looked_interest-at}
use Rattle.nio_plain.proofs.Places.{same_function, put_is, put_same, places-set, places_at}
use Rattle.nio_plain.specs.PlainState.{KeyRow, places, key_row, no_key, key_id, marked_keys}
use Rattle.nio_plain.specs.Seq.Names.{is_same_key}
use Rattle.nio_plain.specs.Seq.Selections.{all_told, looked_interest, told_bits, marked, is_updated}
use Rattle.nio_plain.specs.declared.plain.selector.Key.{Key}

or_assoc : (a b c : ℕ) → bit_or a (bit_or b c) ≡ bit_or (bit_or a b) c
or_assoc a b c =
    same_from_bits (bit_or a (bit_or b c)) (bit_or (bit_or a b) c) (λ i. simp bit_at_or (omega arith))

-- a pair more was told
pub all_told-push : (ps : List (KeyId × ℕ)) (p : KeyId × ℕ) (k : KeyId)
    → all_told (ps ++ p ∷ []) k ≡ bit_or (all_told ps k) (cond (is_same_key p.0 k) p.1 0)
all_told-push [] p k = or_zero_r (cond (is_same_key p.0 k) p.1 0)
all_told-push (x ∷ ps) p k =
    ap (bit_or (cond (is_same_key x.0 k) x.1 0)) (all_told-push ps p k)
    ∙ or_assoc (cond (is_same_key x.0 k) x.1 0) (all_told ps k) (cond (is_same_key p.0 k) p.1 0)

-- ---- marking

abbrev marks : ℕ → KeyRow → KeyRow
marks bits r = record r { mark = marked r.mark bits }

-- a key that isn't looked at isn't marked
marked_keys-absent : (keys : ℕ → KeyRow) (xs : List (KeyId × ℕ)) (told : ℕ → ℕ) (i : ℕ) → AreBelow xs i
    → marked_keys keys xs told i ≡ keys i
marked_keys-absent keys xs told i h =
    ap (λ b. marks (bit_and (told i) b) (keys i)) (looked_interest-absent xs (key_id keys i) h)
    ∙ ap (λ b. marks b (keys i)) (and_zero_r (told i))

-- one key more: the key that stands at its index, or another one
module _ (keys : ℕ → KeyRow) (xs : List (KeyId × ℕ)) (told : ℕ → ℕ) (p : KeyId × ℕ)
    (before : AreBelow xs p.0.index) where
  elsewhere : (m : ℕ) → (m ≡ p.0.index → ⊥) → marked_keys keys (xs ++ p ∷ []) told m ≡ marked_keys keys xs told m
  elsewhere m ne =
      ap (λ b. marks (bit_and (told m) b) (keys m))
      (looked_interest-others xs p (key_id keys m) (other-index p.0 (key_id keys m) (λ e. ne (sym e))))

  marked_keys-push : (keys p.0.index).stage.serial ≡ p.0.serial
      → marked_keys keys (xs ++ p ∷ []) told ≡ put (marked_keys keys xs told) p.0.index
      (marks (bit_and (told p.0.index) p.1) (keys p.0.index))
  marked_keys-push same =
      let named : key_id keys p.0.index ≡ p.0 = λ j. record { index = p.0.index; serial = same j } in
      put_is (marked_keys keys (xs ++ p ∷ []) told) (marked_keys keys xs told) p.0.index
      (marks (bit_and (told p.0.index) p.1) (keys p.0.index))
      (ap (λ b. marks (bit_and (told p.0.index) b) (keys p.0.index))
      (ap (looked_interest (xs ++ p ∷ [])) named ∙ looked_interest-last xs p before))
      elsewhere

  marked_keys-other : ((keys p.0.index).stage.serial ≡ p.0.serial → ⊥)
      → marked_keys keys (xs ++ p ∷ []) told ≡ marked_keys keys xs told
  marked_keys-other ne =
      same_function (λ m. ⊎_elim
      (λ (e : m ≡ p.0.index). ap (λ b. marks (bit_and (told m) b) (keys m))
      (looked_interest-others xs p (key_id keys m)
      (other-serial p.0 (key_id keys m) (λ d. ne (ap (λ k. (keys k).stage.serial) (sym e) ∙ sym d)))))
      (λ (d : m ≡ p.0.index → ⊥). elsewhere m d)
      (cases_eq m p.0.index))

-- one turn of the marking
module _ (keys : ℕ → KeyRow) (xs : List (KeyId × ℕ)) (told : ℕ → ℕ) (items : List Key) (j : ℕ) (p : KeyId × ℕ) (k : Key)
    (rising : Rise xs) (h : j < length xs) (e : p ≡ get_or xs j p)
    (so_far : places key_row no_key items ≡ marked_keys keys (take j xs) told) (within : p.0.index < length items)
    (read : k ≡ get_or items p.0.index k) where
  before : AreBelow (take j xs) p.0.index
  before = rising-before xs j p rising h e

  longer : take (j + 1) xs ≡ take j xs ++ p ∷ []
  longer = take_more xs j p h ∙ ap (λ q. take j xs ++ q ∷ []) (sym e)

  stands : key_row k ≡ keys p.0.index
  stands =
      (sym (places_at key_row no_key items p.0.index k within read) ∙ ap (λ (f : ℕ → KeyRow). f p.0.index) so_far)
      ∙ marked_keys-absent keys (take j xs) told p.0.index before

  pub marked_keys-step : (k' : Key) → k.serial ≡ p.0.serial
      → key_row k' ≡ record (key_row k) { mark = marked k.mark (bit_and (told p.0.index) p.1) }
      → places key_row no_key (set items p.0.index k') ≡ marked_keys keys (take (j + 1) xs) told
  marked_keys-step k' same done =
      let serial = ap (λ (r : KeyRow). r.stage.serial) (sym stands) ∙ same in
      (places-set key_row no_key items p.0.index k' within
      ∙ (ap (λ r. put (places key_row no_key items) p.0.index r)
      (done ∙ ap (marks (bit_and (told p.0.index) p.1)) stands)
      ∙ ap (λ f. put f p.0.index (marks (bit_and (told p.0.index) p.1) (keys p.0.index))) so_far))
      ∙ (sym (marked_keys-push keys (take j xs) told p before serial)
      ∙ ap (λ ys. marked_keys keys ys told) (sym longer))

  pub marked_keys-skip : (k.serial ≡ p.0.serial → ⊥)
      → places key_row no_key items ≡ marked_keys keys (take (j + 1) xs) told
  marked_keys-skip ne =
      let other = λ (d : (keys p.0.index).stage.serial ≡ p.0.serial). ne
      (ap (λ (r : KeyRow). r.stage.serial) stands ∙ d) in
      so_far ∙ (sym (marked_keys-other keys (take j xs) told p before other)
      ∙ ap (λ ys. marked_keys keys ys told) (sym longer))

  pub marked_keys-turn : (k' : Key)
      → key_row k' ≡ cond (eqb k.serial p.0.serial)
      (record (key_row k) { mark = marked k.mark (bit_and (told p.0.index) p.1) }) (key_row k)
      → places key_row no_key (set items p.0.index k') ≡ marked_keys keys (take (j + 1) xs) told
  marked_keys-turn k' done =
      let new : KeyRow = record (key_row k) { mark = marked k.mark (bit_and (told p.0.index) p.1) } in
      ⊎_elim
      (λ (same : k.serial ≡ p.0.serial). marked_keys-step k' same
      (done ∙ cond-true (eqb k.serial p.0.serial) new (key_row k) (eq-eqb k.serial p.0.serial same)))
      (λ (ne : k.serial ≡ p.0.serial → ⊥).
      let kept = done ∙ cond-false (eqb k.serial p.0.serial) new (key_row k) (ne_eqb k.serial p.0.serial ne) in
      (places-set key_row no_key items p.0.index k' within
      ∙ put_same (places key_row no_key items) p.0.index (key_row k')
      (places_at key_row no_key items p.0.index k within read ∙ sym kept)) ∙ marked_keys-skip ne)
      (cases_eq k.serial p.0.serial)

-- ---- what was told counts for the looked keys alone

-- at each looked key's index stands what was told of the key
abbrev pub TellsLooked : (ℕ → ℕ) → List (KeyId × ℕ) → List (KeyId × ℕ) → Type 0
TellsLooked told pairs xs = All (λ (q : KeyId × ℕ). told q.0.index ≡ all_told pairs q.0) xs

pub tells_tail : (told : ℕ → ℕ) (pairs : List (KeyId × ℕ)) (x : KeyId × ℕ) (xs : List (KeyId × ℕ))
    → TellsLooked told pairs (x ∷ xs) → TellsLooked told pairs xs
tells_tail told pairs x xs tells = λ k d l. tells (suc k) d (omega arith)

bits_of_looked : (told : ℕ → ℕ) (pairs xs : List (KeyId × ℕ)) (k : KeyId) → TellsLooked told pairs xs
    → bit_and (told k.index) (looked_interest xs k) ≡ told_bits xs pairs k
bits_of_looked told pairs [] k tells = and_zero_r (told k.index) ∙ sym (and_zero_r (all_told pairs k))
bits_of_looked told pairs (x ∷ xs) k tells =
    at (bits_of_looked told pairs xs k (tells_tail told pairs x xs tells)) (is_same_key x.0 k) refl
  where
    at : (bit_and (told k.index) (looked_interest xs k) ≡ told_bits xs pairs k) → (b : Bool) → is_same_key x.0 k ≡ b
        → bit_and (told k.index) (cond b x.1 (looked_interest xs k)) ≡ bit_and (all_told pairs k)
        (cond b x.1 (looked_interest xs k))
    at rest true e =
        let is : x.0 ≡ k = same-is x.0 k e in
        ap (λ n. bit_and n x.1) (subst (λ (m : KeyId). told m.index ≡ all_told pairs m) is (tells 0 x (omega arith)))
    at rest false e = rest

pub marked_keys-told : (keys : ℕ → KeyRow) (xs pairs : List (KeyId × ℕ)) (told : ℕ → ℕ) → TellsLooked told pairs xs
    → marked_keys keys xs told
    ≡ (λ i. record (keys i) { mark = marked (keys i).mark (told_bits xs pairs (key_id keys i)) })
marked_keys-told keys xs pairs told tells =
    same_function (λ i. ap (λ b. marks b (keys i)) (bits_of_looked told pairs xs (key_id keys i) tells))

-- what was told of each looked key, by the serials that the selection looks at
pub tells-looked : (xs pairs : List (KeyId × ℕ)) (bound : ℕ) (serials told : List ℕ) → AreBelow xs bound
    → length serials ≡ bound → All (λ (q : KeyId × ℕ). get_or serials q.0.index 0 ≡ q.0.serial) xs
    → ((i : ℕ) → i < length serials
    → get_or told i 0 ≡ all_told pairs (record { index = i; serial = get_or serials i 0 }))
    → TellsLooked (λ i. get_or told i 0) pairs xs
tells-looked xs pairs bound serials told below long named told_is = λ k d l.
    let q = get_or xs k d in
    let less : q.0.index < bound = below k d l in
    told_is q.0.index (omega arith) ∙ ap (λ m. all_told pairs (record { index = q.0.index; serial = m })) (named k d l)

-- whether a looked key is updated, by what the loop read
pub updated-at : (keys : List Key) (told : List ℕ) (p : KeyId × ℕ) (k : Key) (t bits : ℕ) (b : Bool)
    → p.0.index < length keys → k ≡ get_or keys p.0.index k → p.0.index < length told → t ≡ get_or told p.0.index t
    → bits ≡ bit_and t p.1 → b ≡ is_updated k.mark bits
    → is_updated (places key_row no_key keys p.0.index).mark (bit_and (get_or told p.0.index 0) p.1) ≡ b
updated-at keys told p k t bits b in_keys read in_told read' met same =
    let at = ap (λ (r : KeyRow). r.mark) (places_at key_row no_key keys p.0.index k in_keys read) in
    let bits_at = met ∙ ap (λ n. bit_and n p.1) (get_or_read told p.0.index t in_told read' 0) in
    (ap (λ m. is_updated m (bit_and (get_or told p.0.index 0) p.1)) at ∙ ap (is_updated k.mark) (sym bits_at))
    ∙ sym same

-- ---- uniting what was told

-- the key with the serial that stands at an index
abbrev pub named_by : List ℕ → ℕ → KeyId
named_by serials i = record { index = i; serial = get_or serials i 0 }

module _ (ps : List (KeyId × ℕ)) (j : ℕ) (p : KeyId × ℕ) (told serials : List ℕ) (h : j < length ps)
    (e : p ≡ get_or ps j p) (long : length told ≡ length serials)
    (so_far : (i : ℕ) → i < length serials → get_or told i 0 ≡ all_told (take j ps) (named_by serials i)) where
  more : (i : ℕ)
      → all_told (take (j + 1) ps) (named_by serials i) ≡ bit_or (all_told (take j ps) (named_by serials i))
      (cond (is_same_key p.0 (named_by serials i)) p.1 0)
  more i =
      ap (λ qs. all_told qs (named_by serials i)) (take_more ps j p h ∙ ap (λ q. take j ps ++ q ∷ []) (sym e))
      ∙ all_told-push (take j ps) p (named_by serials i)

  others : (i : ℕ) → is_same_key p.0 (named_by serials i) ≡ false
      → all_told (take (j + 1) ps) (named_by serials i) ≡ all_told (take j ps) (named_by serials i)
  others i ne =
      more i ∙ (ap (bit_or (all_told (take j ps) (named_by serials i)))
      (cond-false (is_same_key p.0 (named_by serials i)) p.1 0 ne)
      ∙ or_zero_r (all_told (take j ps) (named_by serials i)))

  -- the pair's key has the serial that stands there
  pub all_told-step : (n new : ℕ) → n ≡ p.0.index → n < length serials → get_or serials n 0 ≡ p.0.serial
      → new ≡ bit_or (get_or told n 0) p.1 → (i : ℕ) → i < length serials
      → get_or (set told n new) i 0 ≡ all_told (take (j + 1) ps) (named_by serials i)
  all_told-step n new index within serial united = λ i l. ⊎_elim
      (λ (d : i ≡ n).
      let here = get_or-set_same told n new 0 (omega arith) in
      let told_here = ap (λ m. bit_or m p.1) (so_far n within) in
      let named : p.0 ≡ named_by serials n = λ x. record { index = sym index x; serial = sym serial x } in
      let is : is_same_key p.0 (named_by serials n) ≡ true = ap (is_same_key p.0) (sym named) ∙ same-key p.0 in
      let sum = more n
      ∙ ap (bit_or (all_told (take j ps) (named_by serials n)))
      (cond-true (is_same_key p.0 (named_by serials n)) p.1 0 is) in
      (ap (λ m. get_or (set told n new) m 0) d ∙ (here ∙ (united ∙ told_here)))
      ∙ (sym sum ∙ ap (λ m. all_told (take (j + 1) ps) (named_by serials m)) (sym d)))
      (λ (ne : i ≡ n → ⊥). (get_or-set_other told n i new 0 ne ∙ so_far i l)
      ∙ sym (others i (other-index p.0 (named_by serials i) (λ d. ne (sym (index ∙ d))))))
      (cases_eq i n)

  -- the pair's index stands nowhere
  pub all_told-past : length serials ≤ p.0.index → (i : ℕ) → i < length serials
      → get_or told i 0 ≡ all_told (take (j + 1) ps) (named_by serials i)
  all_told-past past = λ i l. so_far i l ∙ sym (others i (other-index p.0 (named_by serials i) (λ d. omega arith)))

  -- another serial stands there
  pub all_told-skip : (n : ℕ) → n ≡ p.0.index → (get_or serials n 0 ≡ p.0.serial → ⊥) → (i : ℕ) → i < length serials
      → get_or told i 0 ≡ all_told (take (j + 1) ps) (named_by serials i)
  all_told-skip n index ne = λ i l. ⊎_elim
      (λ (d : i ≡ n). so_far i l
      ∙ sym (others i
      (other-serial p.0 (named_by serials i) (λ q. ne (ap (λ m. get_or serials m 0) (sym d) ∙ sym q)))))
      (λ (d : i ≡ n → ⊥). so_far i l ∙ sym (others i (other-index p.0 (named_by serials i) (λ q. d (sym (index ∙ q))))))
      (cases_eq i n)

-- ---- the serials of the looked keys

pub serials-step : (xs : List (KeyId × ℕ)) (j : ℕ) (p : KeyId × ℕ) (serials : List ℕ) → Rise xs → j < length xs
    → p ≡ get_or xs j p → p.0.index < length serials
    → All (λ (q : KeyId × ℕ). get_or serials q.0.index 0 ≡ q.0.serial) (take j xs)
    → All (λ (q : KeyId × ℕ). get_or (set serials p.0.index p.0.serial) q.0.index 0 ≡ q.0.serial)
    (take (j + 1) xs)
serials-step xs j p serials rising h e within so_far =
    let before = rising-before xs j p rising h e in
    let set_there = set serials p.0.index p.0.serial in
    let P : KeyId × ℕ → Type 0 = λ q. get_or set_there q.0.index 0 ≡ q.0.serial in
    let old : All P (take j xs) = λ k d l.
    let less : (get_or (take j xs) k d).0.index < p.0.index = before k d l in
    get_or-set_other serials p.0.index (get_or (take j xs) k d).0.index p.0.serial 0 (λ q. omega arith)
    ∙ so_far k d l in
    subst (All P) (sym (take_more xs j p h ∙ ap (λ q. take j xs ++ q ∷ []) (sym e)))
    (All-push P (take j xs) p old (get_or-set_same serials p.0.index p.0.serial 0 within))

-- ---- counting

pub count_by-same : {X : Type 0} (p q : X → Bool) (xs : List X)
    → ((k : ℕ) (d : X) → k < length xs → p (get_or xs k d) ≡ q (get_or xs k d)) → count_by p xs ≡ count_by q xs
count_by-same p q [] h = refl
count_by-same p q (x ∷ xs) h =
    let first = h 0 x (omega arith) in
    let rest = count_by-same p q xs (λ k d l. h (suc k) d (omega arith)) in
    let both : cond (p x) 1 0 + count_by p xs ≡ cond (q x) 1 0 + count_by q xs = λ i. cond (first i) 1 0 + rest i in
    count_by-cons p x xs ∙ (both ∙ sym (count_by-cons q x xs))

-- the count, by what was told of each looked key and the interest looked at
pub counted-at : (keys : ℕ → KeyRow) (xs pairs : List (KeyId × ℕ)) (told : ℕ → ℕ) → Rise xs → TellsLooked told pairs xs
    → count_by (λ (q : KeyId × ℕ). is_updated (keys q.0.index).mark (told_bits xs pairs q.0)) xs
    ≡ count_by (λ (q : KeyId × ℕ). is_updated (keys q.0.index).mark (bit_and (told q.0.index) q.1)) xs
counted-at keys xs pairs told rising tells =
    count_by-same (λ (q : KeyId × ℕ). is_updated (keys q.0.index).mark (told_bits xs pairs q.0))
    (λ (q : KeyId × ℕ). is_updated (keys q.0.index).mark (bit_and (told q.0.index) q.1)) xs
    (λ k d l.
    let q = get_or xs k d in
    let bits : told_bits xs pairs q.0 ≡ bit_and (told q.0.index) q.1 = ap (λ n. bit_and n (looked_interest xs q.0))
    (sym (tells k d l)) ∙ ap (bit_and (told q.0.index)) (looked_interest-at xs rising k d l) in
    ap (is_updated (keys q.0.index).mark) bits)
