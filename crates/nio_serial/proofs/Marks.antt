-- The marks of a `told`: what the poller told of a looked key, and a mark of it, performed.
use Rattle.std.proofs.Common.{◌≡◌, ℕ, ◌==◌, Bool, true, false, cond, not, ◌&&◌, ◌||◌, if◌then◌else◌, Ok, Err, List, []}
use Rattle.std.proofs.Common.{◌∷◌, map, filter, fold, bit_and, bit_or, refl, ap, sym, ◌∙◌, subst, arith, eqb-true}
use Rattle.std.proofs.Common.{eq-eqb}
use Rattle.std.proofs.lemmas.Bool.{both_ways, and_parts, and_from, not-false}
use Rattle.std.proofs.lemmas.Nat.Bits.{bit_at_or, bit_at_and, same_from_bits}
use Rattle.std.specs.Bool.{beq}
use lib.Bits.{or_zero_l, or_zero_r}
use Rattle.nio_base.specs.declared.numbers.CallerNo.{CallerNo}
use Rattle.nio_base.specs.declared.numbers.KeyId.{KeyId}
use Rattle.nio_base.specs.declared.numbers.SelNo.{SelNo}
use Rattle.nio_history.specs.Acts.{selected_with, exchanged}
use Rattle.nio_history.specs.Answers.{is_same_mark}
use Rattle.nio_history.specs.State.{State, with_mark}
use Rattle.nio_history.specs.declared.found.Mark.{Mark}
use Rattle.nio_plain.proofs.Lists.{same-is}
use Rattle.nio_plain.proofs.Places.{put_at_same}
use Rattle.nio_plain.specs.Seq.Names.{is_same_key}
use Rattle.nio_plain.specs.Seq.Selections.{all_told, is_looked, marked, is_updated}
use Rattle.nio_base.specs.Ops.{is_within}
use Rattle.nio_steps.specs.Perform.{Performed, perform}
use Rattle.nio_steps.specs.Plan.{Plan, ◌>>=◌}
use Rattle.nio_steps.specs.SelectCalls.{told_at, gains_nothing, one_if, mark_again, mark_looked, mark_told}
use Rattle.nio_steps.specs.Steps.{mark}

-- ---- sets of bits

or_assoc : (a b c : ℕ) → bit_or (bit_or a b) c ≡ bit_or a (bit_or b c)
or_assoc a b c = same_from_bits (bit_or (bit_or a b) c) (bit_or a (bit_or b c)) (λ i. simp bit_at_or (omega arith))

pub or_self : (a : ℕ) → bit_or a a ≡ a
or_self a = same_from_bits (bit_or a a) a (λ i. simp bit_at_or (omega arith))

or_absorbs : (a b : ℕ) → bit_or b (bit_and a b) ≡ b
or_absorbs a b = same_from_bits (bit_or b (bit_and a b)) b (λ i. simp (bit_at_or, bit_at_and) (omega arith))

and_absorbs : (a b : ℕ) → bit_and a (bit_or b a) ≡ a
and_absorbs a b = same_from_bits (bit_and a (bit_or b a)) a (λ i. simp (bit_at_or, bit_at_and) (omega arith))

same_tests : (b c : Bool) → (b ≡ true → c ≡ true) → (c ≡ true → b ≡ true) → b ≡ c
same_tests true c first second = sym (first refl)
same_tests false true first second = second refl
same_tests false false first second = refl

-- a set is within another exactly where that one gains nothing by it
pub within-gains : (told ready : ℕ) → is_within told ready ≡ (bit_or ready told == ready)
within-gains told ready = same_tests (bit_and told ready == told) (bit_or ready told == ready)
    (λ within. eq-eqb (bit_or ready told) ready
    (ap (bit_or ready) (sym (eqb-true (bit_and told ready) told within)) ∙ or_absorbs told ready))
    (λ gains. eq-eqb (bit_and told ready) told
    (ap (bit_and told) (sym (eqb-true (bit_or ready told) ready gains)) ∙ and_absorbs told ready))

-- ---- what is told of a key

-- among these keys no two have one index
abbrev pub AreApart : (List (KeyId × ℕ)) → Type 0
AreApart looked = (k m : KeyId) → is_looked looked k ≡ true → is_looked looked m ≡ true → k.index ≡ m.index
    → k.serial ≡ m.serial

module _ (looked : List (KeyId × ℕ)) (apart : AreApart looked) (k : KeyId) (there : is_looked looked k ≡ true) where
  -- of the looked keys only this one has its index
  one_key : (p : KeyId) → (is_looked looked p && (p.index == k.index)) ≡ is_same_key p k
  one_key p = same_tests (is_looked looked p && (p.index == k.index)) (is_same_key p k)
      (λ h. let both = and_parts (is_looked looked p) (p.index == k.index) h in
      and_from (p.index == k.index) (p.serial == k.serial) both.1
      (eq-eqb p.serial k.serial (apart p k both.0 there (eqb-true p.index k.index both.1))))
      (λ h. and_from (is_looked looked p) (p.index == k.index)
      (subst (λ (m : KeyId). is_looked looked m ≡ true) (sym (same-is p k h)) there)
      (and_parts (p.index == k.index) (p.serial == k.serial) h).0)

  abbrev pair_by_index : (KeyId × ℕ) → ℕ × ℕ
  pair_by_index p = (p.0.index, p.1)

  abbrev known : List (KeyId × ℕ) → List (ℕ × ℕ)
  known pairs = map pair_by_index (filter (λ p. is_looked looked p.0) pairs)

  abbrev gather : ℕ → (ℕ × ℕ) → ℕ
  gather bits pair = if pair.0 == k.index then bit_or bits pair.1 else bits

  told_from : (pairs : List (KeyId × ℕ)) (bits : ℕ) → fold gather bits (known pairs) ≡ bit_or bits (all_told pairs k)
  told_from [] bits = sym (or_zero_r bits)
  told_from (p ∷ pairs) bits = by_looked (is_looked looked p.0) (one_key p.0) (told_from pairs)
    where
      by_same : (b : Bool) → ((acc : ℕ) → fold gather acc (known pairs) ≡ bit_or acc (all_told pairs k))
          → fold gather (cond b (bit_or bits p.1) bits) (known pairs)
          ≡ bit_or bits (bit_or (cond b p.1 0) (all_told pairs k))
      by_same true rest = rest (bit_or bits p.1) ∙ or_assoc bits p.1 (all_told pairs k)
      by_same false rest = rest bits ∙ ap (bit_or bits) (sym (or_zero_l (all_told pairs k)))

      by_looked : (b : Bool) → (b && (p.0.index == k.index)) ≡ is_same_key p.0 k
          → ((acc : ℕ) → fold gather acc (known pairs) ≡ bit_or acc (all_told pairs k))
          → fold gather bits
          (map pair_by_index
          (cond b (p ∷ filter (λ q. is_looked looked q.0) pairs) (filter (λ q. is_looked looked q.0) pairs)))
          ≡ bit_or bits (bit_or (cond (is_same_key p.0 k) p.1 0) (all_told pairs k))
      by_looked true same rest =
          ap (λ b. fold gather (cond b (bit_or bits p.1) bits) (known pairs)) same ∙ by_same (is_same_key p.0 k) rest
      by_looked false same rest =
          by_same false rest ∙ ap (λ b. bit_or bits (bit_or (cond b p.1 0) (all_told pairs k))) same

  pub told-is : (pairs : List (KeyId × ℕ)) → told_at (known pairs) k.index ≡ all_told pairs k
  told-is pairs = told_from pairs 0 ∙ or_zero_l (all_told pairs k)

-- ---- a mark

marked-with : (m : Mark) (told : ℕ) → (told == 0) ≡ false → selected_with m told ≡ marked m told
marked-with m told some =
    by_mark m.selected refl
    ∙ ap (λ b. if b then m else if m.selected then record m { ready = bit_or m.ready told } else record {
      selected = true;
      ready = told;
    }) (sym some)
  where
    by_mark : (b : Bool) → m.selected ≡ b
        → ◌≡◌ {A = Mark} (record { selected = true; ready = cond b (bit_or m.ready told) told })
        (cond b (record m { ready = bit_or m.ready told }) (record { selected = true; ready = told }))
    by_mark true is = λ j. record { selected = sym is j; ready = bit_or m.ready told }
    by_mark false is = refl

-- a mark that isn't updated is as it was
pub marked-same : (m : Mark) (told : ℕ) → is_updated m told ≡ false → marked m told ≡ m
marked-same m told not_updated = by_told (told == 0) not_updated
  where
    by_gain : (b : Bool) → m.selected ≡ b → (not b || not (bit_or m.ready told == m.ready)) ≡ false
        → cond b (record m { ready = bit_or m.ready told }) (record { selected = true; ready = told }) ≡ m
    by_gain true is gains =
        λ j. record m {
          ready = eqb-true (bit_or m.ready told) m.ready (not-false (bit_or m.ready told == m.ready) gains) j;
        }
    by_gain false is gains = absurd (both_ways true gains refl)

    by_told : (b : Bool) → (not b && (not m.selected || not (bit_or m.ready told == m.ready))) ≡ false
        → cond b m (if m.selected then record m { ready = bit_or m.ready told } else record {
          selected = true;
          ready = told;
        }) ≡ m
    by_told true e = refl
    by_told false e = by_gain m.selected refl e

same_mark : (m : Mark) → is_same_mark m m ≡ true
same_mark m =
    and_from (beq m.selected m.selected) (m.ready == m.ready) (by_bool m.selected) (eq-eqb m.ready m.ready refl)
  where
    by_bool : (b : Bool) → beq b b ≡ true
    by_bool true = refl
    by_bool false = refl

-- a key that something is told of
pub mark-performed : (st : State) (me : CallerNo) (s : SelNo) (i told : ℕ)
    → let m = st.mark s.0 i in
    perform me (mark_told s i told) st ≡ record {
      answer = one_if (is_updated m told);
      state = with_mark st s.0 i (marked m told);
    }
mark-performed st me s i told = by_told (told == 0) refl
  where
    m : Mark
    m = st.mark s.0 i

    Is : Performed ℕ → Type 0
    Is p = p ≡ record { answer = one_if (is_updated m told); state = with_mark st s.0 i (marked m told) }

    stays : is_updated m told ≡ false → Is (record { answer = 0; state = st })
    stays not_updated = λ j. record {
      answer = one_if (sym not_updated j);
      state = record st {
        mark = sym (put_at_same st.mark s.0 i (marked m told) (sym (marked-same m told not_updated))) j;
      };
    }

    by_gain : (told == 0) ≡ false → (b : Bool) → gains_nothing m told ≡ b
        → Is (perform me (if b then Plan.reply 0 else (mark s i m told >>= mark_again s i told)) st)
    by_gain some true is =
        let both = and_parts m.selected (is_within told m.ready) is in
        stays (λ j. not (some j) && (not (both.0 j) || not ((sym (within-gains told m.ready) ∙ both.1) j)))
    by_gain some false is =
        ap (λ (b : Bool). perform me (mark_again s i told (if b then Ok tt else Err m))
        (with_mark st s.0 i (exchanged m (selected_with m told) (if b then Ok tt else Err m)))) (same_mark m)
        ∙ (λ j. record { answer = one_if (sym updated j); state = with_mark st s.0 i (marked-with m told some j) })
      where
        either : (a b : Bool) → (a && b) ≡ false → (not a || not b) ≡ true
        either true true e = absurd (both_ways true e refl)
        either true false e = refl
        either false b e = refl

        updated : is_updated m told ≡ true
        updated = (λ j. not (some j) && (not m.selected || not (sym (within-gains told m.ready) j)))
            ∙ either m.selected (is_within told m.ready) is

    by_told : (b : Bool) → (told == 0) ≡ b → Is (perform me (if b then Plan.reply 0 else mark_looked s i told) st)
    by_told true none = stays (λ j. not (none j) && (not m.selected || not (bit_or m.ready told == m.ready)))
    by_told false some = by_gain some (gains_nothing m told) refl
