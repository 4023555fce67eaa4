-- A key becomes selected, and its ready set gains a bit, only for bits that were told and looked for.
use Rattle.std.proofs.Common.{◌≡◌, ◌≢◌, ◌⊎◌, ℕ, suc, ◌<◌, max, min, ◌==◌, Bool, true, false, cond, Option, Some, None}
use Rattle.std.proofs.Common.{List, [], ◌∷◌, bit_and, bit_or, refl, sym, ap, subst, ◌∙◌, inl, inr, ⊎_elim, arith}
use Rattle.std.proofs.Common.{eqb-true, eq-eqb}
use Rattle.std.proofs.lemmas.Bool.{both_ways, cases_eq, cond-true, cond-false, cond_both, eqb-false, ne_eqb}
use Rattle.std.proofs.lemmas.Nat.Bits.{bit_at-zero, bit_at_and, bit_at_or, bit_at-lt}
use Rattle.std.specs.Int.{bit_at}
use Rattle.nio_base.specs.declared.numbers.CallerNo.{CallerNo}
use Rattle.nio_base.specs.declared.numbers.KeyId.{KeyId}
use Rattle.nio_base.specs.declared.numbers.SelNo.{SelNo}
use Rattle.nio_base.specs.declared.limits.Limits.{Limits}
use Rattle.nio_history.proofs.Put.{put_at_keeps}
use Rattle.nio_history.specs.State.{unmarked}
use Rattle.nio_history.specs.declared.found.Mark.{Mark}
use Rattle.nio_language.specs.declared.call.Call.{Call}
use Rattle.nio_language.specs.declared.call.Call.TheVariants as call
use Rattle.nio_plain.proofs.CallChanges as change
use Rattle.nio_plain.proofs.CallChanges.{Change}
use Rattle.nio_plain.proofs.CallLawsCases.{change_of}
use Rattle.nio_plain.specs.CallLaws.{told_of, newly_told, HasBit, GainsOnly, OnlyToldBitsAreSelected, IsGiven}
use Rattle.nio_plain.specs.CallLaws.{IsToldAndLookedFor, BitsAreToldAndLookedFor}
use Rattle.nio_plain.specs.ScriptState.{ScriptState, Selection}
use Rattle.nio_plain.specs.Seq.Replies.{Replied}
use Rattle.nio_plain.specs.Seq.Selections.{own_selection, all_told, looked_interest, told_bits, marked}
use Rattle.nio_plain.specs.Seq.Names.{key_at, is_same_key}
use Rattle.nio_plain.specs.Seq.Removing.{unselected}
use Rattle.nio_plain.specs.declared.rules.Rules.{Rules}
use Rattle.nio_plain.proofs.Lists.{same-is}

-- bits of a union and of a meet
one_of_max : (x y : ℕ) → x ≢ 1 → x < 2 → max x y ≡ 1 → y ≡ 1
one_of_max x y ne less e = omega arith

or_bit : (a b bit : ℕ) → HasBit (bit_or a b) bit → HasBit a bit ⊎ HasBit b bit
or_bit a b bit has =
    ⊎_elim
    (λ (e : bit_at a bit ≡ 1). inl e)
    (λ (ne : bit_at a bit ≢ 1). inr
    (one_of_max (bit_at a bit) (bit_at b bit) ne (bit_at-lt a bit) (sym (bit_at_or a b bit) ∙ has)))
    (cases_eq (bit_at a bit) 1)

both_of_min : (x y : ℕ) → x < 2 → y < 2 → min x y ≡ 1 → (x ≡ 1) × (y ≡ 1)
both_of_min x y l m e = (omega arith, omega arith)

and_bit : (a b bit : ℕ) → HasBit (bit_and a b) bit → HasBit a bit × HasBit b bit
and_bit a b bit has =
    both_of_min (bit_at a bit) (bit_at b bit) (bit_at-lt a bit) (bit_at-lt b bit) (sym (bit_at_and a b bit) ∙ has)

no_bit : {P : Type 0} (bit : ℕ) → HasBit 0 bit → P
no_bit bit has =
    let e : ◌≡◌ {A = ℕ} 0 1 = sym (bit_at-zero bit) ∙ has in
    absurd (omega arith)

-- what a mark gains
same : (m : Mark) (bits : ℕ) → GainsOnly m m bits
same m bits = record { ready = λ bit has. inl has; selected = λ was is. absurd (both_ways m.selected was is) }

after_unselecting : {m n : Mark} {bits : ℕ} → GainsOnly m n bits → GainsOnly m (unselected n) bits
after_unselecting gains = record { ready = gains.ready; selected = λ was is. absurd cc }

after_sweep : {m n : Mark} {bits : ℕ} (goes : Bool) → GainsOnly m n bits → GainsOnly m (cond goes (unselected n) n) bits
after_sweep true gains = after_unselecting gains
after_sweep false gains = gains

after_marking : (m : Mark) (bits : ℕ) → GainsOnly m (marked m bits) bits
after_marking m bits =
    let united : Mark = record m { ready = bit_or m.ready bits } in
    let fresh : Mark = record { selected = true; ready = bits } in
    cond_both (bits == 0) m (cond m.selected united fresh) (λ n. GainsOnly m n bits) (λ _. same m bits)
    (λ some. cond_both m.selected united fresh (λ n. GainsOnly m n bits)
    (λ selected. record {
      ready = or_bit m.ready bits;
      selected = λ was _. absurd (both_ways m.selected was selected);
    })
    (λ _. record { ready = λ bit has. inr has; selected = λ _ _. (eqb-false bits 0 some, refl) }))

-- the mark of a new key
cleared : (m : Mark) → GainsOnly m unmarked 0
cleared m = record { ready = λ bit has. no_bit bit has; selected = λ was is. absurd cc }

-- a mark of the selector t by what its own selection was told, seen from each selector
after_told : (m : Mark) (s t : ℕ) (own : ℕ → Option Selection) (selection : Selection) (pairs : List (KeyId × ℕ))
    (k : KeyId) → own t ≡ Some selection
    → GainsOnly m (cond (s == t) (marked m (told_bits selection.looked pairs k)) m)
    (cond (t == s) (told_of (own s) pairs k) 0)
after_told m s t own selection pairs k h =
    let bits = told_bits selection.looked pairs k in
    ⊎_elim
    (λ (e : s ≡ t).
    let now = cond-true (s == t) (marked m bits) m (eq-eqb s t e) in
    let told = cond-true (t == s) (told_of (own s) pairs k) 0 (eq-eqb t s (sym e))
    ∙ (ap (λ n. told_of (own n) pairs k) e ∙ ap (λ o. told_of o pairs k) h) in
    subst (λ (n : Mark). GainsOnly m n (cond (t == s) (told_of (own s) pairs k) 0)) (sym now)
    (subst (λ (b : ℕ). GainsOnly m (marked m bits) b) (sym told) (after_marking m bits)))
    (λ (ne : s ≡ t → ⊥).
    let now = cond-false (s == t) (marked m bits) m (ne_eqb s t ne) in
    subst (λ (n : Mark). GainsOnly m n (cond (t == s) (told_of (own s) pairs k) 0)) (sym now)
    (same m (cond (t == s) (told_of (own s) pairs k) 0)))
    (cases_eq s t)

module _ (rules : Rules) (st : ScriptState) (me : CallerNo) (s i : ℕ) where
  abbrev Gains : Call → Replied → Type 0
  Gains c done = GainsOnly (st.shared.mark s i) (done.left.shared.mark s i) (newly_told st me c s i)

  abbrev m : Mark
  m = st.shared.mark s i

  changes : {l : Limits} {c : Call} {done : Replied} → Change rules l st me c done → Gains c done
  changes (change.nothing c r _) = same m (newly_told st me c s i)
  changes (change.register t _ _ _ k _ _) =
      put_at_keeps (λ s' i' n. GainsOnly (st.shared.mark s' i') n 0) st.shared.mark t.0 k.index unmarked
      (λ _. cleared (st.shared.mark t.0 k.index)) s i (same m 0)
  changes (change.unselect t k) =
      put_at_keeps (λ s' i' n. GainsOnly (st.shared.mark s' i') n 0) st.shared.mark t.0 k.index
      (unselected (st.shared.mark t.0 k.index)) after_unselecting s i (same m 0)
  changes (change.begin t _ _ _) = after_sweep _ (same m 0)
  changes (change.told t elapsed pairs selection count why own) =
      after_sweep _ (after_told m s t.0 (own_selection st me) selection pairs (key_at st.shared s i) own)
  changes (change.close_end t _ _) = after_sweep _ (same m 0)
  changes _ = same m 0

pub only_told_bits_are_selected : OnlyToldBitsAreSelected
only_told_bits_are_selected rules l st me c s i =
    changes rules st me s i (change_of rules l st me c)

-- where the bits come from
later : {pairs : List (KeyId × ℕ)} {k : KeyId} {bit : ℕ} (p : KeyId × ℕ) → IsGiven pairs k bit
    → IsGiven (p ∷ pairs) k bit
later p given = record { ops = given.ops; pair = (suc given.pair.0, omega arith, given.pair.2); has = given.has }

first : (p : KeyId × ℕ) (pairs : List (KeyId × ℕ)) (k : KeyId) (bit : ℕ) → p.0 ≡ k → HasBit p.1 bit
    → IsGiven (p ∷ pairs) k bit
first p pairs k bit e has = record { ops = p.1; pair = (0, omega arith, λ j. (e j, p.1)); has = has }

all_told-given : (pairs : List (KeyId × ℕ)) (k : KeyId) (bit : ℕ) → HasBit (all_told pairs k) bit → IsGiven pairs k bit
all_told-given [] k bit has = no_bit bit has
all_told-given (p ∷ pairs) k bit has =
    ⊎_elim
    (here (is_same_key p.0 k) refl)
    (λ more. later p (all_told-given pairs k bit more))
    (or_bit (cond (is_same_key p.0 k) p.1 0) (all_told pairs k) bit has)
  where
    here : (b : Bool) → is_same_key p.0 k ≡ b → HasBit (cond b p.1 0) bit → IsGiven (p ∷ pairs) k bit
    here true e h = first p pairs k bit (same-is p.0 k e) h
    here false e h = no_bit bit h

looked_interest-given : (looked : List (KeyId × ℕ)) (k : KeyId) (bit : ℕ) → HasBit (looked_interest looked k) bit
    → IsGiven looked k bit
looked_interest-given [] k bit has = no_bit bit has
looked_interest-given (p ∷ looked) k bit has = here (is_same_key p.0 k) refl (looked_interest-given looked k bit) has
  where
    here : (b : Bool) → is_same_key p.0 k ≡ b → (HasBit (looked_interest looked k) bit → IsGiven looked k bit)
        → HasBit (cond b p.1 (looked_interest looked k)) bit → IsGiven (p ∷ looked) k bit
    here true e rest h = first p looked k bit (same-is p.0 k e) h
    here false e rest h = later p (rest h)

told-given : (st : ScriptState) (me : CallerNo) (t : SelNo) (elapsed : Bool) (pairs : List (KeyId × ℕ)) (s : ℕ)
    (k : KeyId) (bit : ℕ) (b : Bool) (own : Option Selection) → (t.0 == s) ≡ b → own_selection st me s ≡ own
    → HasBit (cond b (told_of own pairs k) 0) bit → IsToldAndLookedFor st me (call.Told t elapsed pairs) s k bit
told-given st me t elapsed pairs s k bit false own e o has = no_bit bit has
told-given st me t elapsed pairs s k bit true None e o has = no_bit bit has
told-given st me t elapsed pairs s k bit true (Some selection) e o has =
    let both = and_bit (all_told pairs k) (looked_interest selection.looked k) bit has in
    record {
      name = t;
      elapsed = elapsed;
      pairs = pairs;
      selection = selection;
      called = refl;
      there = eqb-true t.0 s e;
      own = o;
      told = all_told-given pairs k bit both.0;
      looked_for = looked_interest-given selection.looked k bit both.1;
    }

pub bits_are_told_and_looked_for : BitsAreToldAndLookedFor
bits_are_told_and_looked_for st me (call.Told t elapsed pairs) s i bit has =
    told-given st me t elapsed pairs s (key_at st.shared s i) bit (t.0 == s) (own_selection st me s) refl refl has
bits_are_told_and_looked_for st me _ s i bit has = no_bit bit has
