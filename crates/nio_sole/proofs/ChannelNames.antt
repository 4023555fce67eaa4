-- Names of channels, compared by number and serial.
use Rattle.std.proofs.Common.{◌≡◌, ◌≢◌, ◌==◌, Bool, true, false, ◌⊎◌, inl, inr, refl, ap, eq-eqb, eqb-true}
use Rattle.std.proofs.lemmas.Bool.{and_from, and_parts, both_ways, false_from_ne_true}
use Rattle.nio_base.specs.declared.numbers.ChanId.{ChanId}
use Rattle.nio_plain.specs.Seq.Pipes.{is_same_id}

pub channel_is : (a b : ChanId) → is_same_id a b ≡ true → a ≡ b
channel_is a b same =
    let both = and_parts (a.number.0 == b.number.0) (a.serial == b.serial) same in
    λ j. record {
      number = record { 0 = eqb-true a.number.0 b.number.0 both.0 j };
      serial = eqb-true a.serial b.serial both.1 j;
    }

pub same_channel : (a b : ChanId) → a ≡ b → is_same_id a b ≡ true
same_channel a b same =
    and_from (a.number.0 == b.number.0) (a.serial == b.serial)
    (eq-eqb a.number.0 b.number.0 (ap (λ (c : ChanId). c.number.0) same))
    (eq-eqb a.serial b.serial (ap (λ (c : ChanId). c.serial) same))

pub other_channel : (a b : ChanId) → a ≢ b → is_same_id a b ≡ false
other_channel a b other = false_from_ne_true (is_same_id a b) (λ same. other (channel_is a b same))

pub same_or_other : (a b : ChanId) → (a ≡ b) ⊎ (a ≢ b)
same_or_other a b = by_test (is_same_id a b) refl
  where
    by_test : (x : Bool) → is_same_id a b ≡ x → (a ≡ b) ⊎ (a ≢ b)
    by_test true same = inl (channel_is a b same)
    by_test false other = inr (λ same. both_ways (is_same_id a b) other (same_channel a b same))
