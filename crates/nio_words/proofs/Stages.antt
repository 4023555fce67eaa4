-- The word of an index: its fields are read, each of its stages is set, a pin is added and subtracted.
use Rattle.std.proofs.Common.{◌≡◌, ◌≢◌, ℕ, ◌+◌, ◌-◌, ◌*◌, ◌/◌, ◌%◌, ◌^◌, ◌<◌, true, ap, ◌∙◌, arith}
use Rattle.std.specs.Prelude.{bit_or}
use Rattle.nio_history.specs.declared.found.Stage.{Stage}
use Rattle.nio_words.proofs.Fields.{bit-lt, reads, sets}
use Rattle.nio_words.specs.Decodings.{is_set, stage_of, pins_of}
use Rattle.nio_words.specs.Encodings.{bit, stage_word}

module _ (k : Stage) (n : ℕ) (few : n < 2 ^ 8) (fits : k.chan.0 < 2 ^ 20) where
  claimed-lt : bit k.claimed < 2
  claimed-lt = bit-lt k.claimed

  published-lt : bit k.published < 2
  published-lt = bit-lt k.published

  cancelled-lt : bit k.cancelled < 2
  cancelled-lt = bit-lt k.cancelled

  removed-lt : bit k.removed < 2
  removed-lt = bit-lt k.removed

  pub reads_claimed : is_set (stage_word k n) 0 ≡ k.claimed
  reads_claimed = reads (stage_word k n) 0 k.claimed (omega (arith, claimed-lt, published-lt, cancelled-lt, removed-lt))

  reads_published : is_set (stage_word k n) 1 ≡ k.published
  reads_published =
      reads (stage_word k n) 1 k.published (omega (arith, claimed-lt, published-lt, cancelled-lt, removed-lt))

  reads_cancelled : is_set (stage_word k n) 2 ≡ k.cancelled
  reads_cancelled =
      reads (stage_word k n) 2 k.cancelled (omega (arith, claimed-lt, published-lt, cancelled-lt, removed-lt))

  reads_removed : is_set (stage_word k n) 3 ≡ k.removed
  reads_removed = reads (stage_word k n) 3 k.removed (omega (arith, claimed-lt, published-lt, cancelled-lt, removed-lt))

  pub reads_pins : pins_of (stage_word k n) ≡ n
  reads_pins = omega (arith, claimed-lt, published-lt, cancelled-lt, removed-lt)

  reads_channel : stage_word k n / 2 ^ 12 % 2 ^ 20 ≡ k.chan.0
  reads_channel = omega (arith, claimed-lt, published-lt, cancelled-lt, removed-lt)

  reads_serial : stage_word k n / 2 ^ 32 ≡ k.serial
  reads_serial = omega (arith, claimed-lt, published-lt, cancelled-lt, removed-lt)

  pub reads_stage : stage_of (stage_word k n) ≡ k
  reads_stage = λ j. record {
    claimed = reads_claimed j;
    published = reads_published j;
    cancelled = reads_cancelled j;
    removed = reads_removed j;
    chan = record { 0 = reads_channel j };
    serial = reads_serial j;
  }

  pub publishes_stage : bit_or (stage_word k n) 2 ≡ stage_word (record k { published = true }) n
  publishes_stage =
      let hi : ℕ = bit k.cancelled + 2 * bit k.removed + 2 ^ 2 * n + 2 ^ 10 * k.chan.0 + 2 ^ 30 * k.serial in
      let fields : stage_word k n ≡ (hi * 2 + bit k.published) * 2 ^ 1 + bit k.claimed = omega arith in
      ap (λ (m : ℕ). bit_or m 2) fields ∙ (sets 1 hi (bit k.claimed) k.published claimed-lt ∙ omega arith)

  pub cancels_stage : bit_or (stage_word k n) 4 ≡ stage_word (record k { cancelled = true }) n
  cancels_stage =
      let hi : ℕ = bit k.removed + 2 * n + 2 ^ 9 * k.chan.0 + 2 ^ 29 * k.serial in
      let lo : ℕ = bit k.claimed + 2 * bit k.published in
      let fields : stage_word k n ≡ (hi * 2 + bit k.cancelled) * 2 ^ 2 + lo = omega arith in
      ap (λ (m : ℕ). bit_or m 4) fields
      ∙ (sets 2 hi lo k.cancelled (omega (arith, claimed-lt, published-lt)) ∙ omega arith)

  pub removes_stage : bit_or (stage_word k n) 8 ≡ stage_word (record k { removed = true }) n
  removes_stage =
      let hi : ℕ = n + 2 ^ 8 * k.chan.0 + 2 ^ 28 * k.serial in
      let lo : ℕ = bit k.claimed + 2 * bit k.published + 4 * bit k.cancelled in
      let fields : stage_word k n ≡ (hi * 2 + bit k.removed) * 2 ^ 3 + lo = omega arith in
      ap (λ (m : ℕ). bit_or m 8) fields
      ∙ (sets 3 hi lo k.removed (omega (arith, claimed-lt, published-lt, cancelled-lt)) ∙ omega arith)

-- one pin more, and one less
pub pins_stage : (k : Stage) (n : ℕ) → n + 1 < 2 ^ 8 → k.chan.0 < 2 ^ 20 → stage_word k n < 2 ^ 64
    → (stage_word k n + 16) % 2 ^ 64 ≡ stage_word k (n + 1)
pins_stage k n few fits small =
    let a = bit-lt k.claimed in
    let b = bit-lt k.published in
    let c = bit-lt k.cancelled in
    let d = bit-lt k.removed in
    let serial : k.serial < 2 ^ 32 = omega arith in
    omega arith

pub unpins_stage : (k : Stage) (n : ℕ) → stage_word k (n + 1) < 2 ^ 64
    → (stage_word k (n + 1) + (2 ^ 64 - 16)) % 2 ^ 64 ≡ stage_word k n
unpins_stage k n small = omega arith

-- the word of a claimed index isn't 0
pub claimed_some : (k : Stage) (n : ℕ) → k.claimed ≡ true → stage_word k n ≢ 0
claimed_some k n is e = let one : bit k.claimed ≡ 1 = ap bit is in omega arith

-- a new key's word fits
pub stage_word-lt : (k : Stage) (n : ℕ) → n < 2 ^ 8 → k.chan.0 < 2 ^ 20 → k.serial < 2 ^ 32 → stage_word k n < 2 ^ 64
stage_word-lt k n few fits serial =
    let a = bit-lt k.claimed in
    let b = bit-lt k.published in
    let c = bit-lt k.cancelled in
    let d = bit-lt k.removed in
    omega arith
