-- The word of a channel: its fields are read, its mode is set; the greater of two words is that of a channel after a
-- closing, and two channels have one word where they are the same.
use Rattle.std.proofs.Common.{◌≡◌, ◌≢◌, ℕ, ◌+◌, ◌-◌, ◌*◌, ◌/◌, ◌%◌, ◌^◌, ◌<◌, ◌≤◌, ◌==◌, Bool, true, false, not, ◌&&◌}
use Rattle.std.proofs.Common.{◌||◌, if◌then◌else◌, refl, ap, sym, ◌∙◌, subst, arith, eqb-true, eq-eqb, ne_eqb}
use Rattle.std.specs.Bool.{beq}
use Rattle.std.specs.Prelude.{bit_and, bit_or, max, nat_lt, IsTrue}
use Rattle.std.specs.Int.{bit_not, w64}
use Rattle.std.proofs.lemmas.Bool.{and_parts, and_from, eqb-false, ltb-false, not-true}
use Rattle.std.proofs.lemmas.Nat.{and_mask}
use mathlib.Core.Bool.{not-not}
use prog.Atomic.{either}
use Rattle.nio_base.specs.Kind.{kind_code}
use Rattle.nio_base.specs.declared.kind.Kind.{Kind}
use Rattle.nio_base.specs.declared.kind.Kind.TheVariants.{Stream}
use Rattle.nio_history.proofs.ChannelChanges.{same_channel}
use Rattle.nio_history.specs.Acts.{new_channel, closed_from}
use Rattle.nio_history.specs.Answers.{is_same_channel}
use Rattle.nio_history.specs.Sets.{was_opened}
use Rattle.nio_history.specs.State.{unmade_channel}
use Rattle.nio_history.specs.declared.found.Chan.{Chan as Channel}
use Rattle.nio_words.proofs.Fields.{bit-lt, reads, sets, clears, exchanges, if_ap}
use Rattle.nio_words.specs.Decodings.{is_set, kind_of, chan_of}
use Rattle.nio_words.specs.Encodings.{bit, channel_word}
use Rattle.nio_words.specs.Instructions.{applied}
use Rattle.nio_words.specs.declared.instruction.Instruction.TheVariants.{Exchange}

kind_code-lt : (k : Kind) → kind_code k < 5
kind_code-lt Stream = omega arith
kind_code-lt _ = omega arith

reads_kind : (k : Kind) → kind_of (kind_code k) ≡ k
reads_kind Stream = refl
reads_kind _ = refl

-- the fields of a channel's word
module _ (c : Channel) where
  made-lt : bit c.made < 2
  made-lt = bit-lt c.made

  kind-lt : kind_code c.kind < 5
  kind-lt = kind_code-lt c.kind

  closed-lt : bit c.closed < 2
  closed-lt = bit-lt c.closed

  non_blocking-lt : bit (not c.blocking) < 2
  non_blocking-lt = bit-lt (not c.blocking)

  pub channel_word-lt : c.serial < 2 ^ 32 → channel_word c < 2 ^ 64
  channel_word-lt few = omega (arith, made-lt, kind-lt, closed-lt, non_blocking-lt)

  pub serial-lt : channel_word c < 2 ^ 64 → c.serial < 2 ^ 32
  serial-lt small = omega arith

  pub reads_made : is_set (channel_word c) 0 ≡ c.made
  reads_made = reads (channel_word c) 0 c.made (omega (arith, made-lt, kind-lt, closed-lt, non_blocking-lt))

  reads_closed : is_set (channel_word c) 4 ≡ c.closed
  reads_closed = reads (channel_word c) 4 c.closed (omega (arith, made-lt, kind-lt, closed-lt, non_blocking-lt))

  reads_blocking : not (is_set (channel_word c) 5) ≡ c.blocking
  reads_blocking =
      ap not
      (reads (channel_word c) 5 (not c.blocking) (omega (arith, made-lt, kind-lt, closed-lt, non_blocking-lt)))
      ∙ not-not c.blocking

  reads_serial : channel_word c / 2 ^ 32 ≡ c.serial
  reads_serial = omega (arith, made-lt, kind-lt, closed-lt, non_blocking-lt)

  kind_field : channel_word c / 2 ^ 1 % 8 ≡ kind_code c.kind
  kind_field = omega (arith, made-lt, kind-lt, closed-lt, non_blocking-lt)

  pub reads_channel : chan_of (channel_word c) ≡ c
  reads_channel =
      λ j. record {
        made = reads_made j;
        kind = (ap kind_of kind_field ∙ reads_kind c.kind) j;
        closed = reads_closed j;
        blocking = reads_blocking j;
        serial = reads_serial j;
      }

  pub unblocks_channel : bit_or (channel_word c) 32 ≡ channel_word (record c { blocking = false })
  unblocks_channel =
      let fields : channel_word c ≡ (2 ^ 26 * c.serial * 2 + bit (not c.blocking)) * 2 ^ 5
      + (bit c.made + 2 * kind_code c.kind + 16 * bit c.closed) = omega arith in
      ap (λ (n : ℕ). bit_or n 32) fields
      ∙ (sets 5 (2 ^ 26 * c.serial) (bit c.made + 2 * kind_code c.kind + 16 * bit c.closed) (not c.blocking)
      (omega (arith, made-lt, kind-lt, closed-lt)) ∙ omega arith)

  pub blocks_channel : c.serial < 2 ^ 32
      → bit_and (channel_word c) (bit_not w64 32) ≡ channel_word (record c { blocking = true })
  blocks_channel few =
      let fields : channel_word c ≡ (2 ^ 26 * c.serial * 2 + bit (not c.blocking)) * 2 ^ 5
      + (bit c.made + 2 * kind_code c.kind + 16 * bit c.closed) = omega arith in
      let small : 2 ^ 26 * c.serial % 2 ^ 58 ≡ 2 ^ 26 * c.serial = omega arith in
      ap (λ (n : ℕ). bit_and n (bit_not w64 32)) fields
      ∙ (clears 5 (2 ^ 26 * c.serial) (2 ^ 58 - 1) (bit c.made + 2 * kind_code c.kind + 16 * bit c.closed)
      (not c.blocking) (omega (arith, made-lt, kind-lt, closed-lt)) (omega (arith, made-lt, kind-lt, closed-lt))
      (and_mask (2 ^ 26 * c.serial) 58 ∙ small) ∙ omega arith)

made_some : (c : Channel) → c.made ≡ true → channel_word c ≢ 0
made_some c is e = let one : bit c.made ≡ 1 = ap bit is in omega arith

pub makes_channel : (c : Channel) (kind : Kind) → (c.made ≡ false → c ≡ unmade_channel)
    → applied (Exchange 0 (channel_word (new_channel kind 0))) (channel_word c)
    ≡ channel_word (if is_set (channel_word c) 0 then c else new_channel kind 0)
makes_channel c kind bare =
    exchanges (channel_word c) (channel_word (new_channel kind 0)) c.made (made_some c) (λ e. ap channel_word (bare e))
    ∙ (if_ap channel_word c.made c (new_channel kind 0)
    ∙ ap (λ b. channel_word (if b then c else new_channel kind 0)) (sym (reads_made c)))

-- ---- a closing: of two channels of one kind, of which the found one isn't the earlier, the greater word is that of
-- the found one after the closing

later_word : (from found : Channel) → from.serial < found.serial
    → max (channel_word found) (channel_word (record from { closed = true })) ≡ channel_word found
later_word from found later =
    let a = made-lt from in
    let k = kind-lt from in
    let n = non_blocking-lt from in
    omega arith

-- of the same serial
module _ (from found : Channel) (made : from.made ≡ true) (found_made : found.made ≡ true)
    (kind : from.kind ≡ found.kind) (serial : found.serial ≡ from.serial) where
  same_low : bit found.made + 2 * kind_code found.kind ≡ bit from.made + 2 * kind_code from.kind
  same_low = ap (λ b. bit b + 2 * kind_code found.kind) (found_made ∙ sym made)
      ∙ ap (λ (k : Kind). bit from.made + 2 * kind_code k) (sym kind)

  same_word : (blocking was : Bool) → found.blocking ≡ blocking → from.blocking ≡ was
      → max (channel_word found) (channel_word (record from { closed = true }))
      ≡ channel_word (if blocking || not was then record found { closed = true; blocking = from.blocking } else found)
  same_word true was is is' =
      let a : bit (not found.blocking) ≡ 0 = ap (λ b. bit (not b)) is in
      let c = closed-lt found in
      omega (arith, same_low)
  same_word false false is is' =
      let a : bit (not from.blocking) ≡ 1 = ap (λ b. bit (not b)) is' in
      let b = non_blocking-lt found in
      let c = closed-lt found in
      omega (arith, same_low)
  same_word false true is is' =
      let a : bit (not from.blocking) ≡ 0 = ap (λ b. bit (not b)) is' in
      let b : bit (not found.blocking) ≡ 1 = ap (λ b. bit (not b)) is in
      omega (arith, same_low)

pub closes_channel : (from found : Channel) → from.made ≡ true → from.kind ≡ found.kind
    → IsTrue (was_opened found from.serial)
    → max (channel_word found) (channel_word (record from { closed = true })) ≡ channel_word (closed_from from found)
closes_channel from found made kind was = by_test (found.serial == from.serial) refl
  where
    opened : (found.made ≡ true) × (not (nat_lt found.serial from.serial) ≡ true)
    opened = and_parts found.made (not (nat_lt found.serial from.serial)) was

    by_test : (b : Bool) → (found.serial == from.serial) ≡ b
        → max (channel_word found) (channel_word (record from { closed = true }))
        ≡ channel_word (closed_from from found)
    by_test true e =
        same_word from found made opened.0 kind (eqb-true found.serial from.serial e) found.blocking from.blocking refl
        refl
        ∙ ap (λ b. channel_word
        (if b && (found.blocking || not from.blocking)
        then record found { closed = true; blocking = from.blocking } else found)) (sym e)
    by_test false e =
        let other : found.serial ≢ from.serial = eqb-false found.serial from.serial e in
        let not_lower : from.serial ≤ found.serial = ltb-false found.serial from.serial
        (not-true (nat_lt found.serial from.serial) opened.1) in
        later_word from found (omega arith)
        ∙ ap (λ b. channel_word
        (if b && (found.blocking || not from.blocking)
        then record found { closed = true; blocking = from.blocking } else found)) (sym e)

-- ---- the number of a closed channel is given to a new one

beq-same : (b : Bool) → beq b b ≡ true
beq-same true = refl
beq-same false = refl

-- two channels have the same word where they are the same
pub same_words : (x y : Channel) → (channel_word x == channel_word y) ≡ is_same_channel x y
same_words x y = by_test (is_same_channel x y) refl
  where
    itself : is_same_channel x x ≡ true
    itself =
        and_from _ _
        (and_from _ _
        (and_from _ _ (and_from _ _ (beq-same x.made) (eq-eqb (kind_code x.kind) (kind_code x.kind) refl))
        (beq-same x.closed)) (beq-same x.blocking)) (eq-eqb x.serial x.serial refl)

    other : channel_word x ≡ channel_word y → is_same_channel x y ≡ true
    other same =
        let is : x ≡ y = sym (reads_channel x) ∙ (ap chan_of same ∙ reads_channel y) in
        subst (λ z. is_same_channel x z ≡ true) is itself

    by_test : (b : Bool) → is_same_channel x y ≡ b → (channel_word x == channel_word y) ≡ b
    by_test true e = eq-eqb (channel_word x) (channel_word y) (ap channel_word (same_channel x y e))
    by_test false e =
        ne_eqb (channel_word x) (channel_word y) (λ same. let clash : true ≡ false = sym (other same) ∙ e in cc)

pub exchanges_channel : (b : Bool) (stands made : Channel)
    → either b (channel_word made) (channel_word stands) ≡ channel_word (if not b then stands else made)
exchanges_channel true stands made = refl
exchanges_channel false stands made = refl
