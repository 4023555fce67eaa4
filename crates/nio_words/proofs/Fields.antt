-- Fields of a word: reading a bit, setting and clearing it, and exchanging a word that is 0.
use Rattle.std.proofs.Common.{◌≡◌, ◌≢◌, ℕ, ◌+◌, ◌-◌, ◌*◌, ◌/◌, ◌%◌, ◌^◌, ◌<◌, ◌==◌, Bool, true, false, if◌then◌else◌}
use Rattle.std.proofs.Common.{Option, Some, None, refl, ap, ◌∙◌, arith, ne_eqb}
use Rattle.std.specs.Prelude.{bit_and, bit_or}
use Rattle.std.proofs.lemmas.Nat.{pow_pos, or_comm, or_block, and_block, and_mask}
use prog.Atomic.{either}
use Rattle.std.specs.Option.{IfSome}
use Rattle.nio_base.specs.declared.numbers.CallerNo.{CallerNo}
use Rattle.nio_base.specs.declared.numbers.KeyId.{KeyId}
use Rattle.nio_history.specs.Acts.{taken_by}
use Rattle.nio_words.specs.Decodings.{is_set, holder_of, enrolled_of, number_of}
use Rattle.nio_words.specs.Encodings.{bit, holder_word, enrolled_word}
use Rattle.nio_words.specs.Instructions.{applied}
use Rattle.nio_words.specs.declared.instruction.Instruction.TheVariants.{Exchange}

pub bit-lt : (b : Bool) → bit b < 2
bit-lt true = omega arith
bit-lt false = omega arith

test_of : (b : Bool) → (bit b == 1) ≡ b
test_of true = refl
test_of false = refl

-- a bit of a word is read
pub reads : (w k : ℕ) (b : Bool) → w / 2 ^ k % 2 ≡ bit b → is_set w k ≡ b
reads w k b e = ap (λ (n : ℕ). n == 1) e ∙ test_of b

-- the lowest bit is set
sets_low : (hi : ℕ) (b : Bool) → bit_or (hi * 2 + bit b) 1 ≡ hi * 2 + 1
sets_low hi true = or_block 1 hi 0 1 1 (omega arith) (omega arith) ∙ ap (λ (n : ℕ). n * 2 + 1) (or_comm hi 0)
sets_low hi false = or_block 1 hi 0 0 1 (omega arith) (omega arith) ∙ ap (λ (n : ℕ). n * 2 + 1) (or_comm hi 0)

-- a bit is set, and the others are as they were
pub sets : (k hi lo : ℕ) (b : Bool) → lo < 2 ^ k
    → bit_or ((hi * 2 + bit b) * 2 ^ k + lo) (1 * 2 ^ k + 0) ≡ (hi * 2 + 1) * 2 ^ k + lo
sets k hi lo b small =
    or_block k (hi * 2 + bit b) 1 lo 0 small (pow_pos k)
    ∙ (ap (λ (n : ℕ). n * 2 ^ k + bit_or lo 0) (sets_low hi b)
    ∙ ap (λ (n : ℕ). (hi * 2 + 1) * 2 ^ k + n) (or_comm lo 0))

-- the lowest bit is cleared
clears_low : (hi mask : ℕ) (b : Bool) → bit_and hi mask ≡ hi → bit_and (hi * 2 + bit b) (mask * 2 + 0) ≡ hi * 2 + 0
clears_low hi mask b all =
    and_block 1 hi mask (bit b) 0 (bit-lt b) (omega arith)
    ∙ (ap (λ (n : ℕ). n * 2 + bit_and (bit b) 0) all ∙ ap (λ (n : ℕ). hi * 2 + n) (none_of b))
  where
    none_of : (x : Bool) → bit_and (bit x) 0 ≡ 0
    none_of true = refl
    none_of false = refl

-- a bit is cleared, and the others are as they were: those above it are among the bits of the mask
pub clears : (k hi mask lo : ℕ) (b : Bool) → lo < 2 ^ k → lo % 2 ^ k ≡ lo → bit_and hi mask ≡ hi
    → bit_and ((hi * 2 + bit b) * 2 ^ k + lo) ((mask * 2 + 0) * 2 ^ k + (2 ^ k - 1)) ≡ (hi * 2 + 0) * 2 ^ k + lo
clears k hi mask lo b small same all =
    and_block k (hi * 2 + bit b) (mask * 2 + 0) lo (2 ^ k - 1) small (let positive = pow_pos k in omega arith)
    ∙ (ap (λ (n : ℕ). n * 2 ^ k + bit_and lo (2 ^ k - 1)) (clears_low hi mask b all)
    ∙ ap (λ (n : ℕ). (hi * 2 + 0) * 2 ^ k + n) (and_mask lo k ∙ same))

-- an exchange of 0 for a new word puts it there where 0 stands there, and else changes nothing
pub exchanges : (w new : ℕ) (was : Bool) → (was ≡ true → w ≢ 0) → (was ≡ false → w ≡ 0)
    → applied (Exchange 0 new) w ≡ (if was then w else new)
exchanges w new true there bare = ap (λ b. either b new w) (ne_eqb w 0 (there refl))
exchanges w new false there bare = ap (λ (n : ℕ). applied (Exchange 0 new) n) (bare refl)

pub if_ap : {A : Type 0} (f : A → ℕ) (b : Bool) (x y : A) → (if b then f x else f y) ≡ f (if b then x else y)
if_ap f true x y = refl
if_ap f false x y = refl

-- ---- who has a hold or a turn, and which key is enrolled

more_than : (n : ℕ) → (n + 1 == 0) ≡ false
more_than n = ne_eqb (n + 1) 0 (λ e. omega arith)

less_again : (n : ℕ) → n + 1 < 2 ^ 32 + 1 → number_of (n + 1 - 1) ≡ n
less_again n small = omega arith

pub reads_holder : (o : Option CallerNo) → holder_word o < 2 ^ 32 + 1 → holder_of (holder_word o) ≡ o
reads_holder None small = refl
reads_holder (Some n) small =
    ap (λ b. if b then None else Some (record { 0 = number_of (n.0 + 1 - 1) })) (more_than n.0)
    ∙ ap (λ (k : ℕ). Some (record { 0 = k })) (less_again n.0 small)

pub reads_enrolled : (o : Option KeyId) → IfSome o (λ k. k.index + 1 < 2 ^ 32) → enrolled_of (enrolled_word o) ≡ o
reads_enrolled None fits = refl
reads_enrolled (Some k) fits =
    let index : number_of (enrolled_word (Some k) - 1) ≡ k.index = omega arith in
    let serial : enrolled_word (Some k) / 2 ^ 32 ≡ k.serial = omega arith in
    ap (λ b. if b then None
    else Some (record { index = number_of (enrolled_word (Some k) - 1); serial = enrolled_word (Some k) / 2 ^ 32 }))
    (ne_eqb (enrolled_word (Some k)) 0 (λ e. omega arith))
    ∙ (λ j. Some (record { index = index j; serial = serial j }))

-- the exchange takes the hold or the turn where nobody has it
pub takes : (me : CallerNo) (o : Option CallerNo)
    → applied (Exchange 0 (holder_word (Some me))) (holder_word o) ≡ holder_word (taken_by me o)
takes me None = refl
takes me (Some n) = exchanges (n.0 + 1) (me.0 + 1) true (λ _ e. omega arith) (λ e. absurd cc)

pub exchange_small : (old new n bound : ℕ) → new < bound → n < bound → applied (Exchange old new) n < bound
exchange_small old new n bound h h' = by_test (n == old)
  where
    by_test : (b : Bool) → either b new n < bound
    by_test true = h
    by_test false = h'
