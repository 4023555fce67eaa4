-- The kinds of step on a word of free indexes do to it what they do to the free indexes.
use Rattle.std.proofs.Common.{◌≡◌, ◌≢◌, ℕ, ◌+◌, ◌*◌, ◌/◌, ◌%◌, ◌<◌, ◌==◌, Bool, true, false, cond, ◌&&◌, refl, ap, sym}
use Rattle.std.proofs.Common.{◌∙◌, arith, eqb-true, eq-eqb, ne_eqb}
use Rattle.std.specs.Int.{bit_not, w64}
use Rattle.std.proofs.lemmas.Bool.{eqb-false, and_from}
use Rattle.std.proofs.lemmas.Nat.{or_lt, and_le_l}
use Rattle.nio_base.specs.declared.limits.Limits.{Limits}
use Rattle.nio_base.specs.declared.numbers.CallerNo.{CallerNo}
use Rattle.nio_base.specs.declared.numbers.SelNo.{SelNo}
use Rattle.nio_history.specs.Answers.{bits_below}
use Rattle.nio_history.specs.Conditions.{IsKey, IsSelector}
use Rattle.nio_history.specs.Questions.{flag}
use Rattle.nio_history.specs.State.{put, put_at}
use Rattle.nio_history.specs.declared.act.Act.TheVariants.{LookFree, PutFree, TakeFree}
use Rattle.nio_words.proofs.Bits.{reads_bit, sets_bit, clears_bit, one_bit-lt, bits_below-same}
use Rattle.nio_words.specs.Decodings.{is_set}
use Rattle.nio_words.specs.Instructions.{one_bit}
use Rattle.nio_words.specs.Moves.{Moves}
use Rattle.nio_words.specs.Places.{free_words}
use Rattle.nio_words.specs.declared.instruction.Instruction.TheVariants.{Load, SetBit, ClearBit}
use Rattle.nio_words.specs.declared.part.Part.TheVariants.{Free}
use Rattle.nio_words.proofs.Looks.{looks}

-- an index is below the limit where its word is one of the selector's
pub word_within : (l : Limits) (i : ℕ) → i < l.keys → i / 64 < free_words l
word_within l i below = omega arith

-- the bits of the word of index i, where i becomes free or not
pub one_changed : (free : ℕ → ℕ → Bool) (s i : ℕ) (x : Bool) (b : ℕ) → b < 64
    → put (λ b'. free s (64 * (i / 64) + b')) (i % 64) x b ≡ put_at free s i x s (64 * (i / 64) + b)
one_changed free s i x b below = by_test (b == i % 64) refl
  where
    by_test : (t : Bool) → (b == i % 64) ≡ t
        → cond t x (free s (64 * (i / 64) + b)) ≡ put_at free s i x s (64 * (i / 64) + b)
    by_test true e =
        let same : b ≡ i % 64 = eqb-true b (i % 64) e in
        let here : 64 * (i / 64) + b ≡ i = omega arith in
        ap (λ t. cond t x (free s (64 * (i / 64) + b)))
        (sym (and_from (s == s) (64 * (i / 64) + b == i) (eq-eqb s s refl) (eq-eqb (64 * (i / 64) + b) i here)))
    by_test false e =
        let ne : b ≢ i % 64 = eqb-false b (i % 64) e in
        let other : 64 * (i / 64) + b ≢ i = λ here. ne (omega arith) in
        ap (λ t. cond t x (free s (64 * (i / 64) + b)))
        (sym (ap (λ t. t && (64 * (i / 64) + b == i)) (eq-eqb s s refl) ∙ ne_eqb (64 * (i / 64) + b) i other))

pub word_changed : (free : ℕ → ℕ → Bool) (s i : ℕ) (x : Bool)
    → bits_below 64 (put (λ b. free s (64 * (i / 64) + b)) (i % 64) x)
    ≡ bits_below 64 (λ b. put_at free s i x s (64 * (i / 64) + b))
word_changed free s i x = bits_below-same 64 _ _ (one_changed free s i x)

pub look_free_moves : (l : Limits) (me : CallerNo) (s : SelNo) (j : ℕ) → IsSelector l s → 64 * j < l.keys
    → Moves l me (Free s.0 j) Load (λ n. LookFree s j n)
look_free_moves l me s j is_selector below =
    looks (is_selector, omega arith) (λ n. refl) (λ st n. refl) (λ st n proper. proper)
    (λ st now. refl)

pub put_free_moves : (l : Limits) (me : CallerNo) (s : SelNo) (i : ℕ) → IsKey l s i
    → Moves l me (Free s.0 (i / 64)) (SetBit (i % 64)) (λ n. PutFree s i)
put_free_moves l me s i is_key = record {
  within = (is_key.0, word_within l i is_key.1);
  bit = omega arith;
  part = λ n. refl;
  word = λ st now. sets_bit (λ b. st.free s.0 (64 * (i / 64) + b)) (i % 64) (omega arith)
      ∙ word_changed st.free s.0 i true;
  small = λ n small. or_lt 64 n (one_bit (i % 64)) small (one_bit-lt (i % 64));
  proper = λ st now. tt;
  answers = λ st now. refl;
}

pub take_free_moves : (l : Limits) (me : CallerNo) (s : SelNo) (i : ℕ) → IsKey l s i
    → Moves l me (Free s.0 (i / 64)) (ClearBit (i % 64)) (λ n. TakeFree s i (is_set n (i % 64)))
take_free_moves l me s i is_key = record {
  within = (is_key.0, word_within l i is_key.1);
  bit = omega arith;
  part = λ n. refl;
  word = λ st now. clears_bit (λ b. st.free s.0 (64 * (i / 64) + b)) (i % 64) (omega arith)
      ∙ word_changed st.free s.0 i false;
  small = λ n small. let less = and_le_l n (bit_not w64 (one_bit (i % 64))) in omega arith;
  proper = λ st now. tt;
  answers = λ st now. ap flag (reads_bit (λ b. st.free s.0 (64 * (i / 64) + b)) (i % 64) (omega arith)
      ∙ ap (st.free s.0) (omega arith));
}
