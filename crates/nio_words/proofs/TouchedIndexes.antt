-- The kinds of step on a word of touched indexes do to it what they do to the touched indexes.
use Rattle.std.proofs.Common.{◌≡◌, ℕ, ◌+◌, ◌*◌, ◌/◌, ◌%◌, ◌<◌, ◌==◌, Bool, true, false, cond, ◌&&◌, refl, ap, sym, ◌∙◌}
use Rattle.std.proofs.Common.{arith, eq-eqb}
use Rattle.std.proofs.lemmas.Bool.{and_from}
use Rattle.std.proofs.lemmas.Nat.{or_lt}
use Rattle.nio_base.specs.declared.limits.Limits.{Limits}
use Rattle.nio_base.specs.declared.numbers.CallerNo.{CallerNo}
use Rattle.nio_base.specs.declared.numbers.SelNo.{SelNo}
use Rattle.nio_history.specs.Answers.{bits_below}
use Rattle.nio_history.specs.Conditions.{IsKey, IsSelector}
use Rattle.nio_history.specs.Questions.{flag}
use Rattle.nio_history.specs.declared.act.Act.TheVariants.{Touch, LookTouched, TakeTouched}
use Rattle.nio_words.proofs.Bits.{reads_bit, sets_bit, one_bit-lt, bits_below-same, bits_below-none}
use Rattle.nio_words.proofs.FreeIndexes.{word_within, word_changed}
use Rattle.nio_words.proofs.Looks.{looks}
use Rattle.nio_words.specs.Decodings.{is_set}
use Rattle.nio_words.specs.Instructions.{one_bit}
use Rattle.nio_words.specs.Moves.{Moves}
use Rattle.nio_words.specs.declared.instruction.Instruction.TheVariants.{Load, SetBit, Swap}
use Rattle.nio_words.specs.declared.part.Part.TheVariants.{Touched}

pub touch_moves : (l : Limits) (me : CallerNo) (s : SelNo) (i : ℕ) → IsKey l s i
    → Moves l me (Touched s.0 (i / 64)) (SetBit (i % 64)) (λ n. Touch s i (is_set n (i % 64)))
touch_moves l me s i is_key = record {
  within = (is_key.0, word_within l i is_key.1);
  bit = omega arith;
  part = λ n. refl;
  word = λ st now. sets_bit (λ b. st.touched s.0 (64 * (i / 64) + b)) (i % 64) (omega arith)
      ∙ word_changed st.touched s.0 i true;
  small = λ n small. or_lt 64 n (one_bit (i % 64)) small (one_bit-lt (i % 64));
  proper = λ st now. tt;
  answers = λ st now. ap flag (reads_bit (λ b. st.touched s.0 (64 * (i / 64) + b)) (i % 64) (omega arith)
      ∙ ap (st.touched s.0) (omega arith));
}

pub look_touched_moves : (l : Limits) (me : CallerNo) (s : SelNo) (j : ℕ) → IsSelector l s → 64 * j < l.keys
    → Moves l me (Touched s.0 j) Load (λ n. LookTouched s j n)
look_touched_moves l me s j is_selector below =
    looks (is_selector, omega arith) (λ n. refl) (λ st n. refl) (λ st n proper. proper)
    (λ st now. refl)

-- the bits of 64 indexes none of which is touched any more
none_left : (touched : ℕ → ℕ → Bool) (s j : ℕ)
    → 0 ≡ bits_below 64 (λ b. cond ((s == s) && ((64 * j + b) / 64 == j)) false (touched s (64 * j + b)))
none_left touched s j =
    sym (bits_below-same 64 _ (λ _. false) (λ b below.
    ap (λ t. cond t false (touched s (64 * j + b)))
    (and_from (s == s) ((64 * j + b) / 64 == j) (eq-eqb s s refl) (eq-eqb ((64 * j + b) / 64) j (omega arith))))
    ∙ bits_below-none 64)

pub take_touched_moves : (l : Limits) (me : CallerNo) (s : SelNo) (j : ℕ) → IsSelector l s → 64 * j < l.keys
    → Moves l me (Touched s.0 j) (Swap 0) (λ n. TakeTouched s j n)
take_touched_moves l me s j is_selector below = record {
  within = (is_selector, omega arith);
  bit = tt;
  part = λ n. refl;
  word = λ st now. none_left st.touched s.0 j;
  small = λ n small. omega arith;
  proper = λ st now. tt;
  answers = λ st now. refl;
}
