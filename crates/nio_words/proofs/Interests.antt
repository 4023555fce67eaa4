-- The kinds of step on an interest set's word do to it what they do to the set.
use Rattle.std.proofs.Common.{◌≡◌, ℕ, ◌<◌, refl, ap, sym, arith}
use Rattle.std.specs.Prelude.{bit_and, bit_or}
use Rattle.std.proofs.lemmas.Nat.{or_lt, and_le_l}
use Rattle.nio_base.specs.declared.limits.Limits.{Limits}
use Rattle.nio_base.specs.declared.numbers.CallerNo.{CallerNo}
use Rattle.nio_base.specs.declared.numbers.SelNo.{SelNo}
use Rattle.nio_history.proofs.Put.{put_at-same}
use Rattle.nio_history.specs.Conditions.{IsKey}
use Rattle.nio_history.specs.Questions.{operations}
use Rattle.nio_history.specs.declared.act.Act.TheVariants.{LookInterest, SwapInterest, OrInterest, AndInterest}
use Rattle.nio_words.specs.Decodings.{operations_of}
use Rattle.nio_words.specs.Moves.{Moves}
use Rattle.nio_words.specs.declared.instruction.Instruction.TheVariants.{Load, Or, And, Swap}
use Rattle.nio_words.specs.declared.part.Part.TheVariants.{Interest}
use Rattle.nio_words.proofs.Looks.{looks}

reads_operations : (n : ℕ) → n < 256 → operations_of n ≡ n
reads_operations n small = omega arith

pub look_interest_moves : (l : Limits) (me : CallerNo) (s : SelNo) (i : ℕ) → IsKey l s i
    → Moves l me (Interest s.0 i) Load (λ n. LookInterest s i (operations_of n))
look_interest_moves l me s i is_key =
    looks is_key (λ n. refl) (λ st n. refl) (λ st n proper. proper)
    (λ st now. ap operations (reads_operations (st.interest s.0 i) now.small))

pub swap_interest_moves : (l : Limits) (me : CallerNo) (s : SelNo) (i ops : ℕ) → IsKey l s i → ops < 256
    → Moves l me (Interest s.0 i) (Swap ops) (λ n. SwapInterest s i ops (operations_of n))
swap_interest_moves l me s i ops is_key fits = record {
  within = is_key;
  bit = tt;
  part = λ n. refl;
  word = λ st now. sym (put_at-same st.interest s.0 i ops);
  small = λ n small. fits;
  proper = λ st now. tt;
  answers = λ st now. ap operations (reads_operations (st.interest s.0 i) now.small);
}

pub or_interest_moves : (l : Limits) (me : CallerNo) (s : SelNo) (i ops : ℕ) → IsKey l s i → ops < 256
    → Moves l me (Interest s.0 i) (Or ops) (λ n. OrInterest s i ops (operations_of n))
or_interest_moves l me s i ops is_key fits = record {
  within = is_key;
  bit = tt;
  part = λ n. refl;
  word = λ st now. sym (put_at-same st.interest s.0 i (bit_or (st.interest s.0 i) ops));
  small = λ n small. or_lt 8 n ops small fits;
  proper = λ st now. tt;
  answers = λ st now. ap operations (reads_operations (st.interest s.0 i) now.small);
}

pub and_interest_moves : (l : Limits) (me : CallerNo) (s : SelNo) (i ops : ℕ) → IsKey l s i
    → Moves l me (Interest s.0 i) (And ops) (λ n. AndInterest s i ops (operations_of n))
and_interest_moves l me s i ops is_key = record {
  within = is_key;
  bit = tt;
  part = λ n. refl;
  word = λ st now. sym (put_at-same st.interest s.0 i (bit_and (st.interest s.0 i) ops));
  small = λ n small. let less = and_le_l n ops in omega arith;
  proper = λ st now. tt;
  answers = λ st now. ap operations (reads_operations (st.interest s.0 i) now.small);
}
