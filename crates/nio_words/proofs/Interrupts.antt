-- The kinds of step on the interrupts' word do to it what they do to the interrupt statuses.
use Rattle.std.proofs.Common.{◌<◌, refl, ap, arith}
use Rattle.std.specs.Int.{bit_not, w64}
use Rattle.std.proofs.lemmas.Nat.{or_lt, and_le_l}
use Rattle.nio_base.specs.declared.limits.Limits.{Limits}
use Rattle.nio_base.specs.declared.numbers.CallerNo.{CallerNo}
use Rattle.nio_history.specs.Questions.{flag}
use Rattle.nio_history.specs.declared.act.Act.TheVariants.{SetInterrupt, TakeInterrupt, LookInterrupt}
use Rattle.nio_words.proofs.Bits.{reads_bit, sets_bit, clears_bit, one_bit-lt}
use Rattle.nio_words.specs.Decodings.{is_set}
use Rattle.nio_words.specs.Instructions.{one_bit}
use Rattle.nio_words.specs.Moves.{Moves}
use Rattle.nio_words.specs.declared.instruction.Instruction.TheVariants.{Load, SetBit, ClearBit}
use Rattle.nio_words.specs.declared.part.Part.TheVariants.{Interrupts}
use Rattle.nio_words.proofs.Looks.{looks}

pub set_interrupt_moves : (l : Limits) (me target : CallerNo) → target.0 < 64
    → Moves l me Interrupts (SetBit target.0) (λ n. SetInterrupt target (is_set n target.0))
set_interrupt_moves l me target below = record {
  within = tt;
  bit = below;
  part = λ n. refl;
  word = λ st now. sets_bit st.interrupted target.0 below;
  small = λ n small. or_lt 64 n (one_bit target.0) small (one_bit-lt target.0);
  proper = λ st now. tt;
  answers = λ st now. ap flag (reads_bit st.interrupted target.0 below);
}

pub take_interrupt_moves : (l : Limits) (me : CallerNo) → me.0 < 64
    → Moves l me Interrupts (ClearBit me.0) (λ n. TakeInterrupt (is_set n me.0))
take_interrupt_moves l me below = record {
  within = tt;
  bit = below;
  part = λ n. refl;
  word = λ st now. clears_bit st.interrupted me.0 below;
  small = λ n small. let less = and_le_l n (bit_not w64 (one_bit me.0)) in omega arith;
  proper = λ st now. tt;
  answers = λ st now. ap flag (reads_bit st.interrupted me.0 below);
}

pub look_interrupt_moves : (l : Limits) (me : CallerNo) → me.0 < 64
    → Moves l me Interrupts Load (λ n. LookInterrupt (is_set n me.0))
look_interrupt_moves l me below =
    looks tt (λ n. refl) (λ st n. refl) (λ st n proper. proper)
    (λ st now. ap flag (reads_bit st.interrupted me.0 below))
