-- The kinds of step on the selectors' word do to it what they do to the selectors.
use Rattle.std.proofs.Common.{◌<◌, refl, ap}
use Rattle.std.proofs.lemmas.Nat.{or_lt}
use Rattle.nio_base.specs.declared.limits.Limits.{Limits}
use Rattle.nio_base.specs.declared.numbers.CallerNo.{CallerNo}
use Rattle.nio_base.specs.declared.numbers.SelNo.{SelNo}
use Rattle.nio_history.specs.Questions.{flag}
use Rattle.nio_history.specs.declared.act.Act.TheVariants.{MakeSelector, LookSelectors}
use Rattle.nio_words.proofs.Bits.{reads_bit, sets_bit, one_bit-lt}
use Rattle.nio_words.specs.Decodings.{is_set}
use Rattle.nio_words.specs.Instructions.{one_bit}
use Rattle.nio_words.specs.Moves.{Moves}
use Rattle.nio_words.specs.declared.instruction.Instruction.TheVariants.{Load, SetBit}
use Rattle.nio_words.specs.declared.part.Part.TheVariants.{Selectors}
use Rattle.nio_words.proofs.Looks.{looks}

pub make_selector_moves : (l : Limits) (me : CallerNo) (s : SelNo) → s.0 < 64
    → Moves l me Selectors (SetBit s.0) (λ n. MakeSelector s (is_set n s.0))
make_selector_moves l me s below = record {
  within = tt;
  bit = below;
  part = λ n. refl;
  word = λ st now. sets_bit st.selector s.0 below;
  small = λ n small. or_lt 64 n (one_bit s.0) small (one_bit-lt s.0);
  proper = λ st now. tt;
  answers = λ st now. ap flag (reads_bit st.selector s.0 below);
}

pub look_selectors_moves : (l : Limits) (me : CallerNo) → Moves l me Selectors Load (λ n. LookSelectors n)
look_selectors_moves l me =
    looks tt (λ n. refl) (λ st n. refl) (λ st n proper. proper)
    (λ st now. refl)
