-- A kind of step that looks does nothing to its word, as its act does nothing to the part.
use Rattle.std.proofs.Common.{◌≡◌, ℕ}
use Rattle.nio_base.specs.declared.limits.Limits.{Limits}
use Rattle.nio_base.specs.declared.numbers.CallerNo.{CallerNo}
use Rattle.nio_history.specs.Acts.{effect}
use Rattle.nio_history.specs.Answers.{Answers}
use Rattle.nio_history.specs.State.{State}
use Rattle.nio_history.specs.declared.act.Act.{Act}
use Rattle.nio_words.specs.Encodings.{encoding, IsProper}
use Rattle.nio_words.specs.Moves.{IsMoment, Moves}
use Rattle.nio_words.specs.Parts.{part_of}
use Rattle.nio_words.specs.Places.{IsWithin}
use Rattle.nio_words.specs.declared.instruction.Instruction.TheVariants.{Load}
use Rattle.nio_words.specs.declared.part.Part.{Part}

pub looks : {l : Limits} {me : CallerNo} {p : Part} {act : ℕ → Act} → IsWithin l p → ((n : ℕ) → part_of (act n) ≡ p)
    → ((st : State) (n : ℕ) → encoding st p ≡ encoding (effect st me (act n)) p)
    → ((st : State) (n : ℕ) → IsProper st p → IsProper (effect st me (act n)) p)
    → ((st : State) → IsMoment l me p act st → Answers st me (act (encoding st p))) → Moves l me p Load act
looks {p = p} within part word proper answers = record {
  within = within;
  bit = tt;
  part = part;
  word = λ st now. word st (encoding st p);
  small = λ n small. small;
  proper = λ st now. proper st (encoding st p) now.proper;
  answers = answers;
}
