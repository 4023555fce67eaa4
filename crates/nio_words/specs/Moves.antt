-- What each kind of step owes.
use Rattle.std.specs.Prelude.{◌≡◌, ℕ, ◌<◌, List}
use Rattle.nio_base.specs.declared.limits.Limits.{Limits}
use Rattle.nio_base.specs.declared.numbers.CallerNo.{CallerNo}
use Rattle.nio_history.specs.Acts.{effect}
use Rattle.nio_history.specs.Answers.{Answers}
use Rattle.nio_history.specs.Conditions.{Condition}
use Rattle.nio_history.specs.Histories.{state_after, mine, IsLegal}
use Rattle.nio_history.specs.State.{State}
use Rattle.nio_history.specs.declared.act.Act.{Act}
use Rattle.nio_history.specs.declared.event.Event.{Event}
use Rattle.nio_words.specs.Encodings.{encoding, bound, IsProper}
use Rattle.nio_words.specs.Instructions.{applied, IsInWord}
use Rattle.nio_words.specs.Parts.{part_of}
use Rattle.nio_words.specs.Places.{IsWithin}
use Rattle.nio_words.specs.declared.instruction.Instruction.{Instruction}
use Rattle.nio_words.specs.declared.part.Part.{Part}

-- a moment at which `me` may do it: a legal history leaves this state
pub record IsMoment (l : Limits) (me : CallerNo) (p : Part) (act : ℕ → Act) (st : State) : Type 0 where
  pub past : List Event
  pub legal : IsLegal l past
  pub leaves : state_after past ≡ st
  pub condition : (n : ℕ) → Condition l (mine me past) st me (act n)
  pub small : encoding st p < bound p
  pub proper : IsProper st p

-- What a kind of step owes: at each such moment its instruction does to the word of its part what
-- its act does to that part, and it finds what the act finds.
pub record Moves (l : Limits) (me : CallerNo) (p : Part) (instruction : Instruction) (act : ℕ → Act) : Type 0 where
  pub within : IsWithin l p
  pub bit : IsInWord instruction
  pub part : (n : ℕ) → part_of (act n) ≡ p
  pub word : (st : State) → IsMoment l me p act st
      → applied instruction (encoding st p) ≡ encoding (effect st me (act (encoding st p))) p
  pub small : (n : ℕ) → n < bound p → applied instruction n < bound p
  pub proper : (st : State) → IsMoment l me p act st → IsProper (effect st me (act (encoding st p))) p
  pub answers : (st : State) → IsMoment l me p act st → Answers st me (act (encoding st p))
