-- What each atomic instruction makes of its word.
use Rattle.std.specs.Prelude.{ℕ, ◌+◌, ◌-◌, ◌*◌, ◌%◌, ◌^◌, ◌<◌, ◌==◌, Bool, true, false, max, bit_and, bit_or, ⊤}
use Rattle.std.specs.Int.{bit_not, w64}
use prog.Atomic.{either}
use Rattle.nio_words.specs.declared.instruction.Instruction.{Instruction}
use Rattle.nio_words.specs.declared.instruction.Instruction.TheVariants.{Load, SetBit, ClearBit, Or, And, Add, Subtract}
use Rattle.nio_words.specs.declared.instruction.Instruction.TheVariants.{Max, Swap, Exchange}

-- the word that has bit k alone
abbrev pub one_bit : ℕ → ℕ
one_bit k = 1 * 2 ^ k % 2 ^ 64

-- what sets or clears bit k
abbrev pub put_bit : ℕ → Bool → Instruction
put_bit k true = SetBit k
put_bit k false = ClearBit k

abbrev pub applied : Instruction → ℕ → ℕ
applied Load n = n
applied (SetBit k) n = bit_or n (one_bit k)
applied (ClearBit k) n = bit_and n (bit_not w64 (one_bit k))
applied (Or bits) n = bit_or n bits
applied (And bits) n = bit_and n bits
applied (Add k) n = (n + k) % 2 ^ 64
applied (Subtract k) n = (n + (2 ^ 64 - k)) % 2 ^ 64
applied (Max k) n = max n k
applied (Swap new) n = new
applied (Exchange old new) n = either (n == old) new n

-- a word has 64 bits
abbrev pub IsInWord : Instruction → Type 0
IsInWord Load = ⊤
IsInWord (SetBit k) = k < 64
IsInWord (ClearBit k) = k < 64
IsInWord (Or bits) = ⊤
IsInWord (And bits) = ⊤
IsInWord (Add k) = ⊤
IsInWord (Subtract k) = ⊤
IsInWord (Max k) = ⊤
IsInWord (Swap new) = ⊤
IsInWord (Exchange old new) = ⊤

-- the bit that it is on, or the number that it brings: of an exchange the new word; 0 of a load
abbrev pub operand : Instruction → ℕ
operand Load = 0
operand (SetBit k) = k
operand (ClearBit k) = k
operand (Or bits) = bits
operand (And bits) = bits
operand (Add k) = k
operand (Subtract k) = k
operand (Max k) = k
operand (Swap new) = new
operand (Exchange old new) = new
