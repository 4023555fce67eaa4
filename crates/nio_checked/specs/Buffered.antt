-- Bytes that were read and are still to be written.
use Rattle.std.specs.Prelude.{◌≡◌, ℕ, ◌≤◌, List, ◌++◌, length, drop}
use Rattle.nio_link.specs.declared.net.Got.{Got}
use Rattle.nio_link.specs.declared.net.Got.TheVariants as got
use Rattle.nio_link.specs.declared.net.Put.{Put}
use Rattle.nio_link.specs.declared.net.Put.TheVariants as put
use Rattle.circular_buffer.specs.Buffer.{Buffer}

-- how many bytes a read gave
abbrev pub count_got : Got → ℕ
count_got (got.Bytes n) = n
count_got got.End = 0
count_got got.NotYet = 0

-- a read gave at least one byte, and no more than there was room for
abbrev pub IsGotBy : ℕ → Got → Type 0
IsGotBy room (got.Bytes n) = (1 ≤ n) × (n ≤ room)
IsGotBy room got.End = Unit {0}
IsGotBy room got.NotYet = Unit {0}

-- how many bytes a write took
abbrev pub count_put : Put → ℕ
count_put (put.Bytes n) = n
count_put put.NotYet = 0

-- the bytes that came to a buffer, behind those that it had
abbrev pub came_to : Buffer ℕ → Buffer ℕ → List ℕ
came_to old new = drop (length old.items) new.items

-- so many bytes came to a buffer; those that it had stay in front of them
pub record Gains (old new : Buffer ℕ) (count : ℕ) : Type 0 where
  pub items : new.items ≡ old.items ++ came_to old new
  pub many : length (came_to old new) ≡ count
  pub capacity : new.capacity ≡ old.capacity

-- so many bytes went from the front of a buffer
pub record Loses (old new : Buffer ℕ) (count : ℕ) : Type 0 where
  pub items : new.items ≡ drop count old.items
  pub capacity : new.capacity ≡ old.capacity
