-- How a direction keeps its flow: all that was taken in a trace, and the last of it in the buffer.
use Rattle.std.specs.Prelude.{◌≡◌, ℕ, ◌-◌, ◌≤◌, List, [], ◌++◌, length, take, Bool, IsTrue}
use Rattle.circular_buffer.specs.Buffer.{Buffer}

-- what was taken, but for the items that the buffer has at its end
abbrev pub written_of : List ℕ → List ℕ → List ℕ
written_of taken items = take (length taken - length items) taken

pub record IsKept (taken : List ℕ) (buffer : Buffer ℕ) (ended shut : Bool) : Type 0 where
  pub whole : taken ≡ written_of taken buffer.items ++ buffer.items
  pub capacity : buffer.capacity ≡ 16384
  pub few_buffered : length buffer.items ≤ 16384
  pub shut_after_end : IsTrue shut → IsTrue ended
  pub shut_empty : IsTrue shut → buffer.items ≡ []
