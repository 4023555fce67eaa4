-- What contracts see of one direction of a relayed connection, and what each call makes of it.
use Rattle.std.specs.Prelude.{◌≡◌, ℕ, ◌-◌, ◌<◌, ◌≤◌, List, [], ◌++◌, length, take, drop, Bool, true, false, IsTrue}
use Rattle.std.specs.Prelude.{IsFalse}
use mathlib.Core.List.{IsPrefix}

-- all bytes that were taken from the one end and all that were written to the other, in order;
-- whether the one end's input has ended, the other end's output was shut, and a fault has come
pub record Flow : Type 0 where
  pub taken : List ℕ
  pub written : List ℕ
  pub ended : Bool
  pub shut : Bool
  pub failed : Bool

-- nothing was relayed yet
abbrev pub fresh : Flow
fresh = record { taken = []; written = []; ended = false; shut = false; failed = false }

-- the bytes that were taken and aren't written yet
abbrev pub buffered : Flow → List ℕ
buffered f = drop (length f.written) f.taken

-- how many more bytes can be taken
abbrev pub room_of : Flow → ℕ
room_of f = 16384 - length (buffered f)

-- what was written is a prefix of what was taken, at most 16,384 bytes are buffered, and the output is shut
-- only after the end of the input, with all of it written
pub record IsLawful (f : Flow) : Type 0 where
  pub in_order : IsPrefix f.written f.taken
  pub few_buffered : length (buffered f) ≤ 16384
  pub shut_after_end : IsTrue f.shut → IsTrue f.ended
  pub shut_whole : IsTrue f.shut → f.written ≡ f.taken

-- bytes can be taken: they fit in the room, and the input has not ended
pub record MayTake (f : Flow) (bytes : List ℕ) : Type 0 where
  pub fit : length bytes ≤ room_of f
  pub not_ended : IsFalse f.ended

-- it asks for bytes, or for the end of the input
pub record WantsRead (f : Flow) : Type 0 where
  pub no_fault : IsFalse f.failed
  pub not_ended : IsFalse f.ended
  pub some_room : 0 < room_of f

-- it asks to have bytes written
pub record WantsWrite (f : Flow) : Type 0 where
  pub no_fault : IsFalse f.failed
  pub some_buffered : 0 < length (buffered f)

-- it asks to have the output shut
pub record WantsShut (f : Flow) : Type 0 where
  pub no_fault : IsFalse f.failed
  pub ended : IsTrue f.ended
  pub none_buffered : buffered f ≡ []
  pub not_shut : IsFalse f.shut

-- after bytes were read
abbrev pub takes : Flow → List ℕ → Flow
takes f bytes = record f { taken = f.taken ++ bytes }

-- after the first n of the buffered bytes were written
abbrev pub writes : Flow → ℕ → Flow
writes f n = record f { written = f.written ++ take n (buffered f) }

-- after the end of the input
abbrev pub ends : Flow → Flow
ends f = record f { ended = true }

-- after the output was shut
abbrev pub shuts : Flow → Flow
shuts f = record f { shut = true }

-- after a fault
abbrev pub fails : Flow → Flow
fails f = record f { failed = true }
