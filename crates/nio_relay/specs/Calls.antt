-- Runs of calls on a direction, in any order in which they may be made.
use Rattle.std.specs.Prelude.{◌≡◌, ℕ, ◌≤◌, List, [], ◌∷◌, ◌++◌, length, IsTrue}
use mathlib.Core.List.{IsPrefix}
use Rattle.nio_relay.specs.Flow.{Flow, fresh, buffered, MayTake, WantsShut, takes, writes, ends, shuts, fails}

-- a call on a direction: bytes were read, so many were written, the input ended, the output was
-- shut, a fault came
pub data Call : Type 0 where
  reading : List ℕ → Call
  writing : ℕ → Call
  ending : Call
  shutting : Call
  failing : Call

-- whether the call may be made
abbrev pub MayCall : Flow → Call → Type 0
MayCall f (reading bytes) = MayTake f bytes
MayCall f (writing n) = n ≤ length (buffered f)
MayCall f ending = Unit {0}
MayCall f shutting = WantsShut f
MayCall f failing = Unit {0}

-- the flow after the call
abbrev pub after : Flow → Call → Flow
after f (reading bytes) = takes f bytes
after f (writing n) = writes f n
after f ending = ends f
after f shutting = shuts f
after f failing = fails f

-- each of the calls may be made after those before it
abbrev pub MayCallAll : Flow → List Call → Type 0
MayCallAll f [] = Unit {0}
MayCallAll f (c ∷ calls) = MayCall f c × MayCallAll (after f c) calls

abbrev pub after_all : Flow → List Call → Flow
after_all f [] = f
after_all f (c ∷ calls) = after_all (after f c) calls

-- the bytes that a call gave
abbrev pub bytes_given : Call → List ℕ
bytes_given (reading bytes) = bytes
bytes_given (writing n) = []
bytes_given ending = []
bytes_given shutting = []
bytes_given failing = []

-- all bytes that the calls gave, in order
abbrev pub bytes_read : List Call → List ℕ
bytes_read [] = []
bytes_read (c ∷ calls) = bytes_given c ++ bytes_read calls

-- the flow f carries these bytes: it has taken them all, buffers few of them, has written a prefix
-- of them, and once its output is shut it has written them all
pub record Carries (f : Flow) (bytes : List ℕ) : Type 0 where
  pub all_taken : f.taken ≡ bytes
  pub few_buffered : length (buffered f) ≤ 16384
  pub in_order : IsPrefix f.written bytes
  pub whole_at_shut : IsTrue f.shut → f.written ≡ bytes

-- after any calls that may be made on a fresh direction it carries the bytes that they gave. Since
-- what was called up to a moment is such a list too, that holds at every moment
abbrev pub RelayLaw : Type 0
RelayLaw = (calls : List Call) → MayCallAll fresh calls → Carries (after_all fresh calls) (bytes_read calls)
