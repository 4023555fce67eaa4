-- What contracts see of a pipe, and what each call makes of it.
use Rattle.std.specs.Prelude.{◌≡◌, ℕ, ◌-◌, ◌≤◌, List, [], ◌++◌, length, take, drop, Bool, true, false, ◌||◌, IsTrue}
use Rattle.std.specs.Prelude.{Result}
use mathlib.Core.List.{IsPrefix}
use Rattle.nio_base.specs.declared.numbers.ChanId.{ChanId}
use Rattle.nio_steps.specs.declared.refusal.PipeError.{PipeError}
use Rattle.nio_pipe.specs.Answers.{bytes_read, bytes_written, leaves_seal}
use Rattle.nio_pipe.specs.declared.answers.PipeRead.{PipeRead}
use Rattle.nio_pipe.specs.declared.answers.PipeWrite.{PipeWrite}

-- the channels of a pipe; all bytes that were written into it and all that were read from it, in order; whether
-- the sink has left its seal
pub record Pipe : Type 0 where
  pub source : ChanId
  pub sink : ChanId
  pub sent : List ℕ
  pub received : List ℕ
  pub sealed : Bool

-- nothing was written into it yet
abbrev pub new_pipe : ChanId → ChanId → Pipe
new_pipe source sink = record { source = source; sink = sink; sent = []; received = []; sealed = false }

-- the bytes that were written and aren't read yet
abbrev pub waiting : Pipe → List ℕ
waiting pipe = drop (length pipe.received) pipe.sent

-- how many more bytes it can take
abbrev pub room_of : Pipe → ℕ
room_of pipe = 65536 - length (waiting pipe)

-- what was read is a prefix of what was written, and at most 65,536 bytes wait
pub record IsLawful (pipe : Pipe) : Type 0 where
  pub in_order : IsPrefix pipe.received pipe.sent
  pub few_waiting : length (waiting pipe) ≤ 65536

-- the seal was left, and every byte that was written was read
pub record IsAtEnd (pipe : Pipe) : Type 0 where
  pub sealed : IsTrue pipe.sealed
  pub whole : pipe.received ≡ pipe.sent

-- after a read
abbrev pub after_read : Pipe → Result PipeRead PipeError → Pipe
after_read pipe answer = record pipe { received = pipe.received ++ take (bytes_read answer) (waiting pipe) }

-- after a write of a slice
abbrev pub after_write : Pipe → List ℕ → Result PipeWrite PipeError → Pipe
after_write pipe slice answer =
    record pipe { sent = pipe.sent ++ take (bytes_written answer) slice; sealed = pipe.sealed || leaves_seal answer }

-- after its sink was closed
abbrev pub after_end : Pipe → Pipe
after_end pipe = record pipe { sealed = true }
