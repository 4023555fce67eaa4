-- What reading and writing answer, by how many bytes went over.
use Rattle.std.specs.Prelude.{ℕ, ◌==◌, Bool, true, false, if◌then◌else◌, nat_lt, Result, Ok, Err}
use Rattle.nio_steps.specs.declared.refusal.PipeError.{PipeError}
use Rattle.nio_steps.specs.declared.refusal.PipeError.TheVariants.{ClosedChannel, ClosedByInterrupt, AsynchronousClose}
use Rattle.nio_steps.specs.declared.refusal.PipeError.TheVariants.{BrokenPipe}
use Rattle.nio_pipe.specs.declared.answers.PipeRead.{PipeRead}
use Rattle.nio_pipe.specs.declared.answers.PipeWrite.{PipeWrite}

-- a read into a slice of this length that gave so many bytes; with none to give it answers End where the pipe is
-- sealed
abbrev pub read_answer : ℕ → ℕ → Bool → PipeRead
read_answer length given sealed =
    if length == 0 then PipeRead.Bytes 0 else
    (if nat_lt 0 given then PipeRead.Bytes given else
    (if sealed then PipeRead.End else PipeRead.NotYet))

-- a write of a slice of this length that took so many bytes
abbrev pub write_answer : ℕ → ℕ → PipeWrite
write_answer length taken =
    if length == 0 then PipeWrite.Bytes 0 else
    (if nat_lt 0 taken then PipeWrite.Bytes taken else PipeWrite.NotYet)

-- how many bytes a read gave
abbrev pub bytes_read : Result PipeRead PipeError → ℕ
bytes_read (Ok (PipeRead.Bytes n)) = n
bytes_read (Ok PipeRead.End) = 0
bytes_read (Ok PipeRead.NotYet) = 0
bytes_read (Err refusal) = 0

-- how many bytes a write took
abbrev pub bytes_written : Result PipeWrite PipeError → ℕ
bytes_written (Ok (PipeWrite.Bytes n)) = n
bytes_written (Ok PipeWrite.NotYet) = 0
bytes_written (Err refusal) = 0

-- the sink's channel was found closed, or was closed by this call: the sink then leaves its seal
abbrev pub leaves_seal : Result PipeWrite PipeError → Bool
leaves_seal (Ok (PipeWrite.Bytes n)) = false
leaves_seal (Ok PipeWrite.NotYet) = false
leaves_seal (Err ClosedChannel) = true
leaves_seal (Err ClosedByInterrupt) = true
leaves_seal (Err AsynchronousClose) = true
leaves_seal (Err BrokenPipe) = false

-- no byte was read, and more may come
abbrev pub read_waits : Result PipeRead PipeError → Bool
read_waits (Ok (PipeRead.Bytes n)) = false
read_waits (Ok PipeRead.End) = false
read_waits (Ok PipeRead.NotYet) = true
read_waits (Err refusal) = false

-- no byte was written, for want of a free place
abbrev pub write_waits : Result PipeWrite PipeError → Bool
write_waits (Ok (PipeWrite.Bytes n)) = false
write_waits (Ok PipeWrite.NotYet) = true
write_waits (Err refusal) = false

-- A call that waited is refused so: a channel that was found open before was closed by another caller meanwhile.
abbrev pub refusal_after : Bool → PipeError → PipeError
refusal_after false refusal = refusal
refusal_after true ClosedChannel = AsynchronousClose
refusal_after true ClosedByInterrupt = ClosedByInterrupt
refusal_after true AsynchronousClose = AsynchronousClose
refusal_after true BrokenPipe = BrokenPipe

-- A call that answers with the mode, true for blocking, that it found its channel in: the mode or the refusal, and the
-- answer of the same call without the mode.

abbrev pub mode_found : {A : Type 0} → Result (A × Bool) PipeError → Result Bool PipeError
mode_found (Ok found) = Ok found.1
mode_found (Err refusal) = Err refusal

abbrev pub without_mode : {A : Type 0} → Result (A × Bool) PipeError → Result A PipeError
without_mode (Ok found) = Ok found.0
without_mode (Err refusal) = Err refusal
