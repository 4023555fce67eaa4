-- The reply of a line to what a read or a write answers, with the mode that it found its channel in.
use Rattle.std.specs.Prelude.{ℕ, ◌==◌, Bool, if◌then◌else◌, List, take, Result, Ok, Err}
use Rattle.nio_language.specs.declared.reply.Reply.{Reply}
use Rattle.nio_language.specs.declared.reply.Reply.TheVariants as reply
use Rattle.nio_pipe.specs.declared.answers.PipeRead.{PipeRead}
use Rattle.nio_pipe.specs.declared.answers.PipeWrite.{PipeWrite}
use Rattle.nio_plain.specs.Seq.Piping.{not_now}
use Rattle.nio_serial.specs.Replies.{pipe_refusal}
use Rattle.nio_steps.specs.declared.refusal.PipeError.{PipeError}

-- a read that left these bytes in its slice
abbrev pub read_says : PipeRead → List ℕ → Bool → Reply
read_says (PipeRead.Bytes n) bytes blocking = if n == 0 then reply.Number 0 else reply.Bytes (take n bytes)
read_says PipeRead.End bytes blocking = reply.End
read_says PipeRead.NotYet bytes blocking = not_now blocking

abbrev pub read_reply : Result (PipeRead × Bool) PipeError → List ℕ → Reply
read_reply (Ok found) bytes = read_says found.0 bytes found.1
read_reply (Err refusal) bytes = pipe_refusal refusal

abbrev pub write_says : PipeWrite → Bool → Reply
write_says (PipeWrite.Bytes n) blocking = reply.Number n
write_says PipeWrite.NotYet blocking = not_now blocking

abbrev pub write_reply : Result (PipeWrite × Bool) PipeError → Reply
write_reply (Ok found) = write_says found.0 found.1
write_reply (Err refusal) = pipe_refusal refusal
