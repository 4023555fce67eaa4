-- Lines on pipes. The table has a pipe's channels; its bytes, its seal and its owners stand beside the table.
-- What a line says and leaves in the pipe follows from the pipe and from what the call's plan answers.
use Rattle.std.specs.Prelude.{ℕ, ◌==◌, Bool, true, false, if◌then◌else◌, Option, Result, Ok, Err, List, [], ◌∷◌, ◌++◌}
use Rattle.std.specs.Prelude.{length, take, drop, slice_set}
use Rattle.nio_base.specs.declared.numbers.CallerNo.{CallerNo}
use Rattle.nio_language.specs.declared.reply.Reply.{Reply}
use Rattle.nio_language.specs.declared.reply.Reply.TheVariants as reply
use Rattle.nio_plain.specs.ScriptState.{Pipe}
use Rattle.nio_plain.specs.Seq.Pipes.{sealed_pipes}
use Rattle.nio_plain.specs.Seq.Piping.{new_pipe, not_now, room_for}
use Rattle.nio_steps.specs.PipeCalls.{PipeEnds}
use Rattle.nio_steps.specs.declared.refusal.PipeError.{PipeError}
use Rattle.nio_steps.specs.declared.refusal.PipeMakeError.{PipeMakeError}
use Rattle.nio_serial.specs.Documented.{Progress}
use Rattle.nio_serial.specs.Replies.{pipe_refusal}

-- ---- the pipes

-- with another pipe at a place
abbrev pub with_pipe : Progress → ℕ → Pipe → Progress
with_pipe now i p = record now { pipes = slice_set now.pipes i p }

-- the sink of the pipe at a place leaves its seal, where there is such a pipe
abbrev pub with_seal : Progress → Option ℕ → Progress
with_seal now place = record now { pipes = sealed_pipes place now.pipes }

-- the caller owns the source of a pipe that it made, and the target its sink
abbrev pub after_pipe : Progress → CallerNo → CallerNo → Result PipeEnds PipeMakeError → Progress
after_pipe now me target (Ok ends) = record now { pipes = now.pipes ++ new_pipe me target ends.source ends.sink ∷ [] }
after_pipe now me target (Err _) = now

-- ---- what a read or a write gives

-- a reply, and the pipe that the call leaves
pub record Piped : Type 0 where
  pub reply : Reply
  pub left : Pipe

abbrev pub only_says : Pipe → Reply → Piped
only_says p r = record { reply = r; left = p }

abbrev pub leaves_seal : Pipe → Reply → Piped
leaves_seal p r = record { reply = r; left = record p { sealed = true } }

-- up to n bytes of those that wait, in this mode
abbrev pub takes : Pipe → Bool → ℕ → List ℕ → Bool → Piped
takes p blocking n [] false = only_says p (not_now blocking)
takes p blocking n [] true = only_says p reply.End
takes p blocking n (b ∷ bytes) sealed = record {
  reply = reply.Bytes (take n (b ∷ bytes));
  left = record p { waiting = drop n (b ∷ bytes) };
}

-- a read of up to n bytes, by the mode that its plan found, or by its refusal
abbrev pub read_gives : ℕ → Pipe → Result Bool PipeError → Piped
read_gives n p (Ok blocking) =
    if n == 0 then only_says p (reply.Number 0) else takes p blocking n p.waiting p.sealed
read_gives n p (Err refusal) = only_says p (pipe_refusal refusal)

-- n of the bytes go into the pipe, in this mode
abbrev pub puts : Pipe → Bool → List ℕ → ℕ → Piped
puts p blocking bytes n =
    if n == 0 then only_says p (not_now blocking)
    else record { reply = reply.Number n; left = record p { waiting = p.waiting ++ take n bytes } }

-- A write that finds its sink closed, or closes it, leaves the seal. A try never answers `AsynchronousClose`: only
-- a call that waits does.
abbrev pub write_gives : List ℕ → Pipe → Result Bool PipeError → Piped
write_gives bytes p (Ok blocking) =
    if length bytes == 0 then only_says p (reply.Number 0) else puts p blocking bytes (room_for bytes p)
write_gives bytes p (Err PipeError.ClosedChannel) = leaves_seal p reply.ClosedChannel
write_gives bytes p (Err PipeError.ClosedByInterrupt) = leaves_seal p reply.ClosedByInterrupt
write_gives bytes p (Err PipeError.AsynchronousClose) = leaves_seal p reply.AsyncClose
write_gives bytes p (Err PipeError.BrokenPipe) = only_says p reply.BrokenPipe
