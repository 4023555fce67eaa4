-- What the making of a pipe in one hand answers.
use Rattle.std.specs.Prelude.{Result, Ok, Err}
use Rattle.nio_steps.specs.PipeCalls.{PipeEnds}
use Rattle.nio_steps.specs.declared.refusal.PipeMakeError.{PipeMakeError}
use Rattle.nio_pipe.specs.Pipe.{Pipe}

-- the channels of the pipe that was made, or the refusal
abbrev pub pipe_made : Result Pipe PipeMakeError → Result PipeEnds PipeMakeError
pipe_made (Ok pipe) = Ok (record { source = pipe.source; sink = pipe.sink })
pipe_made (Err refusal) = Err refusal
