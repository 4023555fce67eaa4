-- What serving by tickets answers, in the terms of the loop that every way of proxy shares.
use Rattle.std.specs.Prelude.{Result, Ok, Err}
use Rattle.nio_relay.specs.declared.plan.Served.{Served}
use Rattle.nio_serve.specs.declared.serving.ServeError.{ServeError}
use Rattle.nio_serve.specs.declared.serving.ServeError.TheVariants as serve
use Rattle.nio_tickets.specs.declared.serving.FutureError.{FutureError}
use Rattle.nio_tickets.specs.declared.serving.FutureError.TheVariants as future

-- the loop's answer: the same, with its own error of the same name
abbrev pub serve_answer_of : Result Served FutureError → Result Served ServeError
serve_answer_of (Ok served) = Ok served
serve_answer_of (Err future.NetFault) = Err serve.NetFault
serve_answer_of (Err future.Memory) = Err serve.Memory
