use Rattle.std.proofs.Common.{List, position, sym, ap, ◌∙◌}
use Rattle.nio_plain.proofs.Piping.{position-map}
use Rattle.nio_plain.specs.PlainState.{pipe_of}
use Rattle.nio_plain.specs.Seq.Pipes.{owns_sink}
use Rattle.nio_plain.specs.declared.plain.pipe.Pipe.{Pipe as PlainPipe}
use Rattle.nio_plain.proofs.plain.Plain.own_sink.Goals as goal

pub returns : goal.returns
returns c =
    let owns = owns_sink c.args.me c.args.chan in
    c.sink_place.ensures
    ∙ (ap (λ (xs : List PlainPipe). position (λ (x : PlainPipe). owns (pipe_of x)) xs) c.deref.ensures.value
    ∙ sym (position-map owns pipe_of c.args.self.now.pipes.items))
