use Rattle.std.proofs.Common.{◌<◌, true, length, refl, ap, arith}
use Rattle.nio_plain.proofs.Piping.{changed_pipe}
use Rattle.nio_plain.specs.PlainState.{state_of}
use Rattle.nio_plain.specs.ScriptState.{Pipe, with_pipes}
use Rattle.nio_plain.proofs.plain.Plain.seal.Goals as goal

pub returns-clause-left : goal.returns-clause-left
returns-clause-left c =
    let p = c.args.self.now in
    let x = c.index_mut.result.now in
    let within : c.args.place < length p.pipes.items = omega (arith, p.pipes.ok.0, c.requires) in
    ap (with_pipes (state_of p))
    (changed_pipe p.pipes.items c.args.place x (record x { sealed = true })
    (λ (q : Pipe). record q { sealed = true }) within c.index_mut.ensures.value refl)
