use Rattle.std.proofs.Common.{◌≡◌, Some, None, length, ap, ◌∙◌, set, arith}
use Rattle.nio_pipe.specs.Pipe.{Pipe as Held}
use Rattle.nio_sole.proofs.Piping.{with_held, written_back}
use Rattle.nio_sole.proofs.PipeLines.{read_lacks, read_none, read_said, said_so, source_found}
use Rattle.nio_sole.proofs.pipes.pread.Goals as goal

pub returns-in_default : goal.returns-in_default
returns-in_default c =
    read_none c.args.w.now c.args.d.now c.args.me c.args.chan c.args.most c.requires
    (source_found c.args.d.now c.args.me c.args.chan None _ c.in_default.ensures c.deref.ensures.value)

pub returns-in-Err : goal.returns-in-Err
returns-in-Err c = read_lacks c.args.w.now c.args.d.now c.args.me c.args.chan c.args.most c.requires

pub returns-in-Ok : goal.returns-in-Ok
returns-in-Ok c =
    let d = c.args.d.now in
    let read = c.try_read_in_mode-answer.ensures in
    let size : c.in-Ok.bytes.len ≡ length c.try_read_in_mode-answer.new.into = omega arith in
    said_so c.read_reply.ensures
    (read_said c.args.w.now d c.try_read_in_mode-answer.new.p c.args.me c.args.chan c.args.most _ c.in-Some.place
    c.index_mut.result.now _ _ _ c.try_read_in_mode-answer.result
    c.requires (source_found d c.args.me c.args.chan (Some c.in-Some.place) _ c.in-Some.ensures c.deref.ensures.value)
    c.index_mut.ensures.value c.law.ensures (omega (arith, c.in-Ok.ensures.len)) read.call read.ready read.answer
    (written_back c.in-Ok.bytes.len c.try_read_in_mode-answer.new.into c.in-Ok.bytes.items size ∙ read.bytes)
    (ap (λ (h : Held). set d.pipes.items c.in-Some.place (with_held c.index_mut.result.now h)) read.pipe))
