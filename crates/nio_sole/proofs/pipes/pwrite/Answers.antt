use Rattle.std.proofs.Common.{Some, None, ap, set}
use Rattle.nio_pipe.specs.Pipe.{Pipe as Held}
use Rattle.nio_sole.proofs.Piping.{with_held}
use Rattle.nio_sole.proofs.PipeLines.{said_so, sink_found, write_none, write_said}
use Rattle.nio_sole.proofs.pipes.pwrite.Goals as goal

pub returns-in_default : goal.returns-in_default
returns-in_default c =
    write_none c.args.w.now c.args.d.now c.args.me c.args.chan c.args.bytes.now c.requires
    (sink_found c.args.d.now c.args.me c.args.chan None _ c.in_default.ensures c.deref.ensures.value)

pub returns : goal.returns
returns c =
    let d = c.args.d.now in
    let write = c.try_write_in_mode-answer.ensures in
    said_so c.write_reply.ensures
    (write_said c.args.w.now d c.try_write_in_mode-answer.new.p c.args.me c.args.chan c.args.bytes.now
    c.as_slice.result.now c.in-Some.place c.index_mut.result.now _ c.try_write_in_mode-answer.result
    c.as_slice.ensures c.requires
    (sink_found d c.args.me c.args.chan (Some c.in-Some.place) _ c.in-Some.ensures c.deref.ensures.value)
    c.index_mut.ensures.value c.law.ensures write.call write.ready write.answer
    (ap (λ (h : Held). set d.pipes.items c.in-Some.place (with_held c.index_mut.result.now h)) write.pipe))
