use Rattle.std.proofs.Common.{Some, None, ap, set}
use Rattle.nio_pipe.specs.Pipe.{Pipe as Held}
use Rattle.nio_sole.proofs.Piping.{with_held}
use Rattle.nio_sole.proofs.PipeLines.{close_made, close_none, said_so, sink_found}
use Rattle.nio_sole.proofs.pipes.close_channel.Goals as goal

pub returns-in-Some : goal.returns-in-Some
returns-in-Some c =
    let d = c.args.d.now in
    let closing = c.close_sink.ensures in
    let x = c.index_mut.result.now in
    said_so c.closed_reply.ensures
    (close_made c.args.w.now d c.close_sink.new.p c.args.me c.args.chan c.in-Some.place x _ c.close_sink.result
    c.requires (sink_found d c.args.me c.args.chan (Some c.in-Some.place) _ c.in-Some.ensures c.deref.ensures.value)
    c.index_mut.ensures.value closing.call closing.ready
    (ap (λ (h : Held). set d.pipes.items c.in-Some.place (with_held x h)) closing.pipe))

pub returns-in-None : goal.returns-in-None
returns-in-None c =
    let d = c.args.d.now in
    said_so c.closed_reply-in-None.ensures
    (close_none c.args.w.now d c.close_channel.new.p c.args.me c.args.chan c.close_channel.result
    c.requires (sink_found d c.args.me c.args.chan None _ c.in-None.ensures c.deref.ensures.value)
    c.close_channel.ensures.call c.close_channel.ensures.ready)
