use Rattle.std.proofs.Common.{◌≡◌, Some, None, refl, ◌∙◌, rules}
use Rattle.std.specs.Vec.{with_item}
use Rattle.nio_race.proofs.EndLines.{unwaited, write_said}
use Rattle.nio_race.proofs.EndLooks.{found_of, looks_found, looks_nowhere, may_write, sink_found, sink_inside}
use Rattle.nio_race.proofs.EndLooks.{stands_looked, stands_written, with_pass, writes_nowhere, writes_own}
use Rattle.nio_race.proofs.EndLooks.{writes_unowned}
use Rattle.nio_sole.specs.PipeReplies.{write_reply}
use Rattle.nio_sole.specs.declared.desk.Desk.{Desk}
use Rattle.nio_race.proofs.piping.write_line.Goals as goal

pub returns-then-is_none-clause-line : goal.returns-then-is_none-clause-line
returns-then-is_none-clause-line g c =
    writes_nowhere c.args.w.now c.args.d.now c.args.ends.now c.args.me c.args.chan c.args.bytes.now c.find_channel.new.p
    (looks_nowhere c.args.w.now c.args.me c.args.chan c.args.d.now.pass c.find_channel.new.p c.find_channel.result
    c.is_none.result c.is_none.ensures c.if-is_none.true c.find_channel.ensures.call)

pub returns-then-is_none-clause-stands : goal.returns-then-is_none-clause-stands
returns-then-is_none-clause-stands g c =
    stands_looked c.args.w.now c.args.d.now c.find_channel.new.p c.args.ends.now c.args.me c.args.chan
    c.find_channel.result c.requires c.find_channel.ensures.ready c.find_channel.ensures.call

pub returns-in_default-clause-line : goal.returns-in_default-clause-line
returns-in_default-clause-line g c =
    writes_unowned c.args.w.now c.args.d.now c.args.ends.now c.args.me c.args.chan c.args.bytes.now c.find_channel.new.p
    (found_of c.find_channel.result c.is_none.result c.is_none.ensures c.if-is_none.false)
    (looks_found c.args.w.now c.args.me c.args.chan c.args.d.now.pass c.find_channel.new.p c.find_channel.result
    c.is_none.result c.is_none.ensures c.if-is_none.false c.find_channel.ensures.call)
    (sink_found c.args.ends.now c.args.chan None c.deref.result.now c.in_default.ensures c.deref.ensures.value)

pub returns-in_default-clause-stands : goal.returns-in_default-clause-stands
returns-in_default-clause-stands g c =
    stands_looked c.args.w.now c.args.d.now c.find_channel.new.p c.args.ends.now c.args.me c.args.chan
    c.find_channel.result c.requires c.find_channel.ensures.ready c.find_channel.ensures.call

pub write-answer-requires-clause-ends : goal.write-answer-requires-clause-ends
write-answer-requires-clause-ends g c =
    let d1 : Desk = with_pass c.args.d.now c.find_channel.new.p in
    may_write c.args.w.now d1 c.args.ends.now c.args.me c.in-Some.place c.index_mut.result.now
    (stands_looked c.args.w.now c.args.d.now c.find_channel.new.p c.args.ends.now c.args.me c.args.chan
    c.find_channel.result c.requires c.find_channel.ensures.ready c.find_channel.ensures.call)
    (sink_inside c.args.ends.now c.args.chan c.in-Some.place
    (sink_found c.args.ends.now c.args.chan (Some c.in-Some.place) c.deref.result.now c.in-Some.ensures
    c.deref.ensures.value) c.index_mut.result.now)
    c.index_mut.ensures.value

pub write-answer-requires-clause-unpinned : goal.write-answer-requires-clause-unpinned
write-answer-requires-clause-unpinned g c =
    (stands_looked c.args.w.now c.args.d.now c.find_channel.new.p c.args.ends.now c.args.me c.args.chan
    c.find_channel.result c.requires c.find_channel.ensures.ready c.find_channel.ensures.call).stands.unpinned

pub returns-clause-line : goal.returns-clause-line
returns-clause-line g c =
    let write = c.write-answer.ensures in
    let mapped : c.map.result ≡ unwaited c.write-answer.result = search rules in
    let said : c.write_reply.result ≡ write_said c.write-answer.result =
    c.write_reply.ensures ∙ λ i. write_reply (mapped i) in
    writes_own c.args.w.now c.args.d.now c.args.ends.now c.args.me c.args.chan c.args.bytes.now c.find_channel.new.p
    c.write-answer.new.p (found_of c.find_channel.result c.is_none.result c.is_none.ensures c.if-is_none.false)
    c.in-Some.place c.index_mut.result.now c.write-answer.new.self
    (with_item c.args.ends.now.sinks c.in-Some.place c.write-answer.new.self) c.write-answer.result
    c.as_slice.result.now c.requires
    (looks_found c.args.w.now c.args.me c.args.chan c.args.d.now.pass c.find_channel.new.p c.find_channel.result
    c.is_none.result c.is_none.ensures c.if-is_none.false c.find_channel.ensures.call)
    c.find_channel.ensures.ready
    (sink_found c.args.ends.now c.args.chan (Some c.in-Some.place) c.deref.result.now c.in-Some.ensures
    c.deref.ensures.value)
    c.index_mut.ensures.value write.call write.same refl c.write_reply.result said
    c.as_slice.ensures write.bytes write.seal write.answer write.most write.places write.closed_meanwhile

pub returns-clause-stands : goal.returns-clause-stands
returns-clause-stands g c =
    let write = c.write-answer.ensures in
    stands_written c.args.w.now c.args.d.now c.args.ends.now c.args.me c.args.chan c.args.bytes.now
    c.find_channel.new.p c.write-answer.new.p
    (found_of c.find_channel.result c.is_none.result c.is_none.ensures c.if-is_none.false)
    c.in-Some.place c.index_mut.result.now c.write-answer.new.self
    (with_item c.args.ends.now.sinks c.in-Some.place c.write-answer.new.self) c.write-answer.result
    c.as_slice.result.now c.requires
    (looks_found c.args.w.now c.args.me c.args.chan c.args.d.now.pass c.find_channel.new.p c.find_channel.result
    c.is_none.result c.is_none.ensures c.if-is_none.false c.find_channel.ensures.call)
    c.find_channel.ensures.ready
    (sink_found c.args.ends.now c.args.chan (Some c.in-Some.place) c.deref.result.now c.in-Some.ensures
    c.deref.ensures.value)
    c.index_mut.ensures.value write.call write.same refl write.ready
