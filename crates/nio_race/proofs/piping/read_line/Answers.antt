use Rattle.std.proofs.Common.{◌≡◌, Some, None, length, refl, ◌∙◌, arith, rules}
use Rattle.std.specs.Vec.{with_item}
use Rattle.nio_pipe.specs.Ends.{knows_end}
use Rattle.nio_race.proofs.EndLines.{read_said, unwaited}
use Rattle.nio_race.proofs.EndLooks.{found_of, looks_found, looks_nowhere, may_read, reads_nowhere, reads_own}
use Rattle.nio_race.proofs.EndLooks.{reads_unowned, source_found, source_inside, stands_looked, stands_read, with_pass}
use Rattle.nio_sole.proofs.Piping.{written_back}
use Rattle.nio_sole.specs.PipeReplies.{read_reply}
use Rattle.nio_sole.specs.declared.desk.Desk.{Desk}
use Rattle.nio_race.proofs.piping.read_line.Goals as goal

pub returns-then-is_none-clause-line : goal.returns-then-is_none-clause-line
returns-then-is_none-clause-line g c =
    reads_nowhere c.args.w.now c.args.d.now c.args.ends.now c.args.me c.args.chan c.args.most c.find_channel.new.p
    (looks_nowhere c.args.w.now c.args.me c.args.chan c.args.d.now.pass c.find_channel.new.p c.find_channel.result
    c.is_none.result c.is_none.ensures c.if-is_none.true c.find_channel.ensures.call)

pub returns-then-is_none-clause-stands : goal.returns-then-is_none-clause-stands
returns-then-is_none-clause-stands g c =
    stands_looked c.args.w.now c.args.d.now c.find_channel.new.p c.args.ends.now c.args.me c.args.chan
    c.find_channel.result c.requires c.find_channel.ensures.ready c.find_channel.ensures.call

pub returns-in_default-clause-line : goal.returns-in_default-clause-line
returns-in_default-clause-line g c =
    reads_unowned c.args.w.now c.args.d.now c.args.ends.now c.args.me c.args.chan c.args.most c.find_channel.new.p
    (found_of c.find_channel.result c.is_none.result c.is_none.ensures c.if-is_none.false)
    (looks_found c.args.w.now c.args.me c.args.chan c.args.d.now.pass c.find_channel.new.p c.find_channel.result
    c.is_none.result c.is_none.ensures c.if-is_none.false c.find_channel.ensures.call)
    (source_found c.args.ends.now c.args.chan None c.deref.result.now c.in_default.ensures c.deref.ensures.value)

pub returns-in_default-clause-stands : goal.returns-in_default-clause-stands
returns-in_default-clause-stands g c =
    stands_looked c.args.w.now c.args.d.now c.find_channel.new.p c.args.ends.now c.args.me c.args.chan
    c.find_channel.result c.requires c.find_channel.ensures.ready c.find_channel.ensures.call

pub returns-in_err-bytes-clause-stands : goal.returns-in_err-bytes-clause-stands
returns-in_err-bytes-clause-stands g c =
    stands_looked c.args.w.now c.args.d.now c.find_channel.new.p c.args.ends.now c.args.me c.args.chan
    c.find_channel.result c.requires c.find_channel.ensures.ready c.find_channel.ensures.call

pub read-answer-requires-clause-channel : goal.read-answer-requires-clause-channel
read-answer-requires-clause-channel g c =
    let d1 : Desk = with_pass c.args.d.now c.find_channel.new.p in
    may_read c.args.w.now d1 c.args.ends.now c.args.me c.in-Some.place c.index_mut.result.now
    (stands_looked c.args.w.now c.args.d.now c.find_channel.new.p c.args.ends.now c.args.me c.args.chan
    c.find_channel.result c.requires c.find_channel.ensures.ready c.find_channel.ensures.call)
    (source_inside c.args.ends.now c.args.chan c.in-Some.place
    (source_found c.args.ends.now c.args.chan (Some c.in-Some.place) c.deref.result.now c.in-Some.ensures
    c.deref.ensures.value) c.index_mut.result.now)
    c.index_mut.ensures.value

pub read-answer-requires-clause-unpinned : goal.read-answer-requires-clause-unpinned
read-answer-requires-clause-unpinned g c =
    (stands_looked c.args.w.now c.args.d.now c.find_channel.new.p c.args.ends.now c.args.me c.args.chan
    c.find_channel.result c.requires c.find_channel.ensures.ready c.find_channel.ensures.call).stands.unpinned

pub returns-clause-line : goal.returns-clause-line
returns-clause-line g c =
    let read = c.read-answer.ensures in
    let into = c.read-answer.new.into in
    let size : c.in_ok-bytes.bytes.len ≡ length into = omega arith in
    let mapped : c.map.result ≡ unwaited c.read-answer.result = search rules in
    let said : c.read_reply.result ≡ read_said c.read-answer.result into =
    c.read_reply.ensures
    ∙ λ i. read_reply (mapped i) (written_back c.in_ok-bytes.bytes.len into c.in_ok-bytes.bytes.items size i) in
    reads_own c.args.w.now c.args.d.now c.args.ends.now c.args.me c.args.chan c.args.most c.find_channel.new.p
    c.read-answer.new.p (found_of c.find_channel.result c.is_none.result c.is_none.ensures c.if-is_none.false)
    c.in-Some.place c.index_mut.result.now c.read-answer.new.self
    (with_item c.args.ends.now.sources c.in-Some.place c.read-answer.new.self)
    c.deref_mut.result.now into c.read-answer.result (knows_end c.read-answer.new.self) c.requires
    (looks_found c.args.w.now c.args.me c.args.chan c.args.d.now.pass c.find_channel.new.p c.find_channel.result
    c.is_none.result c.is_none.ensures c.if-is_none.false c.find_channel.ensures.call)
    c.find_channel.ensures.ready
    (source_found c.args.ends.now c.args.chan (Some c.in-Some.place) c.deref.result.now c.in-Some.ensures
    c.deref.ensures.value)
    c.index_mut.ensures.value read.call read.same refl c.read_reply.result said
    (omega (arith, c.in_ok-bytes.ensures.len)) (omega arith) read.bytes read.answer read.most read.not_yet
    read.end read.closed_meanwhile

pub returns-clause-stands : goal.returns-clause-stands
returns-clause-stands g c =
    let read = c.read-answer.ensures in
    stands_read c.args.w.now c.args.d.now c.args.ends.now c.args.me c.args.chan c.args.most c.find_channel.new.p
    c.read-answer.new.p (found_of c.find_channel.result c.is_none.result c.is_none.ensures c.if-is_none.false)
    c.in-Some.place c.index_mut.result.now c.read-answer.new.self
    (with_item c.args.ends.now.sources c.in-Some.place c.read-answer.new.self)
    c.deref_mut.result.now c.read-answer.new.into c.read-answer.result (knows_end c.read-answer.new.self) c.requires
    (looks_found c.args.w.now c.args.me c.args.chan c.args.d.now.pass c.find_channel.new.p c.find_channel.result
    c.is_none.result c.is_none.ensures c.if-is_none.false c.find_channel.ensures.call)
    c.find_channel.ensures.ready
    (source_found c.args.ends.now c.args.chan (Some c.in-Some.place) c.deref.result.now c.in-Some.ensures
    c.deref.ensures.value)
    c.index_mut.ensures.value read.call read.same refl read.ready
