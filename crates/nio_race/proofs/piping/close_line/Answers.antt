use Rattle.std.proofs.Common.{Some, None, refl}
use Rattle.std.specs.Vec.{with_item}
use Rattle.nio_race.proofs.EndCloses.{closes_nowhere, closes_own, closes_unowned, stands_shut, stands_unowned}
use Rattle.nio_race.proofs.EndLooks.{found_of, looks_found, looks_nowhere, may_write, sink_found, sink_inside}
use Rattle.nio_race.proofs.EndLooks.{stands_looked, with_pass}
use Rattle.nio_sole.specs.declared.desk.Desk.{Desk}
use Rattle.nio_race.proofs.piping.close_line.Goals as goal

pub returns-in_default-clause-line : goal.returns-in_default-clause-line
returns-in_default-clause-line g c =
    closes_unowned c.args.w.now c.args.d.now c.args.ends.now c.args.me c.args.chan c.requires c.script_line.new.d
    c.script_line.result
    (sink_found c.args.ends.now c.args.chan None c.deref.result.now c.in_default.ensures c.deref.ensures.value)
    c.script_line.ensures.line

pub returns-in_default-clause-stands : goal.returns-in_default-clause-stands
returns-in_default-clause-stands g c =
    stands_unowned c.args.w.now c.args.d.now c.args.ends.now c.args.me c.args.chan c.requires c.script_line.new.d
    c.script_line.result c.script_line.ensures.stands c.script_line.ensures.line

pub returns-then-is_none-clause-line : goal.returns-then-is_none-clause-line
returns-then-is_none-clause-line g c =
    closes_nowhere c.args.w.now c.args.d.now c.args.ends.now c.args.me c.args.chan c.requires c.find_channel.new.p
    (looks_nowhere c.args.w.now c.args.me c.args.chan c.args.d.now.pass c.find_channel.new.p c.find_channel.result
    c.is_none.result c.is_none.ensures c.if-is_none.true c.find_channel.ensures.call)

pub returns-then-is_none-clause-stands : goal.returns-then-is_none-clause-stands
returns-then-is_none-clause-stands g c =
    stands_looked c.args.w.now c.args.d.now c.find_channel.new.p c.args.ends.now c.args.me c.args.chan
    c.find_channel.result c.requires c.find_channel.ensures.ready c.find_channel.ensures.call

pub close-requires-clause-channel : goal.close-requires-clause-channel
close-requires-clause-channel g c =
    let d1 : Desk = with_pass c.args.d.now c.find_channel.new.p in
    (may_write c.args.w.now d1 c.args.ends.now c.args.me c.in-Some.place c.index_mut.result.now
    (stands_looked c.args.w.now c.args.d.now c.find_channel.new.p c.args.ends.now c.args.me c.args.chan
    c.find_channel.result c.requires c.find_channel.ensures.ready c.find_channel.ensures.call)
    (sink_inside c.args.ends.now c.args.chan c.in-Some.place
    (sink_found c.args.ends.now c.args.chan (Some c.in-Some.place) c.deref.result.now c.in-Some.ensures
    c.deref.ensures.value) c.index_mut.result.now)
    c.index_mut.ensures.value).sink

pub close-requires-clause-unpinned : goal.close-requires-clause-unpinned
close-requires-clause-unpinned g c =
    (stands_looked c.args.w.now c.args.d.now c.find_channel.new.p c.args.ends.now c.args.me c.args.chan
    c.find_channel.result c.requires c.find_channel.ensures.ready c.find_channel.ensures.call).stands.unpinned

pub returns-clause-line : goal.returns-clause-line
returns-clause-line g c =
    let close = c.close.ensures in
    closes_own c.args.w.now c.args.d.now c.args.ends.now c.args.me c.args.chan c.requires c.find_channel.new.p
    c.close.new.p (found_of c.find_channel.result c.is_none.result c.is_none.ensures c.if-is_none.false)
    c.in-Some.place c.index_mut.result.now c.close.new.self
    (with_item c.args.ends.now.sinks c.in-Some.place c.close.new.self) c.close.result
    (looks_found c.args.w.now c.args.me c.args.chan c.args.d.now.pass c.find_channel.new.p c.find_channel.result
    c.is_none.result c.is_none.ensures c.if-is_none.false c.find_channel.ensures.call)
    c.find_channel.ensures.ready
    (sink_found c.args.ends.now c.args.chan (Some c.in-Some.place) c.deref.result.now c.in-Some.ensures
    c.deref.ensures.value)
    c.index_mut.ensures.value close.call close.same refl c.closed_reply.result c.closed_reply.ensures close.sent
    close.seal

pub returns-clause-stands : goal.returns-clause-stands
returns-clause-stands g c =
    let close = c.close.ensures in
    stands_shut c.args.w.now c.args.d.now c.args.ends.now c.args.me c.args.chan c.requires c.find_channel.new.p
    c.close.new.p (found_of c.find_channel.result c.is_none.result c.is_none.ensures c.if-is_none.false)
    c.in-Some.place c.index_mut.result.now c.close.new.self
    (with_item c.args.ends.now.sinks c.in-Some.place c.close.new.self) c.close.result
    (looks_found c.args.w.now c.args.me c.args.chan c.args.d.now.pass c.find_channel.new.p c.find_channel.result
    c.is_none.result c.is_none.ensures c.if-is_none.false c.find_channel.ensures.call)
    c.find_channel.ensures.ready
    (sink_found c.args.ends.now c.args.chan (Some c.in-Some.place) c.deref.result.now c.in-Some.ensures
    c.deref.ensures.value)
    c.index_mut.ensures.value close.call close.same refl close.ready
