use Rattle.std.proofs.Common.{Ok, take, refl, sym, subst}
use Rattle.nio_relay.specs.Flow.{ends, takes}
use Rattle.nio_serve.specs.Passing.{Passes, flow_after_read}
use Rattle.nio_serve.specs.Relaying.{KeepsSource}
use Rattle.nio_serve.proofs.Carrying.{passes_read, passes_then, passes_write}
use Rattle.nio_serve.proofs.Ways.{members}
use Rattle.nio_serve.proofs.link.pass_once.Goals as goal

pub returns-in_err-count-clause-passes : goal.returns-in_err-count-clause-passes
returns-in_err-count-clause-passes g c =
    let did = c.in_err-count.ensures in
    passes_read (members g.W.Polls g.W.Way) c.args.source c.args.sink _ _ _ _ c.requires.apart did.work
    (did.source c.args.direction.now) (record { written = refl; shut = refl }) did.stands did.write

pub returns-in-Bytes-clause-passes : goal.returns-in-Bytes-clause-passes
returns-in-Bytes-clause-passes g c =
    let n = members g.W.Polls g.W.Way in
    let f = c.args.direction.now in
    let a = c.args.source in
    let buffer = c.read_new.new.scratch in
    let bytes = take c.in-Bytes.count buffer in
    let got : KeepsSource f (takes f bytes) (g.W.Way.link c.args.net.now a) (g.W.Way.place c.args.net.now a)
    (g.W.Way.link c.read_new.new.net a) (g.W.Way.place c.read_new.new.net a)
    = subst (λ r. KeepsSource f (flow_after_read (Ok r) buffer f) (g.W.Way.link c.args.net.now a)
    (g.W.Way.place c.args.net.now a) (g.W.Way.link c.read_new.new.net a) (g.W.Way.place c.read_new.new.net a))
    c.in-Bytes.is (c.in_ok-count.ensures.source f) in
    let did = c.read_new.ensures in
    let wrote = c.write_new.ensures in
    passes_then n a c.args.sink f (takes f bytes) c.write_new.new.direction c.args.net.now c.read_new.new.net
    c.write_new.new.net
    (passes_read n a c.args.sink f (takes f bytes) c.args.net.now c.read_new.new.net c.requires.apart did.work got
    (record { written = refl; shut = refl }) did.stands did.write)
    (passes_write n a c.args.sink (takes f bytes) c.write_new.new.direction c.read_new.new.net c.write_new.new.net
    c.requires.apart wrote.work wrote.sink wrote.source wrote.stands wrote.shut wrote.read)

pub returns-in-End-clause-passes : goal.returns-in-End-clause-passes
returns-in-End-clause-passes g c =
    let n = members g.W.Polls g.W.Way in
    let f = c.args.direction.now in
    let a = c.args.source in
    let buffer = c.read_new.new.scratch in
    let got : KeepsSource f (ends f) (g.W.Way.link c.args.net.now a) (g.W.Way.place c.args.net.now a)
    (g.W.Way.link c.read_new.new.net a) (g.W.Way.place c.read_new.new.net a)
    = subst (λ r. KeepsSource f (flow_after_read (Ok r) buffer f) (g.W.Way.link c.args.net.now a)
    (g.W.Way.place c.args.net.now a) (g.W.Way.link c.read_new.new.net a) (g.W.Way.place c.read_new.new.net a))
    c.in-End.is (c.in_ok-count.ensures.source f) in
    let did = c.read_new.ensures in
    subst (λ h. Passes n a c.args.sink f h c.args.net.now c.read_new.new.net) (sym c.on_end.ensures)
    (passes_read n a c.args.sink f (ends f) c.args.net.now c.read_new.new.net c.requires.apart did.work got
    (record { written = refl; shut = refl }) did.stands did.write)

pub returns-in-NotYet-clause-passes : goal.returns-in-NotYet-clause-passes
returns-in-NotYet-clause-passes g c =
    let n = members g.W.Polls g.W.Way in
    let f = c.args.direction.now in
    let a = c.args.source in
    let buffer = c.read_new.new.scratch in
    let got : KeepsSource f f (g.W.Way.link c.args.net.now a) (g.W.Way.place c.args.net.now a)
    (g.W.Way.link c.read_new.new.net a) (g.W.Way.place c.read_new.new.net a)
    = subst (λ r. KeepsSource f (flow_after_read (Ok r) buffer f) (g.W.Way.link c.args.net.now a)
    (g.W.Way.place c.args.net.now a) (g.W.Way.link c.read_new.new.net a) (g.W.Way.place c.read_new.new.net a))
    c.in-NotYet.is (c.in_ok-count.ensures.source f) in
    let did = c.read_new.ensures in
    passes_read n a c.args.sink f f c.args.net.now c.read_new.new.net c.requires.apart did.work got
    (record { written = refl; shut = refl }) did.stands did.write
