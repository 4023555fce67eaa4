use Rattle.std.proofs.Common.{◌∙◌, arith, rules}
use Rattle.nio_serve.proofs.Ordered.{still_ready}
use Rattle.nio_serve.proofs.Slotting.{serving_then}
use Rattle.nio_serve.proofs.Watching.{seat_then}
use Rattle.nio_serve.proofs.Ways.{members}
use Rattle.nio_serve.proofs.proxy.Proxy.serve_links.Goals as goal

pub serve_told-served-requires-clause-ready_next : goal.serve_told-served-requires-clause-ready_next
serve_told-served-requires-clause-ready_next g c =
    still_ready (g.W.Polls.ready c.args.net.now) (g.W.Polls.ready c.loop-index.net) c.args.told.now
    c.loop-index.unserved c.loop-index.index c.min.result c.index-told-index.result c.index-told-min.result
    c.requires.ready c.requires.ordered c.loop-index.invariant.ready c.index-told-index.is
    (omega (arith, c.if-one-unserved.false))
    (omega (arith, c.min.ensures, c.loop-index-test.true, c.loop-index.auto.index-end))
    (omega (arith, c.min.ensures, c.loop-index-test.true, c.loop-index.auto.index-end))
    c.index-told-min.is

pub returns-then-is_err-clause-serving : goal.returns-then-is_err-clause-serving
returns-then-is_err-clause-serving g c =
    serving_then (members g.W.Polls g.W.Way) _ _ _ _ _ _ c.loop-index.invariant.serving
    c.serve_told-served.ensures.serving

pub loop-index-preserved : goal.loop-index-preserved
loop-index-preserved g c =
    let served = c.serve_told-served.ensures in
    let before = c.loop-index.invariant in
    record {
      serving = serving_then (members g.W.Polls g.W.Way) _ _ _ _ _ _ before.serving served.serving;
      listens = served.listens ∙ before.listens;
      port = served.port ∙ before.port;
      some = search rules;
      ready = search rules;
      accepts = served.accepts ∙ before.accepts;
      seat = seat_then before.seat served.watching.seat;
      watched = search rules;
    }
