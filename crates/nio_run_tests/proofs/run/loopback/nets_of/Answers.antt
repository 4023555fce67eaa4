use Rattle.std.proofs.Common.{All, sym, subst}
use Rattle.std.proofs.lemmas.List.Elements.{All-push}
use Rattle.nio_mio.specs.Unasked.{IsUnasked}
use Rattle.nio_run_tests.proofs.run.loopback.nets_of.Goals as goal

pub loop-preserved : goal.loop-preserved
loop-preserved g c =
    let is = c.in_ok-push.ensures.items in
    record {
      unasked = subst (All IsUnasked) (sym is)
          (All-push IsUnasked c.loop.nets.items c.in_ok-net.net c.loop.invariant.unasked c.in_ok-net.ensures.unasked);
    }
