use Rattle.std.proofs.Common.{All, sym, subst}
use Rattle.std.proofs.lemmas.List.Elements.{All-push}
use Rattle.nio_link.specs.MemoryNet.{shown}
use Rattle.nio_serve.specs.Serving.{IsFresh}
use Rattle.nio_memory_proxy.proofs.nets_of.Goals as goal

pub loop-preserved : goal.loop-preserved
loop-preserved c =
    let is = c.in_ok-push.ensures.items in
    record {
      fresh = subst (All (λ net. IsFresh (shown net))) (sym is)
          (All-push (λ net. IsFresh (shown net)) c.loop.nets.items c.in_ok-net.net c.loop.invariant.fresh
          (record { carried = c.in_ok-net.ensures.fresh; unasked = c.in_ok-net.ensures.unasked }));
    }
