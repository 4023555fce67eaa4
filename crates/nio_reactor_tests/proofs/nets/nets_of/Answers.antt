use Rattle.std.proofs.Common.{◌+◌, ◌∷◌, [], All, length, sym, subst, ap, ◌∙◌}
use Rattle.std.proofs.lemmas.List.{length-append}
use Rattle.std.proofs.lemmas.List.Elements.{All-push}
use Rattle.nio_link.specs.MemoryNet.{shown}
use Rattle.nio_serve.specs.Serving.{IsFresh}
use Rattle.nio_reactor_tests.proofs.nets.nets_of.Goals as goal

pub loop-preserved : goal.loop-preserved
loop-preserved c =
    let is = c.in_ok-push.ensures.items in
    record {
      count = ap length is
          ∙ (length-append c.loop.nets.items (c.in_ok-net.net ∷ []) ∙ ap (λ n. n + 1) c.loop.invariant.count);
      fresh = subst (All (λ net. IsFresh (shown net.net))) (sym is)
          (All-push (λ net. IsFresh (shown net.net)) c.loop.nets.items c.in_ok-net.net c.loop.invariant.fresh
          c.in_ok-net.ensures);
    }
