use Rattle.std.proofs.Common.{◌+◌, ◌∷◌, [], All, length, sym, subst, ap, ◌∙◌}
use Rattle.std.proofs.lemmas.List.{length-append}
use Rattle.std.proofs.lemmas.List.Elements.{All-push}
use Rattle.nio_mio.specs.Unasked.{IsUnasked}
use Rattle.nio_reactor_tests.proofs.loopback.nets_of.Goals as goal

pub loop-preserved : goal.loop-preserved
loop-preserved g c =
    let is = c.in_ok-push.ensures.items in
    record {
      count = ap length is
          ∙ (length-append c.loop.nets.items (c.in_ok-net.net ∷ []) ∙ ap (λ n. n + 1) c.loop.invariant.count);
      unasked = subst (All IsUnasked) (sym is)
          (All-push IsUnasked c.loop.nets.items c.in_ok-net.net c.loop.invariant.unasked c.in_ok-net.ensures.unasked);
    }
