use Rattle.std.proofs.Common.{◌≡◌, ◌+◌, ◌<◌, ◌⊎◌, ◌∙◌, sym, subst}
use Rattle.nio_select.specs.Asked.{key_at}
use Rattle.nio_kept.specs.Looks.{KnowsAt, looked_at}
use Rattle.nio_kept.specs.News.{Heard}
use Rattle.nio_kept.proofs.Looks.{AreReady, below_more, knows_below, looked_more, ready_more, weaker_at}
use Rattle.nio_kept.proofs.news.News.look_over_all.Goals as goal

pub loop-index-preserved : goal.loop-index-preserved
loop-index-preserved c =
    let i = c.loop-index.index in
    let keys = c.args.asked.now.keys in
    let looked = c.in_ok-look_at.ensures.looked in
    record {
      kept = c.in_ok-look_at.ensures.kept ∙ c.loop-index.invariant.kept;
      seen = c.in_ok-look_at.ensures.seen ∙ c.loop-index.invariant.seen;
      ready = subst (λ (n : Heard). AreReady n.kept keys n.candidates) (sym looked)
          (ready_more c.loop-index.self keys i c.loop-index.invariant.ready);
      known = λ apart. subst (λ (n : Heard). KnowsAt (λ j. j < i + 1) n keys) (sym looked)
          (weaker_at (λ j. (j < i) ⊎ (j ≡ i)) (λ j. j < i + 1) (looked_at c.loop-index.self i (key_at i keys)) keys
          (below_more i)
          (looked_more c.loop-index.self keys i (λ j. j < i) apart c.in_ok-look_at.ensures.alone
          (c.loop-index.invariant.known apart)));
    }

pub returns-clause-knows : goal.returns-clause-knows
returns-clause-knows c =
    λ apart. knows_below c.bound-index-end.result c.loop-index.index c.loop-index.self c.args.asked.now.keys
    c.loop-index-test.false c.bound-index-end.ensures.below (c.loop-index.invariant.known apart)
