use Rattle.std.proofs.Common.{◌≡◌, ℕ, ◌+◌, ◌≤◌, ◌⊎◌, List, length, get_or, ap, sym, ◌∙◌, subst, arith}
use Rattle.std.proofs.lemmas.List.{get_or_default}
use Rattle.nio_select.specs.Asked.{key_at}
use Rattle.nio_kept.specs.Looks.{KnowsAt, looked_at}
use Rattle.nio_kept.specs.News.{Heard}
use Rattle.nio_kept.proofs.Looks.{AreReady, IsPast, knows_past, looked_more, past_more, ready_more, weaker_at}
use Rattle.nio_kept.proofs.news.News.look_at_changed.Goals as goal

pub loop-index-preserved : goal.loop-index-preserved
loop-index-preserved c =
    let n = c.loop-index.index-index in
    let keys = c.args.asked.now.keys in
    let changed = c.args.asked.now.changed in
    let same : c.changed-index-items.result.now ≡ changed = c.changed-index-items.ensures in
    let i : ℕ = get_or c.changed-index-items.result.now n 0 in
    let is : i ≡ get_or changed n i = ap (λ (xs : List ℕ). get_or xs n 0) same
    ∙ get_or_default changed n 0 i (omega (arith, ap length same)) in
    let looked = c.in_ok-look_at.ensures.looked in
    record {
      kept = c.in_ok-look_at.ensures.kept ∙ c.loop-index.invariant.kept;
      seen = c.in_ok-look_at.ensures.seen ∙ c.loop-index.invariant.seen;
      ready = subst (λ (news : Heard). AreReady news.kept keys news.candidates) (sym looked)
          (ready_more c.loop-index.self keys i c.loop-index.invariant.ready);
      known = λ apart known. subst (λ (news : Heard). KnowsAt (IsPast changed (n + 1)) news keys) (sym looked)
          (weaker_at (λ j. IsPast changed n j ⊎ (j ≡ i)) (IsPast changed (n + 1))
          (looked_at c.loop-index.self i (key_at i keys)) keys
          (λ j. past_more changed n i j (omega (arith, ap length same)) is)
          (looked_more c.loop-index.self keys i (IsPast changed n) apart c.in_ok-look_at.ensures.alone
          (c.loop-index.invariant.known apart known)));
    }

pub returns-clause-knows : goal.returns-clause-knows
returns-clause-knows c =
    λ apart known. knows_past c.args.asked.now.changed c.loop-index.index-index c.loop-index.self c.args.asked.now.keys
    (subst (λ (xs : List ℕ). length xs ≤ c.loop-index.index-index) c.changed-index-items.ensures c.loop-index-test.false)
    (c.loop-index.invariant.known apart known)
