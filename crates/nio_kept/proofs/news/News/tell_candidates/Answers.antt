use Rattle.std.proofs.Common.{◌≡◌, ℕ, List, length, get_or, ap, sym, ◌∙◌, subst, arith}
use Rattle.nio_kept.proofs.Told.{IsTold, told_all, told_more, told_none}
use Rattle.nio_kept.proofs.news.News.tell_candidates.Goals as goal

pub loop-index-init : goal.loop-index-init
loop-index-init c =
    λ found. subst (IsTold c.args.self.now.kept c.args.asked.now.keys c.args.self.now.candidates 0)
    (sym c.in_ok-pairs.ensures.items) (told_none c.args.self.now.kept c.args.asked.now.keys c.args.self.now.candidates found)

pub loop-index-preserved : goal.loop-index-preserved
loop-index-preserved c =
    let n = c.loop-index.index-index in
    let candidates = c.args.self.now.candidates in
    let same : c.deref-index-items.result.now ≡ candidates = c.deref-index-items.ensures.value
    ∙ ap (λ v. v.candidates) c.self.view_is in
    let i : ℕ = get_or c.deref-index-items.result.now n 0 in
    λ found. told_more c.args.self.now.kept c.args.asked.now.keys candidates n i _ c.loop-index.pairs.items
    c.tell_at.new.pairs.items c.requires (omega (arith, ap length same)) (ap (λ (xs : List ℕ). get_or xs n 0) same)
    c.in_ok-tell_at.ensures.alone c.in_ok-tell_at.ensures.told (c.loop-index.invariant found)

pub returns : goal.returns
returns c =
    let same : c.deref-index-items.result.now ≡ c.args.self.now.candidates = c.deref-index-items.ensures.value
    ∙ ap (λ v. v.candidates) c.self.view_is in
    λ found. told_all c.args.self.now.kept c.args.asked.now.keys c.args.self.now.candidates c.loop-index.index-index
    c.loop-index.pairs.items (omega (arith, ap length same)) (c.loop-index.invariant found)
