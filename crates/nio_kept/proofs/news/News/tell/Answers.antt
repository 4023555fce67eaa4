use Rattle.std.proofs.Common.{eqb, ap, sym, ◌∙◌, subst}
use Rattle.std.specs.List.Sorted.{IsStrictlyIncreasing}
use Rattle.std.proofs.lemmas.List.Filters.{dedup_is}
use Rattle.std.proofs.lemmas.Map.Keys.{IsStrictlyIncreasing-dedup}
use Rattle.std.proofs.lemmas.Result.{IfOk-weaker}
use Rattle.nio_kept.specs.News.{AreFound, Heard, StillKnows, ready_keys}
use Rattle.nio_kept.proofs.Looks.{more_candidates, more_found, still_there}
use Rattle.nio_kept.proofs.news.News.tell.Goals as goal

pub tell_candidates-requires : goal.tell_candidates-requires
tell_candidates-requires c =
    subst IsStrictlyIncreasing (sym (dedup_is eqb _ _ c.dedup.ensures.filtered))
    (IsStrictlyIncreasing-dedup c.sort_unstable.new.self.items c.sort_unstable.ensures.sorted)

pub returns-clause-told : goal.returns-clause-told
returns-clause-told c =
    let keys = c.args.asked.now.keys in
    IfOk-weaker c.tell_candidates.result _ _
    (λ pairs told found. told
    (more_found c.self.inside.kept.items keys c.self.inside.candidates.items c.dedup.new.self.items
    (still_there c.self.inside.candidates.items c.sort_unstable.new.self.items c.dedup.new.self.items
    c.sort_unstable.ensures.permutation (dedup_is eqb _ _ c.dedup.ensures.filtered))
    (subst (λ (n : Heard). AreFound n.kept keys n.candidates) (sym c.self.view_is) found))
    ∙ ap (λ (n : Heard). ready_keys n.kept keys) c.self.view_is)
    c.tell_candidates.ensures

pub returns-clause-known : goal.returns-clause-known
returns-clause-known c =
    let old : Heard = record {
      kept = c.self.inside.kept.items;
      keys = c.self.inside.keys.items;
      candidates = c.self.inside.candidates.items;
      seen = c.self.inside.seen;
    } in
    subst (λ (n : Heard). StillKnows n (record old { candidates = c.dedup.new.self.items })) c.self.view_is
    (more_candidates old c.dedup.new.self.items
    (still_there c.self.inside.candidates.items c.sort_unstable.new.self.items c.dedup.new.self.items
    c.sort_unstable.ensures.permutation (dedup_is eqb _ _ c.dedup.ensures.filtered)))
