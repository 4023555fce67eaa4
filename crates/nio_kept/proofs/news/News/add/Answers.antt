use Rattle.std.proofs.Common.{◌++◌, ◌∷◌, [], ℕ, List, ap, sym, ◌∙◌, subst}
use Rattle.std.specs.Prelude.{bit_or, slice_index, slice_get}
use Rattle.nio_kept.specs.News.{Heard, StillKnows}
use Rattle.nio_kept.proofs.Looks.{added_bits}
use Rattle.nio_kept.proofs.news.News.add.Goals as goal

pub returns-in-Ok-clause-known : goal.returns-in-Ok-clause-known
returns-in-Ok-clause-known c =
    let old = c.args.self.now in
    let index = c.in-Some.index in
    let bits = bit_or (slice_index old.kept c.args.chan.0) c.args.ops in
    subst (λ (n : Heard). StillKnows old n)
    (sym (ap (λ (xs : List ℕ). record {
      kept = c.self.inside.kept.items;
      keys = c.self.inside.keys.items;
      candidates = xs;
      seen = c.self.inside.seen;
    }) c.in-Ok.ensures.items
    ∙ ap (λ (n : Heard). record n { candidates = n.candidates ++ index ∷ [] }) (c.self.view_is ∙ c.keep.ensures)))
    (added_bits old c.args.chan.0 bits index
    (sym (c.in-Some.ensures.noted ∙ ap (λ (n : Heard). slice_get n.keys c.args.chan.0) c.keep.ensures)))
