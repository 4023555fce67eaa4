use Rattle.std.proofs.Common.{ℕ, ap, sym, ◌∙◌, subst}
use Rattle.std.specs.Prelude.{bit_and, slice_set}
use Rattle.nio_kept.specs.News.{Heard, StillKnows}
use Rattle.nio_kept.proofs.Looks.{fewer_bits}
use Rattle.nio_kept.proofs.news.News.keep_only.Goals as goal

pub returns-clause-known : goal.returns-clause-known
returns-clause-known c =
    let old = c.args.self.now in
    subst (λ (n : Heard). StillKnows old n)
    (sym (c.put.ensures
    ∙ ap (λ (bits : ℕ). record old { kept = slice_set old.kept c.args.chan.0 bits })
    (c.meet-bits.ensures ∙ ap (λ (bits : ℕ). bit_and bits c.args.ops) c.of.ensures)))
    (fewer_bits old c.args.chan.0 c.args.ops)
