use Rattle.std.proofs.Common.{sym, subst}
use Rattle.nio_kept.specs.News.{Heard, Knows}
use Rattle.nio_kept.proofs.Looks.{as_remembered}
use Rattle.nio_kept.proofs.news.News.look.Goals as goal

pub returns-clause-knows : goal.returns-clause-knows
returns-clause-knows c =
    λ on. subst (λ (n : Heard). Knows n c.args.asked.now.keys) (sym c.self-2.view_is)
    (c.in_ok-look_after.ensures.knows on.before on.follows
    (as_remembered _ c.args.self.now c.args.asked.now c.self.view_is on) on.apart)

pub returns-clause-remembers : goal.returns-clause-remembers
returns-clause-remembers c =
    λ on some. (
      c.stamp-self-inside.ensures,
      subst (λ (n : Heard). Knows n c.args.asked.now.keys) (sym c.self-2.view_is)
          (c.in_ok-look_after.ensures.knows on.before on.follows
          (as_remembered _ c.args.self.now c.args.asked.now c.self.view_is on) on.apart),
    )
