use Rattle.std.proofs.Common.{refl}
use Rattle.nio_serve.proofs.Promise.{nothing_served}
use Rattle.nio_serve.specs.declared.serving.ServeError.TheVariants.{Memory}
use Rattle.nio_tickets.proofs.serving.serve_future.Goals as goal

pub returns-in_default : goal.returns-in_default
returns-in_default g c =
    nothing_served c.args.plan _ _ Memory c.requires.fresh refl (λ is. absurd (cc))

pub returns-in_default-open_way : goal.returns-in_default-open_way
returns-in_default-open_way g c =
    nothing_served c.args.plan _ _ Memory c.requires.fresh refl (λ is. absurd (cc))
