use Rattle.std.proofs.Common.{refl}
use Rattle.nio_serve.proofs.Promise.{nothing_served}
use Rattle.nio_serve.specs.declared.serving.ServeError.TheVariants.{Memory}
use Rattle.nio_operations.proofs.serving.no_memory.Goals as goal

pub returns : goal.returns
returns g c =
    nothing_served c.args.plan _ _ Memory c.requires.fresh refl (λ is. absurd (cc))
