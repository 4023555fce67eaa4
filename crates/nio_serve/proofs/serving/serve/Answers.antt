use Rattle.std.proofs.Common.{refl}
use Rattle.nio_serve.proofs.Promise.{nothing_served}
use Rattle.nio_serve.specs.declared.serving.ServeError.TheVariants.{Memory}
use Rattle.nio_serve.proofs.serving.serve.Goals as goal

pub returns-in_default : goal.returns-in_default
returns-in_default g c = nothing_served _ _ _ Memory c.requires.fresh refl (λ never. absurd (cc))

pub returns-in_default-open_board : goal.returns-in_default-open_board
returns-in_default-open_board g c = nothing_served _ _ _ Memory c.requires.fresh refl (λ never. absurd (cc))
