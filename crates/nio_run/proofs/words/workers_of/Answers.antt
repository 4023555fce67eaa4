use Rattle.nio_command.specs.declared.command.Command.TheVariants.{Proxy}
use Rattle.nio_command.specs.declared.way.ProxyWay.TheVariants.{Many}
use Rattle.nio_run.proofs.Named.{its_command, no_plan}
use Rattle.nio_run.proofs.words.workers_of.Goals as goal

pub returns-in-Ok-clause-many : goal.returns-in-Ok-clause-many
returns-in-Ok-clause-many c = λ plan workers says.
    c.workers_in.ensures.many plan workers
    (its_command c.in-Ok.command (Proxy plan (Many workers)) (c.in-Ok.ensures.proxy_only plan (Many workers) says))

pub returns-in-Err-Usage-clause-many : goal.returns-in-Err-Usage-clause-many
returns-in-Err-Usage-clause-many c = λ plan workers says.
    absurd
    (no_plan c.in-Err-Usage.field-0 plan (Many workers) c.in-Err-Usage.field-0-is
    (c.in-Err-Usage.ensures.proxy_only plan (Many workers) says))
