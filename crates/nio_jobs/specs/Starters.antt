-- What starts operations: a group.
use Rattle.nio_group.specs.Group.{Group}
use Rattle.nio_group.specs.Run as run
use Rattle.nio_jobs.specs.declared.starter.Starter.{Ghosts}

abbrev pub of_group : Ghosts Group
of_group = record { group = λ g. g; after = run.after }
