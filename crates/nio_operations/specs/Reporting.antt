-- What reporting the calls of a round does.
use Rattle.std.specs.Prelude.{List}
use Rattle.nio_group.specs.Group.{Group}
use Rattle.nio_jobs.specs.Handling.{after_round}
use Rattle.nio_jobs.specs.Starters.{of_group}
use Rattle.nio_jobs.specs.declared.exchange.Done.{Done}
use Rattle.nio_pool.specs.Moves.{Moves}
use Rattle.nio_pool.specs.Queues.{PassFields}
use Rattle.nio_pool.specs.declared.moving.Moved.{Moved}

-- what the calls came to is reported, and the completions that are then queued are moved into the workers' queue
abbrev pub ReportsAndMoves : List Done → Group → Group → PassFields → PassFields → Moved → Type 0
ReportsAndMoves done core left old new moved = Moves (after_round of_group core done) left old new moved
