-- How queues and passes are kept.
use Rattle.std.specs.Prelude.{◌≡◌, ℕ, ◌<◌, []}
use Rattle.crossbeam_queue.specs.Passes.{Pass, view}
use Rattle.nio_group.specs.Completion.{CompletionFields}
use Rattle.nio_pool.specs.declared.hand.Hand.{Hand}
use Rattle.nio_pool.specs.Queues.{PassFields}

abbrev pub pass_of : Pass CompletionFields Hand → PassFields
pass_of pass = record { queue = pass.table_id; hand = view pass }

pub record IsPassKept (pass : Pass CompletionFields Hand) (parts : ℕ) : Type 0 where
  -- it carries no slot of the queue
  pub carries_nothing : pass.me.1 ≡ []
  pub counted : parts ≡ (view pass).parts
  pub some_part : 0 < parts
