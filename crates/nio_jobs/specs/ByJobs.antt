-- What a way by jobs has.
use Rattle.std.specs.Prelude.{◌≡◌, ℕ, ◌+◌, ◌≤◌, None, [], replicate, vec_capacity}
use Rattle.nio_jobs.specs.declared.by_jobs.ByJobs.{ByJobs}
use Rattle.nio_jobs.specs.Jobs.{no_jobs}

-- with whom it exchanges jobs
abbrev pub exchange_of : {E : Type 0} → ByJobs E → E
exchange_of way = way.exchange

-- It was just made, with room for this many channels, and for the jobs of this many operations: no job has come, and no
-- call was made.
pub record IsNew {E : Type 0} (exchange : E) (channels flight : ℕ) (way : ByJobs E) : Type 0 where
  pub exchanges : exchange_of way ≡ exchange
  pub jobs : way.jobs ≡ replicate channels (no_jobs 0)
  pub unreported : way.done.items ≡ []
  pub arrived : way.arrived.items ≡ []
  pub fresh : way.fresh.items ≡ []
  pub unread : way.emptied ≡ None
  pub room_to_note : channels + flight ≤ vec_capacity way.done
  pub room_to_arrive : flight ≤ vec_capacity way.arrived
  pub room_to_take_in : flight ≤ vec_capacity way.fresh
