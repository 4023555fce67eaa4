-- How many channels are made and how many indexes of each selector are claimed, after a step with this number.
use Rattle.std.specs.Prelude.{◌≡◌, ℕ, ◌+◌, max, nat_lt}
use Rattle.nio_audit.specs.StepNumbers.{StepNumber, no_number, channel_made, index_claimed, index_claimed_again}
use Rattle.nio_audit.specs.StepNumbers.{part_looked_at, part_taken, channel_reopened}
use Rattle.nio_history.specs.State.{State, put}

abbrev pub channels_after : ℕ → StepNumber → ℕ
channels_after n no_number = n
channels_after n (channel_made c) = max n (c + 1)
channels_after n (index_claimed _ _) = n
channels_after n (index_claimed_again _ _ _) = n
channels_after n (part_looked_at _) = n
channels_after n (part_taken _) = n
channels_after n (channel_reopened _) = n

abbrev pub keys_after : (ℕ → ℕ) → StepNumber → ℕ → ℕ
keys_after f no_number = f
keys_after f (channel_made _) = f
keys_after f (index_claimed s i) = put f s (max (f s) (i + 1))
keys_after f (index_claimed_again _ _ _) = f
keys_after f (part_looked_at _) = f
keys_after f (part_taken _) = f
keys_after f (channel_reopened _) = f

-- the channels below the number are made and no others, and the indexes of each selector below its number are claimed
-- and no others
pub record IsCounted (st : State) (channels : ℕ) (keys : ℕ → ℕ) : Type 0 where
  pub made : (c : ℕ) → (st.chan c).made ≡ nat_lt c channels
  pub claimed : (s i : ℕ) → (st.key s i).claimed ≡ nat_lt i (keys s)
