-- Numbers of a step with which the judge counts on are within their types. A step's condition says more.
use Rattle.std.specs.Prelude.{◌*◌, ◌<◌, ⊤}
use Rattle.nio_audit.specs.StepNumbers.{StepNumber, no_number, channel_made, index_claimed, index_claimed_again}
use Rattle.nio_audit.specs.StepNumbers.{part_looked_at, part_taken, channel_reopened}
use Rattle.nio_base.specs.Numbers.{last_serial}
use Rattle.nio_history.specs.State.{State}

-- an index that is claimed again has a next serial, and so has a channel whose number is given to a new one; the indexes
-- whose bits are taken are some that a table can have
abbrev pub IsBounded : State → StepNumber → Type 0
IsBounded st no_number = ⊤
IsBounded st (channel_made _) = ⊤
IsBounded st (index_claimed _ _) = ⊤
IsBounded st (index_claimed_again s i _) = (st.key s i).serial < last_serial
IsBounded st (part_looked_at _) = ⊤
IsBounded st (part_taken j) = 64 * j < 262144
IsBounded st (channel_reopened serial) = serial < last_serial

-- the stage from which an index is claimed again has a next serial
abbrev pub IsRemembered : StepNumber → Type 0
IsRemembered no_number = ⊤
IsRemembered (channel_made _) = ⊤
IsRemembered (index_claimed _ _) = ⊤
IsRemembered (index_claimed_again _ _ from) = from.serial < last_serial
IsRemembered (part_looked_at _) = ⊤
IsRemembered (part_taken _) = ⊤
IsRemembered (channel_reopened _) = ⊤

-- a channel that is made, or an index that is claimed, is one that a table can have
abbrev pub IsCountable : StepNumber → Type 0
IsCountable no_number = ⊤
IsCountable (channel_made c) = c < 262144
IsCountable (index_claimed _ i) = i < 262144
IsCountable (index_claimed_again _ _ _) = ⊤
IsCountable (part_looked_at _) = ⊤
IsCountable (part_taken _) = ⊤
IsCountable (channel_reopened _) = ⊤

-- the indexes among which free or touched ones are looked for are some that a table can have
abbrev pub IsReadable : StepNumber → Type 0
IsReadable no_number = ⊤
IsReadable (channel_made _) = ⊤
IsReadable (index_claimed _ _) = ⊤
IsReadable (index_claimed_again _ _ _) = ⊤
IsReadable (part_looked_at j) = 64 * j < 262144
IsReadable (part_taken j) = 64 * j < 262144
IsReadable (channel_reopened _) = ⊤
