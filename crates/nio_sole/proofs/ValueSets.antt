-- Replies and states of scripts are sets: that two of them are the same has at most one proof.
use Rattle.std.proofs.Common.{ℕ, Option, List}
use Rattle.std.proofs.Math.Bool.{Bool-set}
use Rattle.std.proofs.Math.Nat.{ℕ_set}
use mathlib.Core.List as lists
use mathlib.Core.Sum.{⊎_set}
use Rattle.nio_base.specs.declared.group.Finished.{Finished}
use Rattle.nio_base.specs.declared.numbers.KeyId.{KeyId}
use Rattle.nio_group.specs.Flight.{Flight}
use Rattle.nio_group.specs.Group.{Group}
use Rattle.nio_group.specs.declared.channel.Channel.{Channel}
use Rattle.nio_group.specs.declared.channel.Endpoint.{Endpoint}
use Rattle.nio_group.specs.declared.operation.Operation.{Operation}
use Rattle.nio_group.specs.declared.operation.Stage.{Stage}
use Rattle.nio_history.specs.declared.found.Mode.{Mode}
use Rattle.nio_language.specs.declared.group_reply.GroupReply.{GroupReply}
use Rattle.nio_language.specs.declared.reply.Reply.{Reply}
use Rattle.nio_plain.specs.ScriptState.{Pipe, ScriptState}

option_set : {A : Type 0} → IsSet A → IsSet (Option A)
option_set set = hlevel (set, ⊎_set)

numbers_set : IsSet (List ℕ)
numbers_set = lists.is_set ℕ_set

key_id_set : IsSet KeyId
key_id_set = hlevel ℕ_set

pairs_set : IsSet (List (KeyId × ℕ))
pairs_set = lists.is_set (hlevel (key_id_set, ℕ_set))

mode_set : IsSet Mode
mode_set = hlevel (ℕ_set, ⊎_set)

-- ---- replies

finished_set : IsSet Finished
finished_set = hlevel (ℕ_set, ⊎_set)

group_reply_set : IsSet GroupReply
group_reply_set = hlevel (ℕ_set, ⊎_set, finished_set)

pub reply_set : IsSet Reply
reply_set = hlevel (ℕ_set, ⊎_set, pairs_set, lists.is_set key_id_set, numbers_set, group_reply_set)

-- ---- states

stage_set : IsSet Stage
stage_set = hlevel (ℕ_set, ⊎_set, finished_set)

operation_set : IsSet Operation
operation_set = hlevel (ℕ_set, ⊎_set, stage_set)

flight_set : IsSet Flight
flight_set = hlevel (ℕ_set, numbers_set, lists.is_set (option_set operation_set))

endpoint_set : IsSet Endpoint
endpoint_set = hlevel (Bool-set, ⊎_set)

channel_set : IsSet Channel
channel_set = hlevel (ℕ_set, Bool-set, endpoint_set)

group_set : IsSet Group
group_set = hlevel (ℕ_set, Bool-set, flight_set, lists.is_set channel_set)

pipe_set : IsSet Pipe
pipe_set = hlevel (ℕ_set, Bool-set, numbers_set)

pub script_set : IsSet ScriptState
script_set = hlevel (ℕ_set, Bool-set, ⊎_set, option_set, mode_set, pairs_set, group_set, lists.is_set pipe_set)
