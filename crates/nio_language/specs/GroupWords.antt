-- The words that name what a group has: its channels, their kinds, its operations and what comes of them.
use Rattle.std.specs.Prelude.{ℕ, List, [], ◌∷◌, ◌++◌, codes}
use Rattle.std.specs.Fmt.{decimal}
use Rattle.nio_base.specs.declared.group.Finished.{Finished}
use Rattle.nio_base.specs.declared.group.Finished.TheVariants as finished
use Rattle.nio_base.specs.declared.group.GKind.{GKind}
use Rattle.nio_base.specs.declared.group.GKind.TheVariants as kind
use Rattle.nio_base.specs.declared.group.OpKind.{OpKind}
use Rattle.nio_base.specs.declared.group.OpKind.TheVariants as op
use Rattle.nio_base.specs.declared.group.Outcome.{Outcome}
use Rattle.nio_base.specs.declared.group.Outcome.TheVariants as outcome
use Rattle.nio_base.specs.declared.group.Why.{Why}
use Rattle.nio_base.specs.declared.group.Why.TheVariants as why
use Rattle.nio_base.specs.declared.numbers.GChan.{GChan}
use Rattle.nio_base.specs.declared.numbers.OpNo.{OpNo}
use Rattle.nio_language.specs.Words.{IsName, serial_text}

-- a channel's number, and its serial where that isn't 0: g0, g0.1
abbrev pub group_channel_word : GChan → List ℕ
group_channel_word g = codes "g" ++ decimal g.number ++ serial_text g.serial

-- a channel, as a line may name it
abbrev pub IsGroupName : GChan → Type 0
IsGroupName g = IsName g.number g.serial

-- an operation's number
abbrev pub operation_word : OpNo → List ℕ
operation_word n = decimal n.0

abbrev pub group_kind_word : GKind → List ℕ
group_kind_word kind.Stream = codes "stream"
group_kind_word kind.Listener = codes "listener"

abbrev pub operation_kind_word : OpKind → List ℕ
operation_kind_word op.Accept = codes "accept"
operation_kind_word op.Connect = codes "connect"
operation_kind_word op.Read = codes "read"
operation_kind_word op.Write = codes "write"

-- what came of a pending operation
abbrev pub outcome_words : Outcome → List (List ℕ)
outcome_words (outcome.Count k) = codes "count" ∷ decimal k ∷ []
outcome_words outcome.End = codes "end" ∷ []
outcome_words outcome.Connected = codes "connected" ∷ []
outcome_words outcome.Accepted = codes "accepted" ∷ []
outcome_words outcome.Fault = codes "fault" ∷ []

-- why an operation failed
abbrev pub failure_word : Why → List ℕ
failure_word why.Fault = codes "fault"
failure_word why.AsynchronousClose = codes "async-close"
failure_word why.ClosedChannel = codes "closed-channel"
failure_word why.ShutdownGroup = codes "shutdown-group"
failure_word why.ChannelsSpent = codes "channels-spent"

-- the result of an operation
abbrev pub finished_words : Finished → List (List ℕ)
finished_words (finished.Count k) = codes "count" ∷ decimal k ∷ []
finished_words finished.End = codes "end" ∷ []
finished_words finished.Connected = codes "connected" ∷ []
finished_words (finished.Accepted g) = codes "accepted" ∷ group_channel_word g ∷ []
finished_words (finished.Failed why) = failure_word why ∷ []
