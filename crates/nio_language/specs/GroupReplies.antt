-- The texts of the replies that calls on the group alone have.
use Rattle.std.specs.Prelude.{ℕ, List, [], ◌∷◌, codes}
use Rattle.nio_language.specs.GroupWords.{group_channel_word, operation_word, finished_words}
use Rattle.nio_language.specs.declared.group_reply.GroupReply.{GroupReply}
use Rattle.nio_language.specs.declared.group_reply.GroupReply.TheVariants as reply

abbrev pub group_reply_words : GroupReply → List (List ℕ)
group_reply_words (reply.Channel g) = group_channel_word g ∷ []
group_reply_words (reply.Op n) = codes "op" ∷ operation_word n ∷ []
group_reply_words (reply.Completed n finished) = codes "op" ∷ operation_word n ∷ finished_words finished
group_reply_words reply.ShutdownGroup = codes "shutdown-group" ∷ []
group_reply_words reply.WrongKind = codes "wrong-kind" ∷ []
group_reply_words reply.AlreadyBound = codes "already-bound" ∷ []
group_reply_words reply.AlreadyConnected = codes "already-connected" ∷ []
group_reply_words reply.ConnectionPending = codes "connection-pending" ∷ []
group_reply_words reply.NotYetConnected = codes "not-yet-connected" ∷ []
group_reply_words reply.NotYetBound = codes "not-yet-bound" ∷ []
group_reply_words reply.ReadPending = codes "read-pending" ∷ []
group_reply_words reply.WritePending = codes "write-pending" ∷ []
group_reply_words reply.AcceptPending = codes "accept-pending" ∷ []
group_reply_words reply.OpsSpent = codes "ops-spent" ∷ []
group_reply_words reply.FlightFull = codes "flight-full" ∷ []
group_reply_words reply.NotPending = codes "not-pending" ∷ []
group_reply_words reply.WrongOutcome = codes "wrong-outcome" ∷ []
group_reply_words reply.NotRunning = codes "not-running" ∷ []
