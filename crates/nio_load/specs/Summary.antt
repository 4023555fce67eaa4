-- What `load` says of a script: its lines, its selections, and the keys that these updated.
use Rattle.std.specs.Prelude.{ℕ, ◌+◌, Option, None, Some, List, [], ◌∷◌, ◌++◌, length, codes, sum}
use Rattle.std.specs.Fmt.{decimal}
use Rattle.std.specs.List.{filter_map}
use Rattle.nio_base.specs.declared.limits.Limits.{Limits}
use Rattle.nio_language.specs.Replies.{history_line}
use Rattle.nio_language.specs.declared.call.ScriptCall.{ScriptCall}
use Rattle.nio_language.specs.declared.reply.Reply.{Reply}
use Rattle.nio_language.specs.declared.reply.Reply.TheVariants as reply
use Rattle.nio_plain.specs.ScriptState.{ScriptState, script_opening}
use Rattle.nio_plain.specs.Seq.{seq}
use Rattle.nio_plain.specs.declared.rules.Rules.{Rules}

-- the replies to calls from a state on
abbrev pub replies_from : Rules → Limits → ScriptState → List ScriptCall → List Reply
replies_from rules l st [] = []
replies_from rules l st (c ∷ calls) =
    let done = seq rules l st c.caller c.call in
    done.reply ∷ replies_from rules l done.left calls

-- calls with their replies, as lines of a history text, numbered from n on
abbrev pub history_of : ℕ → List ScriptCall → List Reply → List ℕ
history_of n [] replies = []
history_of n (c ∷ calls) [] = []
history_of n (c ∷ calls) (r ∷ replies) = history_line n c.caller c.call r ++ history_of (n + 1) calls replies

-- the count of a reply `selected`
abbrev pub count_of : Reply → Option ℕ
count_of (reply.Selected count why) = Some count
count_of (reply.Selector s) = None
count_of (reply.Channel c) = None
count_of (reply.Key k) = None
count_of (reply.Number n) = None
count_of (reply.Names keys) = None
count_of reply.«Ok» = None
count_of reply.Yes = None
count_of reply.No = None
count_of reply.None = None
count_of (reply.Looked pairs) = None
count_of reply.Again = None
count_of reply.Left = None
count_of reply.Already = None
count_of reply.Closing = None
count_of reply.Closed = None
count_of reply.SelectorsSpent = None
count_of reply.ChannelsSpent = None
count_of reply.ClosedChannel = None
count_of reply.IllegalBlockingMode = None
count_of reply.IllegalOps = None
count_of reply.CancelledKey = None
count_of reply.ClosedSelector = None
count_of reply.Full = None
count_of reply.Busy = None
count_of reply.NegativeTimeout = None
count_of reply.NotSelecting = None
count_of reply.NotClosing = None
count_of reply.NoCaller = None
count_of reply.NoSelector = None
count_of reply.NoChannel = None
count_of reply.NoKey = None
count_of (reply.Ends source sink) = None
count_of (reply.Bytes bytes) = None
count_of reply.End = None
count_of reply.NotOwner = None
count_of reply.ClosedByInterrupt = None
count_of reply.AsyncClose = None
count_of reply.BrokenPipe = None
count_of (reply.Group r) = None

-- the counts of the replies `selected` to calls from a state on
abbrev pub counts_from : Rules → Limits → ScriptState → List ScriptCall → List ℕ
counts_from rules l st calls = filter_map count_of (replies_from rules l st calls)

abbrev pub summary_text : ℕ → List ℕ → List ℕ
summary_text lines counts =
    codes "lines " ++ decimal lines
    ++ codes "\nselections " ++ decimal (length counts)
    ++ codes "\nupdates " ++ decimal (sum counts)
    ++ 10 ∷ []

-- the number of a script's calls, the number of replies `selected` to them, and the sum of the counts of these
abbrev pub summary_of : Rules → Limits → List ScriptCall → List ℕ
summary_of rules l calls = summary_text (length calls) (counts_from rules l script_opening calls)
