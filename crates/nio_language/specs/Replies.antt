-- The texts of replies, and the lines of a history.
use Rattle.std.specs.Prelude.{ℕ, List, [], ◌∷◌, ◌++◌, map, codes}
use Rattle.std.specs.Fmt.{decimal}
use Rattle.std.specs.List.{join_with_byte}
use Rattle.nio_base.specs.declared.numbers.CallerNo.{CallerNo}
use Rattle.nio_base.specs.declared.numbers.KeyId.{KeyId}
use Rattle.nio_history.specs.declared.why.Why.{Why}
use Rattle.nio_history.specs.declared.why.Why.TheVariants as why
use Rattle.nio_language.specs.Calls.{line_text}
use Rattle.nio_language.specs.GroupReplies.{group_reply_words}
use Rattle.nio_language.specs.Words.{bytes_word, selector_word, channel_word, key_word, pair_word}
use Rattle.nio_language.specs.declared.call.Call.{Call}
use Rattle.nio_language.specs.declared.reply.Reply.{Reply}
use Rattle.nio_language.specs.declared.reply.Reply.TheVariants as reply

abbrev pub why_word : Why → List ℕ
why_word why.Ready = codes "ready"
why_word why.Closed = codes "closed"
why_word why.Now = codes "now"
why_word why.Woken = codes "woken"
why_word why.Interrupted = codes "interrupted"
why_word why.Elapsed = codes "elapsed"

-- pairs, or the word none
abbrev pub pairs_words : List (KeyId × ℕ) → List (List ℕ)
pairs_words [] = codes "none" ∷ []
pairs_words (p ∷ ps) = map pair_word (p ∷ ps)

abbrev pub reply_words : Reply → List (List ℕ)
reply_words (reply.Selector s) = selector_word s ∷ []
reply_words (reply.Channel c) = channel_word c ∷ []
reply_words (reply.Key k) = key_word k ∷ []
reply_words (reply.Number n) = decimal n ∷ []
reply_words (reply.Names keys) = map key_word keys
reply_words reply.«Ok» = codes "ok" ∷ []
reply_words reply.Yes = codes "yes" ∷ []
reply_words reply.No = codes "no" ∷ []
reply_words reply.None = codes "none" ∷ []
reply_words (reply.Looked pairs) = codes "looked" ∷ pairs_words pairs
reply_words (reply.Selected count why) = codes "selected" ∷ decimal count ∷ why_word why ∷ []
reply_words reply.Again = codes "again" ∷ []
reply_words reply.Left = codes "left" ∷ []
reply_words reply.Already = codes "already" ∷ []
reply_words reply.Closing = codes "closing" ∷ []
reply_words reply.Closed = codes "closed" ∷ []
reply_words reply.SelectorsSpent = codes "selectors-spent" ∷ []
reply_words reply.ChannelsSpent = codes "channels-spent" ∷ []
reply_words reply.ClosedChannel = codes "closed-channel" ∷ []
reply_words reply.IllegalBlockingMode = codes "illegal-blocking-mode" ∷ []
reply_words reply.IllegalOps = codes "illegal-ops" ∷ []
reply_words reply.CancelledKey = codes "cancelled-key" ∷ []
reply_words reply.ClosedSelector = codes "closed-selector" ∷ []
reply_words reply.Full = codes "full" ∷ []
reply_words reply.Busy = codes "busy" ∷ []
reply_words reply.NegativeTimeout = codes "negative-timeout" ∷ []
reply_words reply.NotSelecting = codes "not-selecting" ∷ []
reply_words reply.NotClosing = codes "not-closing" ∷ []
reply_words reply.NoCaller = codes "no-caller" ∷ []
reply_words reply.NoSelector = codes "no-selector" ∷ []
reply_words reply.NoChannel = codes "no-channel" ∷ []
reply_words reply.NoKey = codes "no-key" ∷ []
reply_words (reply.Ends source sink) = channel_word source ∷ channel_word sink ∷ []
reply_words (reply.Bytes bytes) = bytes_word bytes ∷ []
reply_words reply.End = codes "end" ∷ []
reply_words reply.NotOwner = codes "not-owner" ∷ []
reply_words reply.ClosedByInterrupt = codes "closed-by-interrupt" ∷ []
reply_words reply.AsyncClose = codes "async-close" ∷ []
reply_words reply.BrokenPipe = codes "broken-pipe" ∷ []
reply_words (reply.Group r) = group_reply_words r

abbrev pub reply_text : Reply → List ℕ
reply_text r = join_with_byte 32 (reply_words r)

-- a line of a history: `1 t1 selector -> s0` and a newline
abbrev pub history_line : ℕ → CallerNo → Call → Reply → List ℕ
history_line number caller call r =
    decimal number ++ codes " " ++ line_text caller call ++ codes " -> " ++ reply_text r ++ 10 ∷ []
