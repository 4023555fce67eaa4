-- The texts of the replies of a timed script, and the lines of its history.
use Rattle.std.specs.Prelude.{ℕ, List, [], ◌∷◌, ◌++◌, codes}
use Rattle.std.specs.Fmt.{decimal}
use Rattle.std.specs.List.{join_with_byte}
use Rattle.nio_language.specs.GroupWords.{operation_word}
use Rattle.nio_language.specs.Replies.{reply_words}
use Rattle.nio_timed.specs.Lines.{timed_line_text}
use Rattle.nio_timed.specs.declared.call.TimedLine.{TimedLine}
use Rattle.nio_timed.specs.declared.reply.TimedReply.{TimedReply}
use Rattle.nio_timed.specs.declared.reply.TimedReply.TheVariants as reply

abbrev pub timed_reply_words : TimedReply → List (List ℕ)
timed_reply_words (reply.Script r) = reply_words r
timed_reply_words reply.NoLimitHere = codes "no-limit-here" ∷ []
timed_reply_words reply.LimitTooLong = codes "limit-too-long" ∷ []
timed_reply_words reply.TimedOut = codes "timed-out" ∷ []
timed_reply_words (reply.Timeout n) = codes "op" ∷ operation_word n ∷ codes "timeout" ∷ []

abbrev pub timed_reply_text : TimedReply → List ℕ
timed_reply_text r = join_with_byte 32 (timed_reply_words r)

-- a line of a history: `7 t1 next -> 150` and a newline
abbrev pub timed_history_line : ℕ → TimedLine → TimedReply → List ℕ
timed_history_line number l r =
    decimal number ++ codes " " ++ timed_line_text l ++ codes " -> " ++ timed_reply_text r ++ 10 ∷ []
