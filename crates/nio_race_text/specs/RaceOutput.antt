-- The output of a race: for each caller its calls behind `go`, numbered from 1, with their replies.
use Rattle.std.specs.Prelude.{ℕ, List, [], ◌∷◌, ◌++◌, codes}
use Rattle.std.specs.Fmt.{decimal}
use Rattle.std.specs.List.{join_with_byte}
use Rattle.nio_base.specs.declared.numbers.CallerNo.{CallerNo}
use Rattle.nio_language.specs.Replies.{reply_text}
use Rattle.nio_language.specs.Words.{caller_word}
use Rattle.nio_language.specs.declared.reply.Reply.{Reply}
use Rattle.nio_race_text.specs.RaceLines.{race_words}
use Rattle.nio_race_text.specs.declared.call.RaceCall.{RaceCall}

-- a caller's call number j with its reply: `t2 1 wakeup s0 -> ok` and a newline
abbrev pub race_line_text : CallerNo → ℕ → RaceCall → Reply → List ℕ
race_line_text caller j call reply =
    caller_word caller ++ codes " " ++ decimal j ++ codes " " ++ join_with_byte 32 (race_words call) ++ codes " -> "
    ++ reply_text reply ++ 10 ∷ []
