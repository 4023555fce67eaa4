-- The sole use of a table, as the system of a script.
use Rattle.std.specs.Prelude.{◌≡◌, Result, List}
use Rattle.std.specs.declared.alloc.AllocError.{AllocError}
use mathlib.Core.List.{IsPrefix}
use Rattle.nio_base.specs.declared.limits.Limits.{Limits}
use Rattle.nio_language.specs.declared.call.ScriptCall.{ScriptCall}
use Rattle.nio_language.specs.declared.reply.Reply.{Reply}
use Rattle.nio_plain.specs.ScriptState.{ScriptState}
use Rattle.nio_plain.specs.declared.rules.Rules.{Rules}
use Rattle.nio_plain.specs.declared.rules.Rules.TheVariants.{Now}
use Rattle.nio_serial.specs.Documented.{Progress}
use Rattle.nio_sole.specs.Said.{SaysLine, state_at}
use Rattle.nio_sole.specs.ScriptLines.{AreScriptLines}
use Rattle.nio_sole.specs.Stands.{progress_of}
use Rattle.nio_sole.specs.declared.sole.Sole.{Sole}
use Rattle.nio_words.specs.Passes as passes
use Rattle.nio_words.specs.declared.words.Pass.{Pass}
use Rattle.nio_words.specs.declared.words.Words.{Words}

-- its table
abbrev pub words_of : Sole → Words
words_of sole = sole.words.now

-- its pass
abbrev pub pass_of : Sole → Pass
pass_of sole = sole.desk.pass

abbrev pub limits_of : Sole → Limits
limits_of sole = passes.limits_of (words_of sole)

-- it answers by the rules of now
abbrev pub rules_of : Sole → Rules
rules_of sole = Now

abbrev pub state_of : Sole → ScriptState
state_of sole = state_at sole.desk

-- from one moment to a later one: the table stays, and the history goes on
pub record Kept (before after : Sole) : Type 0 where
  pub table : words_of after ≡ words_of before
  pub later : IsPrefix (passes.seen (pass_of before)) (passes.seen (pass_of after))

-- What a call did that had this result: it is a line on its table.
pub record Does (before after : Sole) (c : ScriptCall) (result : Result Reply AllocError) : Type 0 where
  pub table : words_of after ≡ words_of before
  pub says : SaysLine (words_of before) before.desk after.desk c.caller c.call result

-- what it has in progress
abbrev pub in_progress : Sole → Progress
in_progress sole = progress_of sole.desk

-- Every number was drawn, and these calls were made: all that its pass has seen.
abbrev pub HasMadeLines : Sole → List ScriptCall → Type 0
HasMadeLines sole calls = AreScriptLines (limits_of sole) calls (passes.seen (pass_of sole)) (in_progress sole)
