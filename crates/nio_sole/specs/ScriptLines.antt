-- What a script does on the table.
use Rattle.std.specs.Prelude.{◌≡◌, List, ◌++◌, map}
use Rattle.nio_base.specs.declared.limits.Limits.{Limits}
use Rattle.nio_history.specs.declared.act.Act.{Act}
use Rattle.nio_history.specs.declared.event.Event.{Event}
use Rattle.nio_language.specs.declared.call.ScriptCall.{ScriptCall}
use Rattle.nio_plain.specs.ScriptState.{script_opening}
use Rattle.nio_serial.specs.Documented.{Progress, nothing_yet}
use Rattle.nio_serial.specs.Lines.{Said}
use Rattle.nio_serial.specs.Serial.{Entry, line, AreLines, history_of, left_in_progress, replies_from}
use Rattle.nio_sole.specs.Drawn.{draws}

-- a line that was made: its call, what its caller did, and what the line said
pub record ScriptLine : Type 0 where
  pub call : ScriptCall
  pub acts : List Act
  pub said : Said

abbrev pub entry_of : ScriptLine → Entry
entry_of x = line x.call.caller x.call.call x.acts x.said

-- The history is the draws of all numbers, and then the lines of these calls, in order: each a whole run of its look-ups
-- and its call, over before the next begins, with its documented reply. They leave this in progress.
pub record AreScriptLines (l : Limits) (calls : List ScriptCall) (history : List Event) (now : Progress) : Type 0 where
  pub lines : List ScriptLine
  pub history_is : history ≡ history_of (draws l.callers ++ map entry_of lines)
  pub of_calls : map (λ x. x.call) lines ≡ calls
  pub runs : AreLines l nothing_yet (map entry_of lines)
  pub replies : map (λ x. x.said.reply) lines ≡ replies_from l script_opening calls
  pub leaves : now ≡ left_in_progress nothing_yet (map entry_of lines)
