-- Serial histories of lines: callers are drawn and lines are made one after the other, each over before the next
-- begins.
use Rattle.std.specs.Prelude.{◌≡◌, ⊤, false, List, [], ◌∷◌, ◌++◌, map}
use Rattle.nio_base.specs.Limits.{IsFit}
use Rattle.nio_base.specs.declared.limits.Limits.{Limits}
use Rattle.nio_base.specs.declared.numbers.CallerNo.{CallerNo}
use Rattle.nio_history.specs.Histories.{state_after, event_of, IsLegal}
use Rattle.nio_history.specs.declared.act.Act.{Act}
use Rattle.nio_history.specs.declared.act.Act.TheVariants.{DrawBit}
use Rattle.nio_history.specs.declared.event.Event.{Event}
use Rattle.nio_language.specs.declared.call.Call.{Call}
use Rattle.nio_language.specs.declared.call.ScriptCall.{ScriptCall}
use Rattle.nio_language.specs.declared.reply.Reply.{Reply}
use Rattle.nio_plain.specs.Answer.{left_by_script}
use Rattle.nio_plain.specs.ScriptState.{ScriptState, script_opening}
use Rattle.nio_plain.specs.Seq.{seq}
use Rattle.nio_plain.specs.declared.rules.Rules.TheVariants.{Now}
use Rattle.nio_steps.specs.Runs.{Completes}
use Rattle.nio_serial.specs.Between.{IsBetween}
use Rattle.nio_serial.specs.Documented.{Progress, nothing_yet, documented}
use Rattle.nio_serial.specs.Lines.{Said, line_plan}

-- a caller that drew its number, or made a line: its call, what the caller did, and what the line said
pub data Entry : Type 0 where
  draw : CallerNo → Entry
  line : CallerNo → Call → List Act → Said → Entry

-- the events of these entries, one after the other
abbrev pub history_of : List Entry → List Event
history_of [] = []
history_of (draw n ∷ later) = event_of n (DrawBit n false) ∷ history_of later
history_of (line me word acts said ∷ later) = map (event_of me) acts ++ history_of later

-- each line's acts are a whole run of its plan, with what is in progress before it
abbrev pub AreLines : Limits → Progress → List Entry → Type 0
AreLines l now [] = ⊤
AreLines l now (draw n ∷ later) = AreLines l now later
AreLines l now (line me word acts said ∷ later) =
    Completes (line_plan l now me word) acts said × AreLines l said.left later

-- what is in progress after them
abbrev pub left_in_progress : Progress → List Entry → Progress
left_in_progress now [] = now
left_in_progress now (draw n ∷ later) = left_in_progress now later
left_in_progress now (line me word acts said ∷ later) = left_in_progress said.left later

-- the lines as a script, and their replies
abbrev pub script_of : List Entry → List ScriptCall
script_of [] = []
script_of (draw n ∷ later) = script_of later
script_of (line me word acts said ∷ later) = record { caller = me; call = word } ∷ script_of later

abbrev pub replies_of : List Entry → List Reply
replies_of [] = []
replies_of (draw n ∷ later) = replies_of later
replies_of (line me word acts said ∷ later) = said.reply ∷ replies_of later

-- the replies of the documented system to a script, by the rules of now
abbrev pub replies_from : Limits → ScriptState → List ScriptCall → List Reply
replies_from l st [] = []
replies_from l st (c ∷ calls) =
    let done = seq Now l st c.caller c.call in
    done.reply ∷ replies_from l done.left calls

-- what a serial history of lines comes to: the replies and the state of the documented system, between two calls
pub record AmountToScript (l : Limits) (entries : List Entry) : Type 0 where
  pub replies : replies_of entries ≡ replies_from l script_opening (script_of entries)
  pub left : documented (state_after (history_of entries)) (left_in_progress nothing_yet entries) ≡ left_by_script Now l
      (script_of entries)
  pub between : IsBetween l (state_after (history_of entries)) (left_in_progress nothing_yet entries)

-- Where lines don't overlap, a legal history of them is a run of the script by the documented system.
abbrev pub SerialLinesAmount : Type 0
SerialLinesAmount = (l : Limits) (entries : List Entry)
    → IsFit l → IsLegal l (history_of entries) → AreLines l nothing_yet entries → AmountToScript l entries
