-- What a line on a desk says and leaves.
use Rattle.std.specs.Prelude.{◌≡◌, Result, IfOk, OnErr, List, ◌++◌, map}
use Rattle.std.specs.declared.alloc.AllocError.{AllocError}
use mathlib.Core.List.{IsPrefix}
use Rattle.nio_base.specs.declared.limits.Limits.{Limits}
use Rattle.nio_base.specs.declared.numbers.CallerNo.{CallerNo}
use Rattle.nio_history.specs.Histories.{event_of}
use Rattle.nio_history.specs.declared.act.Act.{Act}
use Rattle.nio_history.specs.declared.event.Event.{Event}
use Rattle.nio_language.specs.declared.call.Call.{Call}
use Rattle.nio_language.specs.declared.call.ScriptCall.{ScriptCall}
use Rattle.nio_language.specs.declared.reply.Reply.{Reply}
use Rattle.nio_plain.specs.ScriptState.{ScriptState}
use Rattle.nio_plain.specs.Seq.{seq}
use Rattle.nio_plain.specs.declared.rules.Rules.TheVariants.{Now}
use Rattle.nio_serial.specs.Documented.{Progress, documented}
use Rattle.nio_serial.specs.Lines.{if_named, line_plan}
use Rattle.nio_sole.specs.Makes.{LooksAndLacks}
use Rattle.nio_sole.specs.Stands.{progress_of, Stands}
use Rattle.nio_sole.specs.declared.desk.Desk.{Desk}
use Rattle.nio_steps.specs.Runs.{Completes}
use Rattle.nio_words.specs.Passes.{limits_of, state_seen, seen}
use Rattle.nio_words.specs.declared.words.Words.{Words}

-- the documented state
abbrev pub state_at : Desk → ScriptState
state_at d = documented (state_seen d.pass) (progress_of d)

-- The line was made: what was seen grew by what its caller did in it.
pub record MadeLine (w : Words) (old new : Desk) (me : CallerNo) (word : Call) (r : Reply) : Type 0 where
  pub acts : List Act
  pub grew : seen new.pass ≡ seen old.pass ++ map (event_of me) acts
  pub run : Completes (line_plan (limits_of w) (progress_of old) me word) acts
      (record { reply = r; left = progress_of new })

-- The line lacked memory, with this in progress: the history grew by its look-ups, which found every name, and by what
-- was done of its call.
pub record LacksLine (l : Limits) (now : Progress) (c : ScriptCall) (old new : List Event) : Type 0 where
  pub acts : List Act
  pub grew : new ≡ old ++ map (event_of c.caller) acts
  pub run : LooksAndLacks (if_named l now c.call) c.call acts

-- the line's reply and state are those of the documented system; one that lacks memory leaves the state
pub record SaysLine (w : Words) (old new : Desk) (me : CallerNo) (word : Call)
    (result : Result Reply AllocError) : Type 0 where
  pub stands : Stands w new
  pub reply : IfOk result (λ r. r ≡ (seq Now (limits_of w) (state_at old) me word).reply)
  pub left : IfOk result (λ _. state_at new ≡ (seq Now (limits_of w) (state_at old) me word).left)
  pub memory : OnErr result (state_at new ≡ state_at old)
  pub later : IsPrefix (seen old.pass) (seen new.pass)
  pub made : IfOk result (MadeLine w old new me word)
  pub lacks : OnErr result (LacksLine (limits_of w) (progress_of old) (record { caller = me; call = word })
      (seen old.pass) (seen new.pass))
  pub still : OnErr result (progress_of new ≡ progress_of old)
