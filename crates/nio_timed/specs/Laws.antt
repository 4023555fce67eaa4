-- Laws of timed scripts.
use Rattle.std.specs.Prelude.{◌≡◌, ◌⊎◌, ◌↔◌, ℕ, List, [], ◌∷◌, ◌++◌, if◌then◌else◌}
use Rattle.nio_base.specs.declared.group.Finished.{Finished}
use Rattle.nio_base.specs.declared.numbers.GChan.{GChan}
use Rattle.nio_base.specs.declared.numbers.OpNo.{OpNo}
use Rattle.nio_group.specs.Group.{is_made}
use Rattle.nio_deadline.specs.Run as step
use Rattle.nio_deadline.specs.Run.{IsRunOf, TimesOut, left_by}
use Rattle.nio_deadline.specs.Timed.{Timed}
use Rattle.nio_language.specs.declared.group_call.GroupCall.TheVariants as group
use Rattle.nio_language.specs.declared.group_reply.GroupReply.TheVariants.{Completed}
use Rattle.nio_language.specs.declared.reply.Reply.TheVariants as plain
use Rattle.nio_timed.specs.Called.{timed_left, timed_left_from, timed_opening, timed_reply}
use Rattle.nio_timed.specs.Lines.{IsTimedScript}
use Rattle.nio_timed.specs.declared.call.TimedCall.{TimedCall}
use Rattle.nio_timed.specs.declared.call.TimedCall.TheVariants.{Group, StartTimed, Expire, Next}
use Rattle.nio_timed.specs.declared.call.TimedLine.{TimedLine}
use Rattle.nio_timed.specs.declared.reply.TimedReply.{TimedReply}
use Rattle.nio_timed.specs.declared.reply.TimedReply.TheVariants.{Script, Timeout}

-- a text is a timed script of one list of calls
abbrev pub IsReadOneWay : Type 0
IsReadOneWay = (text : List ℕ) (calls others : List TimedLine) → IsTimedScript text calls → IsTimedScript text others
    → calls ≡ others

-- ---- the timed steps of a script

-- a channel that was never made makes the call no step
abbrev pub if_made : Timed → GChan → step.Call → List step.Call
if_made t chan call = if is_made t.group chan then call ∷ [] else []

-- the timed steps of a call: one, or none where it only asks or names a channel that was never made
abbrev pub steps_of : Timed → TimedCall → List step.Call
steps_of t (Group (group.Gopen kind)) = step.open_channel kind ∷ []
steps_of t (Group (group.Gbind chan)) = if_made t chan (step.bind chan)
steps_of t (Group (group.Start chan kind len)) = if_made t chan (step.start_timed chan kind len 0 0)
steps_of t (Group (group.Report n outcome)) = step.report n outcome ∷ []
steps_of t (Group group.Take) = step.take ∷ []
steps_of t (Group (group.Done n)) = step.finish n ∷ []
steps_of t (Group (group.Gclose chan)) = if_made t chan (step.close_channel chan)
steps_of t (Group group.Shutdown) = step.shutdown ∷ []
steps_of t (Group group.ShutdownNow) = step.shutdown_now ∷ []
steps_of t (Group group.IsShutdown) = []
steps_of t (Group group.Terminated) = []
steps_of t (StartTimed s) = if_made t s.chan (step.start_timed s.chan s.kind s.len s.now s.limit)
steps_of t (Expire now) = step.expire now ∷ []
steps_of t Next = []

-- those of calls from a group on
abbrev pub steps_from : Timed → List TimedLine → List step.Call
steps_from t [] = []
steps_from t (l ∷ calls) = steps_of t l.call ++ steps_from (timed_left t l.call) calls

abbrev pub steps_to : List TimedLine → List step.Call
steps_to calls = steps_from timed_opening calls

-- a timed script leaves the group as a run of its steps does: so each law of such runs holds of it
pub record IsRunOfSteps (calls : List TimedLine) : Type 0 where
  pub run : IsRunOf timed_opening (steps_to calls)
  pub left : timed_left_from timed_opening calls ≡ left_by timed_opening (steps_to calls)

abbrev pub AreRuns : Type 0
AreRuns = (calls : List TimedLine) → IsRunOfSteps calls

-- ---- what times out

-- the reply to a `take` hands this operation out, with a timeout or with a result
abbrev pub HandsOut : TimedReply → OpNo → Type 0
HandsOut r n = (r ≡ Timeout n) ⊎ ((finished : Finished) × (r ≡ Script (plain.Group (Completed n finished))))

-- after any calls of a timed script a `take` says that an operation has timed out exactly where a start with a moment and
-- a limit started it, and a later `expire`, at which it was pending, had a moment of at least their sum
abbrev pub TimesOutInScripts : Type 0
TimesOutInScripts =
    (calls : List TimedLine) (n : OpNo)
    → HandsOut (timed_reply (timed_left_from timed_opening calls) (Group group.Take)) n
    → (timed_reply (timed_left_from timed_opening calls) (Group group.Take) ≡ Timeout n)
    ↔ TimesOut n.0 timed_opening (steps_to calls)
