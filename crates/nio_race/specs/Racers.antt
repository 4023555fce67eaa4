-- The callers of a race, each with a pass of its own.
use Rattle.std.specs.Prelude.{◌≡◌, ◌++◌, IsFalse, List, [], ◌∷◌, map, zip}
use Rattle.std.specs.List.{slice_index_or}
use mathlib.Core.List.{IsPrefix}
use Rattle.nio_base.specs.declared.numbers.SelNo.{SelNo}
use Rattle.nio_base.specs.declared.numbers.CallerNo.{CallerNo}
use Rattle.nio_history.specs.Conditions.{IsCaller}
use Rattle.nio_history.specs.PassViews.{HasNoPin}
use Rattle.nio_history.specs.declared.act.Act.{Act}
use Rattle.nio_language.specs.declared.call.Call.{Call}
use Rattle.nio_language.specs.declared.reply.Reply.{Reply}
use Rattle.nio_race_text.specs.declared.call.RaceCall.{RaceCall}
use Rattle.nio_race_text.specs.declared.call.RaceCall.TheVariants.{Script}
use Rattle.nio_race_text.specs.declared.call.RaceLine.{RaceLine}
use Rattle.nio_serial.specs.Lines.{line_plan}
use Rattle.nio_sole.specs.Made.{HasMade}
use Rattle.nio_sole.specs.Stands.{HasPlaces, progress_of}
use Rattle.nio_sole.specs.declared.desk.Desk.{Desk}
use Rattle.nio_steps.specs.Calls.{CallClause}
use Rattle.nio_steps.specs.Runs.{Completes}
use Rattle.nio_words.specs.Passes.{IsPassOf, IsReady, acts_seen, limits_of, seen}
use Rattle.nio_words.specs.Views.{view}
use Rattle.nio_words.specs.declared.words.Words.{Words}
use Rattle.nio_race.specs.Ends.{AreEach, EndsGoOn, HasMadeEnds, ends_of}
use Rattle.nio_race.specs.Race.{calls_by, strange_replies}
use Rattle.nio_race.specs.Runs.{AreRaceLines, Blocks, LooksAndBlocks, MakesRaceLine, MakesScriptLine}
use Rattle.nio_race.specs.declared.ends.OwnEnds.{OwnEnds}
use Rattle.nio_race.specs.declared.racer.Racer.{Racer}

-- What stands of a caller between two of its lines: the desk's pass acts for it, it has no call at work, made whole
-- calls, and has in progress what the desk shows.
pub record StandsFor (w : Words) (d : Desk) (me : CallerNo) : Type 0 where
  pub caller : IsCaller (limits_of w) me
  pub ready : IsReady w d.pass me
  pub unpinned : HasNoPin (view w d.pass) me
  pub places : HasPlaces w d
  pub made : ∥ HasMade (limits_of w) (acts_seen d.pass me) me (progress_of d) ∥₁

-- The channels of its ends of pipes are made too. Its desk has no pipe: they were parted, and it makes none.
pub record StandsWith (w : Words) (d : Desk) (ends : OwnEnds) (me : CallerNo) : Type 0 where
  pub stands : StandsFor w d me
  pub made_ends : HasMadeEnds w d ends
  pub pipeless : d.pipes.items ≡ []

-- What a line of the caller did, and what it said. Its ends of pipes have given and taken what the line and its reply
-- say.
pub record LineOn (w : Words) (d d' : Desk) (ends ends' : OwnEnds) (me : CallerNo) (line : RaceCall) (r : Reply)
    : Type 0 where
  pub made : CallClause me (MakesRaceLine (limits_of w) (ends_of ends) (progress_of d) me line) (view w d.pass)
      (view w d'.pass) (record { reply = r; left = progress_of d' })
  pub went_on : EndsGoOn ((line, r) ∷ []) ends ends'

-- the same of a line whose call scripts have too
abbrev pub CalledOn : Words → Desk → Desk → OwnEnds → OwnEnds → CallerNo → Call → Reply → Type 0
CalledOn w d d' ends ends' me word r = LineOn w d d' ends ends' me (Script word) r

-- what a line did that is made as in a script, again while its call waits for a hold, and what it said
abbrev pub MakesAsScript : Words → Desk → Desk → CallerNo → Call → Reply → Type 0
MakesAsScript w d d' me word r =
    CallClause me (MakesScriptLine (limits_of w) (progress_of d) me word) (view w d.pass) (view w d'.pass)
    (record { reply = r; left = progress_of d' })

-- what a `block` did, and what it said
abbrev pub LooksAndBlocksOn : Words → Desk → Desk → CallerNo → SelNo → Reply → Type 0
LooksAndBlocksOn w d d' me s r =
    CallClause me (LooksAndBlocks (limits_of w) (progress_of d) s) (view w d.pass) (view w d'.pass)
    (record { reply = r; left = progress_of d' })

-- what a `block` did whose selector was found, and what it said
abbrev pub BlocksOn : Words → Desk → Desk → CallerNo → SelNo → Reply → Type 0
BlocksOn w d d' me s r =
    CallClause me (Blocks (progress_of d) s) (view w d.pass) (view w d'.pass)
    (record { reply = r; left = progress_of d' })

-- the same of a script's line that was made once
abbrev pub MakesOnce : Words → Desk → Desk → CallerNo → Call → Reply → Type 0
MakesOnce w d d' me word r =
    CallClause me (Completes (line_plan (limits_of w) (progress_of d) me word)) (view w d.pass) (view w d'.pass)
    (record { reply = r; left = progress_of d' })

abbrev pub StandsAlone : Words → Racer → Type 0
StandsAlone w r = StandsWith w r.desk r.ends r.number

-- it has made no line yet
pub record IsSetOff (w : Words) (r : Racer) : Type 0 where
  pub stands : StandsAlone w r
  pub unanswered : r.replies.items ≡ []
  pub in_memory : IsFalse r.lacks_memory

-- the line was made, and its reply comes behind the others
pub record RepliesLine (w : Words) (d d' : Desk) (ends ends' : OwnEnds) (me : CallerNo) (line : RaceCall)
    (replies replies' : List Reply) : Type 0 where
  pub reply : Reply
  pub made : LineOn w d d' ends ends' me line reply
  pub kept : replies' ≡ replies ++ reply ∷ []

abbrev pub AnswersLine : Words → Racer → Racer → RaceCall → Type 0
AnswersLine w before after line =
    RepliesLine w before.desk after.desk before.ends after.ends before.number line before.replies.items
    after.replies.items

-- the caller made its lines of the race, each with its reply
pub record MadeLines (w : Words) (race : List RaceLine) (me : CallerNo) (d d' : Desk) (ends ends' : OwnEnds)
    (replies : List Reply) : Type 0 where
  pub acts : List Act
  pub grew : acts_seen d'.pass me ≡ acts_seen d.pass me ++ acts
  pub lines : AreRaceLines (limits_of w) (ends_of ends) me (progress_of d) (calls_by me race) acts replies
      (progress_of d')
  pub went_on : EndsGoOn (zip (calls_by me race) replies) ends ends'

abbrev pub RanLines : Words → List RaceLine → Racer → Racer → Type 0
RanLines w race before after =
    MadeLines w race before.number before.desk after.desk before.ends after.ends after.replies.items

-- What has become of a racer: its pass goes on. Unless it lacks memory, it made its lines.
pub record HasRaced (w : Words) (race : List RaceLine) (before after : Racer) : Type 0 where
  pub number : after.number ≡ before.number
  pub pass : IsPassOf w after.desk.pass
  pub stands : IsFalse after.lacks_memory → StandsAlone w after
  pub later : IsPrefix (seen before.desk.pass) (seen after.desk.pass)
  pub run : IsFalse after.lacks_memory → RanLines w race before after

-- each racer is, before and after its lines, as `HasRaced` says
abbrev pub HaveRaced : Words → List RaceLine → List Racer → List Racer → Type 0
HaveRaced w race before after = AreEach {A = Racer} {B = Racer} (HasRaced w race) before after

-- the replies of each caller's lines: a racer's, or those of a caller that isn't one
abbrev pub replies_by : List RaceLine → List Racer → CallerNo → List Reply
replies_by race racers n = slice_index_or (map (λ r. r.replies.items) racers) n.0 (strange_replies (calls_by n race))
