-- Where calls don't overlap, the table is the sequential selector of Java.
use Rattle.std.specs.Prelude.{◌≡◌, Bool, true, false, not, ◌&&◌, IsTrue, IsFalse, Result, List, [], ◌∷◌, ◌++◌, map}
use Rattle.std.specs.List.{All}
use Rattle.nio_base.specs.Limits.{IsFit}
use Rattle.nio_base.specs.declared.limits.Limits.{Limits}
use Rattle.nio_base.specs.declared.numbers.CallerNo.{CallerNo}
use Rattle.nio_base.specs.declared.numbers.ChanId.{ChanId}
use Rattle.nio_history.specs.Conditions.{IsCaller}
use Rattle.nio_history.specs.Histories.{state_after, event_of, IsLegal}
use Rattle.nio_history.specs.declared.act.Act.{Act}
use Rattle.nio_history.specs.declared.event.Event.{Event}
use Rattle.nio_language.specs.declared.call.Call.{Call}
use Rattle.nio_language.specs.declared.call.ScriptCall.{ScriptCall}
use Rattle.nio_language.specs.declared.reply.Reply.{Reply}
use Rattle.nio_orderly.specs.Made.{Made, table_call, IsRun, MayCome, after_calls}
use Rattle.nio_orderly.specs.Orderly.{MadeBy, calls_of}
use Rattle.nio_plain.specs.Answer.{left_by_script}
use Rattle.nio_plain.specs.ScriptState.{script_opening}
use Rattle.nio_plain.specs.Seq.{seq}
use Rattle.nio_plain.specs.declared.rules.Rules.TheVariants.{Now}
use Rattle.nio_serial.specs.Called.{Scripted, as_call, unseen, unscripted, script_call, lacks_memory, HasNames}
use Rattle.nio_serial.specs.Called.{IsNamedCall}
use Rattle.nio_serial.specs.Left.{after_made, in_progress, IsSequence, IsLeftBy}
use Rattle.nio_serial.specs.Documented.{Progress, nothing_yet, documented}
use Rattle.nio_serial.specs.Laws.{IsMadeChannel}
use Rattle.nio_serial.specs.Reopening.{reopen_call}
use Rattle.nio_serial.specs.Serial.{replies_from}
use Rattle.nio_steps.specs.Ongoing.{nothing_ongoing}
use Rattle.nio_steps.specs.TableCalls.{reopen_channel}
use Rattle.nio_steps.specs.declared.refusal.ReopenError.{ReopenError}

-- ---- what every serial history leaves

abbrev pub SequencesStand : Type 0
SequencesStand = (l : Limits) (events : List Event) (made : List MadeBy) → IsFit l → IsSequence l events made
    → IsLeftBy l events made (in_progress nothing_yet made)

-- ---- one call more

abbrev pub one_more : List MadeBy → CallerNo → Made → List MadeBy
one_more made me call = made ++ record { caller = me; call = call } ∷ []

-- The history `past` of the calls `made`, and one more call of a caller, which did these acts in it.
pub record IsNextCall (l : Limits) (past : List Event) (made : List MadeBy) (now : Progress) (me : CallerNo)
    (acts : List Act) (call : Made) (word : Call) (said : Reply) : Type 0 where
  -- the history is legal and serial
  pub sequence : IsSequence l past made
  -- it is legal still where the acts follow, with no event of another caller between
  pub legal : IsLegal l (past ++ map (event_of me) acts)
  -- the acts are a whole run of the call, to its reply, which isn't that there was no memory
  pub runs : IsRun l call acts
  pub has_memory : IsFalse (lacks_memory call)
  -- the call is one of the documented system
  pub is_scripted : script_call call ≡ as_call word said
  -- it is of one of the table's callers, and what it names is there
  pub by : IsCaller l me
  pub names : HasNames (state_after past) call
  -- it may be its caller's next call
  pub may_come : MayCome (after_calls nothing_ongoing (calls_of me made)) call
  -- the selections and closings in progress are those that the calls leave
  pub progress : now ≡ in_progress nothing_yet made

-- The reply is the documented system's in the state that the history leaves, and the history with the call leaves
-- its next state.
pub record IsDocumented (l : Limits) (past : List Event) (made : List MadeBy) (now : Progress) (me : CallerNo)
    (acts : List Act) (call : Made) (word : Call) (said : Reply) : Type 0 where
  pub replies : said ≡ (seq Now l (documented (state_after past) now) me word).reply
  pub leaves : documented (state_after (past ++ map (event_of me) acts)) (after_made now me call)
      ≡ (seq Now l (documented (state_after past) now) me word).left
  pub stands : IsLeftBy l (past ++ map (event_of me) acts) (one_more made me call) (after_made now me call)

-- Where calls don't overlap, the table is the sequential selector of Java.
abbrev pub NextCallIsDocumented : Type 0
NextCallIsDocumented =
    (l : Limits) (past : List Event) (made : List MadeBy) (now : Progress) (me : CallerNo) (acts : List Act)
    (call : Made) (word : Call) (said : Reply)
    → IsFit l → IsNextCall l past made now me acts call word said → IsDocumented l past made now me acts call word said

-- ---- a reopening, which no word of a script is

-- The history `past` of the calls `made`, and then a reopening of a caller, which did these acts in it.
pub record IsNextReopening (l : Limits) (past : List Event) (made : List MadeBy) (now : Progress) (me : CallerNo)
    (acts : List Act) (c : ChanId) (answer : Result ChanId ReopenError) : Type 0 where
  -- the history is legal and serial
  pub sequence : IsSequence l past made
  -- it is legal still where the acts follow, with no event of another caller between
  pub legal : IsLegal l (past ++ map (event_of me) acts)
  -- the acts are a whole run of the reopening, to its answer
  pub runs : IsRun l (table_call (reopen_channel c) answer) acts
  -- it is of one of the table's callers, and the channel was opened
  pub by : IsCaller l me
  pub names : IsMadeChannel (state_after past) c
  -- the selections and closings in progress are those that the calls leave
  pub progress : now ≡ in_progress nothing_yet made

-- The answer is the documented system's in the state that the history leaves, and the history with the reopening
-- leaves its next state.
pub record IsReopened (l : Limits) (past : List Event) (made : List MadeBy) (now : Progress) (me : CallerNo)
    (acts : List Act) (c : ChanId) (answer : Result ChanId ReopenError) : Type 0 where
  pub answers : answer ≡ (reopen_call l (documented (state_after past) now) c).answer
  pub leaves : documented (state_after (past ++ map (event_of me) acts)) now
      ≡ (reopen_call l (documented (state_after past) now) c).left
  pub stands : IsLeftBy l (past ++ map (event_of me) acts) (one_more made me (table_call (reopen_channel c) answer)) now

-- Where calls don't overlap, a reopening is the documented one.
abbrev pub ReopeningIsDocumented : Type 0
ReopeningIsDocumented =
    (l : Limits) (past : List Event) (made : List MadeBy) (now : Progress) (me : CallerNo) (acts : List Act)
    (c : ChanId) (answer : Result ChanId ReopenError)
    → IsFit l → IsNextReopening l past made now me acts c answer → IsReopened l past made now me acts c answer

-- ---- one call more, whatever it is

-- the history with the call is one again
abbrev pub SequencesGrow : Type 0
SequencesGrow =
    (l : Limits) (past : List Event) (made : List MadeBy) (me : CallerNo) (acts : List Act) (call : Made)
    → IsSequence l past made → IsLegal l (past ++ map (event_of me) acts) → IsRun l call acts
    → IsNamedCall l (state_after past) (record { caller = me; call = call })
    → MayCome (after_calls nothing_ongoing (calls_of me made)) call
    → IsSequence l (past ++ map (event_of me) acts) (one_more made me call)

-- the empty history, of no calls, is one
abbrev pub NothingIsSequence : Type 0
NothingIsSequence = (l : Limits) → IsSequence l [] []

-- ---- the script of a history

-- a script has this call, or sees nothing of it
abbrev pub is_of_script : Scripted → Bool
is_of_script (as_call word said) = true
is_of_script unseen = true
is_of_script unscripted = false

-- each of these calls is one of a script, for which there was memory, or one that a script doesn't see
abbrev pub AreOfScript : List MadeBy → Type 0
AreOfScript made = All (λ one. IsTrue (is_of_script (script_call one.call) && not (lacks_memory one.call))) made

abbrev pub line_of : CallerNo → Scripted → List ScriptCall
line_of me (as_call word said) = record { caller = me; call = word } ∷ []
line_of me unseen = []
line_of me unscripted = []

abbrev pub reply_of : Scripted → List Reply
reply_of (as_call word said) = said ∷ []
reply_of unseen = []
reply_of unscripted = []

-- the calls as a script, and their replies
abbrev pub script_of_calls : List MadeBy → List ScriptCall
script_of_calls [] = []
script_of_calls (one ∷ later) = line_of one.caller (script_call one.call) ++ script_of_calls later

abbrev pub replies_of_calls : List MadeBy → List Reply
replies_of_calls [] = []
replies_of_calls (one ∷ later) = reply_of (script_call one.call) ++ replies_of_calls later

-- the replies are the script's by the documented system, and so is the state that is left
pub record AreAsScript (l : Limits) (events : List Event) (made : List MadeBy) : Type 0 where
  pub replies : replies_of_calls made ≡ replies_from l script_opening (script_of_calls made)
  pub left : documented (state_after events) (in_progress nothing_yet made)
      ≡ left_by_script Now l (script_of_calls made)

abbrev pub SequencesAreScripts : Type 0
SequencesAreScripts = (l : Limits) (events : List Event) (made : List MadeBy) → IsFit l → IsSequence l events made
    → AreOfScript made → AreAsScript l events made
