-- What running a script does to its sink and its system.
use Rattle.std.specs.Prelude.{◌≡◌, ◌⊎◌, ℕ, ◌++◌, List, [], ◌∷◌, Ok, Err, codes}
use Rattle.std.specs.Fmt.{decimal}
use Rattle.std.specs.declared.alloc.AllocError.{AllocError}
use mathlib.Core.List.{IsPrefix}
use Rattle.nio_base.specs.declared.limits.Limits.{Limits}
use Rattle.nio_bytes.specs.declared.source.Source as source
use Rattle.nio_bytes.specs.declared.sink.Sink as sink
use Rattle.nio_language.specs.Replies.{history_line}
use Rattle.nio_language.specs.Script.{IsScript, IsFirstBad}
use Rattle.nio_language.specs.declared.call.ScriptCall.{ScriptCall}
use Rattle.nio_plain.specs.Answer.{answer_from, answer_to, left_by_script, left_from}
use Rattle.nio_plain.specs.ScriptState.{ScriptState}
use Rattle.nio_plain.specs.Seq.{seq}
use Rattle.nio_plain.specs.declared.rules.Rules.{Rules}
use Rattle.nio_plain.specs.declared.system.System as system
use Rattle.nio_script.specs.Input.{IsReadWhole}
use Rattle.nio_script.specs.Output.{IsWritten, WritesOrFails, WritesPrefix}
use Rattle.nio_script.specs.declared.status.Status.{Status}
use Rattle.nio_script.specs.declared.status.Status.TheVariants.{Done, Usage, BadScript, ReadFault, WriteFault, Memory}
use Rattle.nio_script.specs.declared.status.Status.TheVariants.{NetFault, Illegal, TooLong}

-- the line of the history for a call in this state, by these rules
abbrev pub line_for : Rules → Limits → ScriptState → ℕ → ScriptCall → List ℕ
line_for rules l st number c = history_line number c.caller c.call (seq rules l st c.caller c.call).reply

-- the state that a call leaves
abbrev pub left_by_call : Rules → Limits → ScriptState → ScriptCall → ScriptState
left_by_call rules l st c = (seq rules l st c.caller c.call).left

-- The call was made as the system's `does` says, gave the documented reply, and left the documented state.
pub record MakesOne {Y : Type 0} (y : system.Ghosts Y) (run run' : Y) (c : ScriptCall) : Type 0 where
  pub does : y.does run run' c (Ok (seq (y.rules run) (y.limits run) (y.state run) c.caller c.call).reply)
  pub left : y.state run' ≡ left_by_call (y.rules run) (y.limits run) (y.state run) c

-- these calls were made in turn, and nothing else
abbrev pub MakesAll : {Y : Type 0} → system.Ghosts Y → Y → Y → List ScriptCall → Type 0
MakesAll y run run' [] = run' ≡ run
MakesAll y run run' (c ∷ later) = (mid : _) × MakesOne y run mid c × MakesAll y mid run' later

-- The calls `made` are the first of these; they were made, and nothing else. The system is left as they leave it.
pub record MakesPrefix {Y : Type 0} (y : system.Ghosts Y) (run run' : Y) (calls made : List ScriptCall)
    : Type 0 where
  pub begins : IsPrefix made calls
  pub makes : MakesAll y run run' made
  pub left : y.state run' ≡ left_from (y.rules run) (y.limits run) (y.state run) made

-- The calls `made` are the first of these, and were made; then the next one lacked memory, and nothing else was done.
-- The system is left as the calls before that one leave it.
pub record LacksNext {Y : Type 0} (y : system.Ghosts Y) (run run' : Y) (calls made : List ScriptCall) : Type 0 where
  pub next : ScriptCall
  pub begins : IsPrefix (made ++ next ∷ []) calls
  pub before : Y
  pub makes : MakesAll y run before made
  pub error : AllocError
  pub lacks : y.does before run' next (Err error)
  pub left : y.state run' ≡ left_from (y.rules run) (y.limits run) (y.state run) made

-- The calls `made` are the first of these, and were made; the next one may have lacked memory. Nothing else was done.
abbrev pub StopsWithin : {Y : Type 0} → system.Ghosts Y → Y → Y → List ScriptCall → List ScriptCall → Type 0
StopsWithin y run run' calls made = MakesPrefix y run run' calls made ⊎ LacksNext y run run' calls made

-- Some calls were made (`Made`). Of what was kept back and their lines, numbered so, some was written, from its front.
pub record WritesOfMade {K Y : Type 0} (k : sink.Ghosts K) (y : system.Ghosts Y) (output output' : K) (run : Y)
    (kept : List ℕ) (number : ℕ) (Made : List ScriptCall → Type 0) : Type 0 where
  pub made : List ScriptCall
  pub makes : Made made
  pub written : WritesPrefix k output output'
      (kept ++ answer_from (y.rules run) (y.limits run) (y.state run) number made)

-- The input was read whole, and its text is so.
abbrev pub ReadsText : {S : Type 0} → source.Ghosts S → S → S → (List ℕ → Type 0) → Type 0
ReadsText s input input' IsSo = (text : List ℕ) × IsReadWhole s input input' text × IsSo text

-- The text is a script, its calls were made, its answer was written and flushed, no write failed, and the system is
-- left as the script leaves it.
pub record IsAnswered {K Y : Type 0} (k : sink.Ghosts K) (y : system.Ghosts Y)
    (output output' : K) (run run' : Y) (text : List ℕ) : Type 0 where
  pub calls : List ScriptCall
  pub script : IsScript text calls
  pub written : IsWritten k output output' (answer_to (y.rules run) (y.limits run) calls)
  pub still : k.faults output' ≡ k.faults output
  pub makes : MakesAll y run run' calls
  pub left : y.state run' ≡ left_by_script (y.rules run) (y.limits run) calls

-- The text is a script, and some of its calls were made (`Made`). Of the answer to these calls, each with the reply that
-- it gave, some was written, from its front: no line of a call that wasn't made.
pub record IsCutShort {K Y : Type 0} (k : sink.Ghosts K) (y : system.Ghosts Y)
    (output output' : K) (run : Y) (Made : List ScriptCall → List ScriptCall → Type 0) (text : List ℕ)
    : Type 0 where
  pub calls : List ScriptCall
  pub script : IsScript text calls
  pub made : List ScriptCall
  pub makes : Made calls made
  pub written : WritesPrefix k output output' (answer_to (y.rules run) (y.limits run) made)

-- what is said of a line that isn't in the grammar
abbrev pub bad_line : ℕ → List ℕ
bad_line line = codes "bad line " ++ decimal line ++ 10 ∷ []

-- The line is the text's first that isn't in the grammar, which was said, and no call was made.
pub record IsRefused {K Y : Type 0} (k : sink.Ghosts K) (output output' : K)
    (run run' : Y) (line : ℕ) (text : List ℕ) : Type 0 where
  pub first : IsFirstBad text line
  pub said : WritesOrFails k output output' (bad_line line)
  pub uncalled : run' ≡ run

-- Nothing was written, and no call was made.
pub record IsUntouched {K Y : Type 0} (output output' : K) (run run' : Y) : Type 0 where
  pub unwritten : output' ≡ output
  pub uncalled : run' ≡ run

-- how the running of a text may end
abbrev pub EndsText : Status → Type 0
EndsText Done = Unit {0}
EndsText Usage = ⊥
EndsText (BadScript line) = Unit {0}
EndsText ReadFault = ⊥
EndsText WriteFault = Unit {0}
EndsText Memory = Unit {0}
EndsText NetFault = ⊥
EndsText (Illegal line) = ⊥
EndsText TooLong = ⊥

-- how a script may end
abbrev pub EndsScript : Status → Type 0
EndsScript Done = Unit {0}
EndsScript Usage = ⊥
EndsScript (BadScript line) = Unit {0}
EndsScript ReadFault = Unit {0}
EndsScript WriteFault = Unit {0}
EndsScript Memory = Unit {0}
EndsScript NetFault = ⊥
EndsScript (Illegal line) = ⊥
EndsScript TooLong = Unit {0}
