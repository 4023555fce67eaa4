-- What the program does for each command.
use Rattle.std.specs.Prelude.{◌≡◌, ◌⊎◌, ℕ, ◌<◌, ◌≤◌, IsTrue, List, [], ◌∷◌, ◌++◌, length, IfSome}
use mathlib.Core.List.{IsPrefix}
use Rattle.nio_base.specs.declared.limits.Limits.{Limits}
use Rattle.nio_base.specs.declared.numbers.CallerNo.{CallerNo}
use Rattle.nio_bytes.specs.Cause.{Rose}
use Rattle.nio_bytes.specs.declared.source.Source as source
use Rattle.nio_bytes.specs.declared.sink.Sink as sink
use Rattle.nio_history.specs.declared.event.Event.{Event}
use Rattle.nio_language.specs.Script.{IsScript, IsFirstBad}
use Rattle.nio_language.specs.declared.call.ScriptCall.{ScriptCall}
use Rattle.nio_language.specs.declared.reply.Reply.{Reply}
use Rattle.nio_orderly.specs.Orderly.{IsWhole}
use Rattle.nio_orderly.specs.Owed.{Owed}
use Rattle.nio_plain.specs.Answer.{answer_to, left_by_script}
use Rattle.nio_plain.specs.ScriptState.{ScriptState}
use Rattle.nio_plain.specs.declared.rules.Rules.{Rules}
use Rattle.nio_plain.specs.declared.rules.Rules.TheVariants.{Now}
use Rattle.nio_script.specs.Check.{HasLegalHistory, IsLegalHistory, IsFirstIllegal, IsVerdict, IsFoundLegal}
use Rattle.nio_script.specs.Check.{IsFoundIllegal, IsHalfSaid, IsNoHistory, EndsCheck}
use Rattle.nio_script.specs.History.{Entry, IsHistory, IsFirstBadEntry}
use Rattle.nio_script.specs.Output.{IsWritten, WritesOrFails, WritesPrefix}
use Rattle.nio_script.specs.Run.{ReadsText, bad_line, EndsScript}
use Rattle.nio_script.specs.declared.input.TheConstants.{LONGEST_INPUT}
use Rattle.nio_script.specs.declared.status.Status.{Status}
use Rattle.nio_script.specs.declared.status.Status.TheVariants.{Done, BadScript, ReadFault, WriteFault, Memory, Illegal}
use Rattle.nio_script.specs.declared.status.Status.TheVariants.{TooLong}
use Rattle.nio_serial.specs.Documented.{Progress, documented}
use Rattle.nio_sole.specs.Said.{LacksLine}
use Rattle.nio_sole.specs.ScriptLines.{AreScriptLines}
use Rattle.nio_words.specs.Passes.{IsPassOf, IsReady, limits_of, state_seen, seen}
use Rattle.nio_words.specs.declared.words.Pass.{Pass}
use Rattle.nio_words.specs.declared.words.Words.{Words}

-- The text is a script, and what was written is a legal history of its calls by these rules and limits.
pub record WritesLegal {K : Type 0} (k : sink.Ghosts K) (output output' : K) (rules : Rules) (limits : Limits)
    (text : List ℕ) : Type 0 where
  pub calls : List ScriptCall
  pub script : IsScript text calls
  pub written : IsWritten k output output' (answer_to rules limits calls)
  pub legal : HasLegalHistory rules limits calls

-- ---- a script on the table

-- What a script leaves of the table, with this in progress. What the pass has seen leaves this state of scripts. Every
-- number is drawn, and the pass holds each. Each caller made whole calls. At each moment what is owed is owed by a
-- caller that has still to do it: no cancellation is lost.
pub record Leaves (w : Words) (pass : Pass) (now : Progress) (left : ScriptState) : Type 0 where
  pub state : documented (state_seen pass) now ≡ left
  pub drawn : (n : CallerNo) → n.0 < (limits_of w).callers → IsTrue ((state_seen pass).drawn n.0)
  pub holds : (n : CallerNo) → n.0 < (limits_of w).callers → IsReady w pass n
  pub whole : ∥ IsWhole (limits_of w) (seen pass) ∥₁
  pub owed : (before : List Event) → IsPrefix before (seen pass) → ∥ Owed before ∥₁

-- Every number was drawn, these calls were made, and nothing else was done: that is all that the pass has seen. The
-- table is left as they leave it.
pub record MakesAllOn (w : Words) (pass : Pass) (calls : List ScriptCall) : Type 0 where
  pub now : Progress
  pub lines : AreScriptLines (limits_of w) calls (seen pass) now
  pub left : Leaves w pass now (left_by_script Now (limits_of w) calls)

-- The same of the calls `made`, which are the first of these.
pub record MakesPrefixOn (w : Words) (pass : Pass) (calls made : List ScriptCall) : Type 0 where
  pub begins : IsPrefix made calls
  pub makes : MakesAllOn w pass made

-- Every number was drawn, and the calls `made`, which are the first of these, were made; then the next one lacked memory,
-- and nothing else was done. The table is left as the calls before that one leave it.
pub record LacksNextOn (w : Words) (pass : Pass) (calls made : List ScriptCall) : Type 0 where
  pub next : ScriptCall
  pub begins : IsPrefix (made ++ next ∷ []) calls
  pub before : List Event
  pub now : Progress
  pub lines : AreScriptLines (limits_of w) made before now
  pub lacks : LacksLine (limits_of w) now next before (seen pass)
  pub left : Leaves w pass now (left_by_script Now (limits_of w) made)

-- The calls `made` are the first of these, and were made; the next one may have lacked memory. Nothing else was done.
abbrev pub StopsWithinOn : Words → Pass → List ScriptCall → List ScriptCall → Type 0
StopsWithinOn w pass calls made = MakesPrefixOn w pass calls made ⊎ LacksNextOn w pass calls made

-- The text is a script, its calls were made, and nothing else; its answer was written and flushed, and no write failed.
pub record IsAnsweredOn {K : Type 0} (k : sink.Ghosts K) (w : Words) (output output' : K) (pass : Pass)
    (text : List ℕ) : Type 0 where
  pub calls : List ScriptCall
  pub script : IsScript text calls
  pub written : IsWritten k output output' (answer_to Now (limits_of w) calls)
  pub still : k.faults output' ≡ k.faults output
  pub makes : MakesAllOn w pass calls

-- The text is a script, and some of its calls were made (`Made`). Of the answer to these calls, each with the reply that
-- it gave (`AreScriptLines`), some was written, from its front: no line of a call that wasn't made.
pub record IsCutShortOn {K : Type 0} (k : sink.Ghosts K) (w : Words) (output output' : K)
    (Made : List ScriptCall → List ScriptCall → Type 0) (text : List ℕ) : Type 0 where
  pub calls : List ScriptCall
  pub script : IsScript text calls
  pub made : List ScriptCall
  pub makes : Made calls made
  pub written : WritesPrefix k output output' (answer_to Now (limits_of w) made)

-- The line is the text's first that isn't in the grammar, which was said, and no call was made.
pub record IsRefusedOn {K : Type 0} (k : sink.Ghosts K) (w : Words) (output output' : K) (pass : Pass) (line : ℕ)
    (text : List ℕ) : Type 0 where
  pub first : IsFirstBad text line
  pub said : WritesOrFails k output output' (bad_line line)
  pub uncalled : MakesAllOn w pass []

-- Nothing was written, and no call was made.
pub record IsUntouchedOn {K : Type 0} (w : Words) (output output' : K) (pass : Pass) : Type 0 where
  pub unwritten : output' ≡ output
  pub uncalled : MakesAllOn w pass []

-- Nothing was written, and no number was drawn.
pub record IsUndrawn {K : Type 0} (output output' : K) (pass pass' : Pass) : Type 0 where
  pub unwritten : output' ≡ output
  pub undrawn : pass' ≡ pass

-- What `script` does where it ends with this status.
pub record DoesScript {S K : Type 0} (s : source.Ghosts S) (k : sink.Ghosts K) (w : Words) (input input' : S)
    (output output' : K) (pass pass' : Pass) (status : Status) : Type 0 where
  -- what each status says
  pub done : status ≡ Done → ReadsText s input input' (IsAnsweredOn k w output output' pass')
  pub bad_script : (line : ℕ) → status ≡ BadScript line
      → ReadsText s input input' (IsRefusedOn k w output output' pass' line)
  pub write_fault : status ≡ WriteFault
      → ReadsText s input input' (IsCutShortOn k w output output' (MakesPrefixOn w pass'))
  pub memory : status ≡ Memory → IsUndrawn output output' pass pass' ⊎ (IsUntouchedOn w output output' pass'
      ⊎ ReadsText s input input' (IsCutShortOn k w output output' (StopsWithinOn w pass')))
  pub unread : (status ≡ ReadFault) ⊎ (status ≡ TooLong) → IsUntouchedOn w output output' pass'
  pub ends : EndsScript status
  -- whatever the status, the pass is still one of the table
  pub kept : IsPassOf w pass'
  -- what comes of each text, where the source shows it
  pub of_script : IfSome (s.left input) (λ text. (calls : List ScriptCall)
      → length text ≤ LONGEST_INPUT → IsScript text calls
      → (status ≡ Done) ⊎ (status ≡ ReadFault) ⊎ (status ≡ WriteFault) ⊎ (status ≡ Memory))
  pub of_bad : IfSome (s.left input) (λ text. (line : ℕ)
      → length text ≤ LONGEST_INPUT → IsFirstBad text line
      → (status ≡ BadScript line) ⊎ (status ≡ ReadFault) ⊎ (status ≡ Memory))
  pub of_long : IfSome (s.left input) (λ text. LONGEST_INPUT < length text
      → (status ≡ TooLong) ⊎ (status ≡ ReadFault) ⊎ (status ≡ Memory))
  -- a script is answered where no count of faults rises and there is memory
  pub complete : IfSome (s.left input) (λ text. (calls : List ScriptCall)
      → length text ≤ LONGEST_INPUT → IsScript text calls
      → ¬ Rose (s.faults input) (s.faults input') → ¬ Rose (k.faults output) (k.faults output')
      → (status ≡ Done) ⊎ (status ≡ Memory))

-- ---- a history

-- What `check` and `check-1` do over a system of these rules and limits where they end with this
-- status. They make no step on the program's own table.
pub record DoesCheck {S K : Type 0} (s : source.Ghosts S) (k : sink.Ghosts K) (rules : Rules) (limits : Limits)
    (input input' : S) (output output' : K) (pass pass' : Pass) (status : Status) : Type 0 where
  -- what each status says
  pub done : status ≡ Done → ReadsText s input input' (IsFoundLegal k output output' rules limits)
  pub illegal : (number : ℕ) → status ≡ Illegal number
      → ReadsText s input input' (IsFoundIllegal k output output' rules limits number)
  pub bad_script : (line : ℕ) → status ≡ BadScript line
      → ReadsText s input input' (IsNoHistory k output output' rules line)
  pub write_fault : status ≡ WriteFault → ReadsText s input input' (IsHalfSaid k output output' rules limits)
  pub memory : status ≡ Memory → output' ≡ output
  pub unread : (status ≡ ReadFault) ⊎ (status ≡ TooLong) → output' ≡ output
  pub ends : EndsCheck status
  pub uncalled : pass' ≡ pass
  -- what comes of each text, where the source shows it
  pub of_legal : IfSome (s.left input) (λ text. (entries : List Entry)
      → length text ≤ LONGEST_INPUT → IsHistory rules text entries → IsLegalHistory rules limits entries
      → (status ≡ Done) ⊎ (status ≡ ReadFault) ⊎ (status ≡ WriteFault) ⊎ (status ≡ Memory))
  pub of_illegal : IfSome (s.left input) (λ text. (entries : List Entry) (number : ℕ) (right : Reply)
      → length text ≤ LONGEST_INPUT → IsHistory rules text entries
      → IsFirstIllegal rules limits entries number right
      → (status ≡ Illegal number) ⊎ (status ≡ ReadFault) ⊎ (status ≡ Memory))
  pub of_bad : IfSome (s.left input) (λ text. (line : ℕ)
      → length text ≤ LONGEST_INPUT → IsFirstBadEntry rules text line
      → (status ≡ BadScript line) ⊎ (status ≡ ReadFault) ⊎ (status ≡ Memory))
  pub of_long : IfSome (s.left input) (λ text. LONGEST_INPUT < length text
      → (status ≡ TooLong) ⊎ (status ≡ ReadFault) ⊎ (status ≡ Memory))
  -- a history is judged where no count of faults rises and there is memory
  pub complete : IfSome (s.left input) (λ text. (entries : List Entry)
      → length text ≤ LONGEST_INPUT → IsHistory rules text entries
      → ¬ Rose (s.faults input) (s.faults input') → ¬ Rose (k.faults output) (k.faults output')
      → IsVerdict rules limits entries status ⊎ (status ≡ Memory))
