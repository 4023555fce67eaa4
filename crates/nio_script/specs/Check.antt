-- Whether a history is legal, and what is said of it.
use Rattle.std.specs.Prelude.{◌≡◌, ◌≢◌, ⊤, ◌⊎◌, ℕ, ◌+◌, List, [], ◌∷◌, ◌++◌, length, map, codes}
use Rattle.std.specs.Fmt.{decimal}
use Rattle.nio_base.specs.declared.limits.Limits.{Limits}
use Rattle.nio_bytes.specs.declared.sink.Sink as sink
use Rattle.nio_language.specs.Replies.{reply_text}
use Rattle.nio_language.specs.declared.call.ScriptCall.{ScriptCall}
use Rattle.nio_language.specs.declared.reply.Reply.{Reply}
use Rattle.nio_plain.specs.Answer.{answer_to, left_from, left_by_script}
use Rattle.nio_plain.specs.ScriptState.{ScriptState, script_opening}
use Rattle.nio_plain.specs.Seq.{seq}
use Rattle.nio_plain.specs.declared.rules.Rules.{Rules}
use Rattle.nio_script.specs.History.{Entry, IsHistory, IsFirstBadEntry}
use Rattle.nio_script.specs.Output.{IsWritten, WritesOrFails, WritesPrefix}
use Rattle.nio_script.specs.Run.{bad_line, EndsText, EndsScript}
use Rattle.nio_script.specs.declared.status.Status.{Status}
use Rattle.nio_script.specs.declared.status.Status.TheVariants.{Done, WriteFault, Memory, Illegal}

-- the calls of a history
abbrev pub calls_of : List Entry → List ScriptCall
calls_of entries = map (λ e. e.line) entries

-- the documented system's reply to the call of an entry in this state, by these rules
abbrev pub right_reply : Rules → Limits → ScriptState → Entry → Reply
right_reply rules l st e = (seq rules l st e.line.caller e.line.call).reply

-- each reply, as text, is the one that the documented system gives, from a state on
abbrev pub IsLegalFrom : Rules → Limits → ScriptState → List Entry → Type 0
IsLegalFrom rules l st [] = ⊤
IsLegalFrom rules l st (e ∷ entries) =
    (e.reply ≡ reply_text (right_reply rules l st e))
    × IsLegalFrom rules l (left_from rules l st (e.line ∷ [])) entries

-- a history is legal where this is so from the opening state on
abbrev pub IsLegalHistory : Rules → Limits → List Entry → Type 0
IsLegalHistory rules l entries = IsLegalFrom rules l script_opening entries

-- call number n is the first whose reply isn't the documented system's, which is this one
pub record IsFirstIllegal (rules : Rules) (l : Limits) (entries : List Entry) (n : ℕ)
    (right : Reply) : Type 0 where
  pub entry : Entry
  pub before : List Entry
  pub after : List Entry
  pub parts : entries ≡ before ++ entry ∷ after
  pub number : length before + 1 ≡ n
  pub legal : IsLegalHistory rules l before
  pub answer : right ≡ right_reply rules l (left_by_script rules l (calls_of before)) entry
  pub wrong : entry.reply ≢ reply_text right

-- the status that these entries have: Done where they are legal, else Illegal with the first call
-- whose reply is wrong
pub data IsVerdict (rules : Rules) (l : Limits) (entries : List Entry) : Status → Type 0 where
  all_right : IsLegalHistory rules l entries → IsVerdict rules l entries Done
  one_wrong : (number : ℕ) (right : Reply) → IsFirstIllegal rules l entries number right
      → IsVerdict rules l entries (Illegal number)

-- how the check of these entries may end
abbrev pub EndsEntries : Rules → Limits → List Entry → Status → Type 0
EndsEntries rules l entries status =
    IsVerdict rules l entries status
    ⊎ (IsLegalHistory rules l entries × (status ≡ WriteFault))
    ⊎ (status ≡ Memory)

-- what is said of a legal history of n calls
abbrev pub legal_text : ℕ → List ℕ
legal_text n = codes "legal " ++ decimal n ++ 10 ∷ []

-- what is said of call number n where its reply isn't the right one, which is this
abbrev pub illegal_text : ℕ → Reply → List ℕ
illegal_text n right = codes "illegal " ++ decimal n ++ codes ": " ++ reply_text right ++ 10 ∷ []

-- This call of these entries is the first whose reply is wrong, which was said with the right reply.
pub record IsSaidIllegal {K : Type 0} (k : sink.Ghosts K) (output output' : K) (rules : Rules)
    (l : Limits) (number : ℕ) (entries : List Entry) : Type 0 where
  pub right : Reply
  pub first : IsFirstIllegal rules l entries number right
  pub said : WritesOrFails k output output' (illegal_text number right)

-- The text is a legal history, which was said and flushed, and no write failed.
pub record IsFoundLegal {K : Type 0} (k : sink.Ghosts K) (output output' : K) (rules : Rules)
    (l : Limits) (text : List ℕ) : Type 0 where
  pub entries : List Entry
  pub history : IsHistory rules text entries
  pub legal : IsLegalHistory rules l entries
  pub said : IsWritten k output output' (legal_text (length entries))
  pub still : k.faults output' ≡ k.faults output

-- The text is a legal history, and some of that was said, from its front.
pub record IsHalfSaid {K : Type 0} (k : sink.Ghosts K) (output output' : K) (rules : Rules)
    (l : Limits) (text : List ℕ) : Type 0 where
  pub entries : List Entry
  pub history : IsHistory rules text entries
  pub legal : IsLegalHistory rules l entries
  pub said : WritesPrefix k output output' (legal_text (length entries))

-- The text is a history, and this call of it is the first whose reply is wrong, which was said with
-- the right reply.
pub record IsFoundIllegal {K : Type 0} (k : sink.Ghosts K) (output output' : K) (rules : Rules)
    (l : Limits) (number : ℕ) (text : List ℕ) : Type 0 where
  pub entries : List Entry
  pub history : IsHistory rules text entries
  pub found : IsSaidIllegal k output output' rules l number entries

-- The line is the text's first that isn't in the grammar of histories by these rules, which was said.
pub record IsNoHistory {K : Type 0} (k : sink.Ghosts K) (output output' : K) (rules : Rules)
    (line : ℕ) (text : List ℕ) : Type 0 where
  pub first : IsFirstBadEntry rules text line
  pub said : WritesOrFails k output output' (bad_line line)

-- The history that is written for a script by these rules is in their grammar of histories, has the
-- script's calls, and is legal.
pub record HasLegalHistory (rules : Rules) (l : Limits) (calls : List ScriptCall) : Type 0 where
  pub entries : List Entry
  pub history : IsHistory rules (answer_to rules l calls) entries
  pub same : calls_of entries ≡ calls
  pub legal : IsLegalHistory rules l entries

-- the check of a text may end as the running of one does, and with Illegal
abbrev pub EndsCheckText : Status → Type 0
EndsCheckText (Illegal number) = Unit {0}
EndsCheckText status = EndsText status

-- a check may end as a script does, and with Illegal
abbrev pub EndsCheck : Status → Type 0
EndsCheck (Illegal number) = Unit {0}
EndsCheck status = EndsScript status
