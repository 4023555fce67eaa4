-- The calls of a script on its group: for each its word, the words of its arguments, and their ranges.
use Rattle.std.specs.Prelude.{◌≡◌, ◌≢◌, ℕ, ⊤, List, [], ◌∷◌, Option, codes}
use Rattle.std.specs.Fmt.{decimal}
use Rattle.nio_base.specs.declared.group.Outcome.{Outcome}
use Rattle.nio_base.specs.declared.group.Outcome.TheVariants as outcome
use Rattle.nio_language.specs.GroupWords.{group_channel_word, operation_word, group_kind_word, operation_kind_word}
use Rattle.nio_language.specs.GroupWords.{IsGroupName}
use Rattle.nio_language.specs.GroupWords.{outcome_words}
use Rattle.nio_language.specs.Reading.{Reads}
use Rattle.nio_language.specs.Words.{IsNumber}
use Rattle.nio_language.specs.declared.group_call.GroupCall.{GroupCall}
use Rattle.nio_language.specs.declared.group_call.GroupCall.TheVariants as group
use Rattle.nio_language.specs.declared.group_word.GroupWord.{GroupWord}
use Rattle.nio_language.specs.declared.group_word.GroupWord.TheVariants as word

abbrev pub group_word_text : GroupWord → List ℕ
group_word_text word.Gopen = codes "gopen"
group_word_text word.Gbind = codes "gbind"
group_word_text word.Start = codes "start"
group_word_text word.Report = codes "report"
group_word_text word.Take = codes "take"
group_word_text word.Done = codes "done"
group_word_text word.Gclose = codes "gclose"
group_word_text word.Shutdown = codes "shutdown"
group_word_text word.ShutdownNow = codes "shutdown-now"
group_word_text word.IsShutdown = codes "is-shutdown"
group_word_text word.Terminated = codes "terminated"

-- a call's word and the words of its arguments
abbrev pub group_parts : GroupCall → GroupWord × List (List ℕ)
group_parts (group.Gopen kind) = (word.Gopen, group_kind_word kind ∷ [])
group_parts (group.Gbind g) = (word.Gbind, group_channel_word g ∷ [])
group_parts (group.Start g kind len) = (word.Start, group_channel_word g ∷ operation_kind_word kind ∷ decimal len ∷ [])
group_parts (group.Report n outcome) = (word.Report, operation_word n ∷ outcome_words outcome)
group_parts group.Take = (word.Take, [])
group_parts (group.Done n) = (word.Done, operation_word n ∷ [])
group_parts (group.Gclose g) = (word.Gclose, group_channel_word g ∷ [])
group_parts group.Shutdown = (word.Shutdown, [])
group_parts group.ShutdownNow = (word.ShutdownNow, [])
group_parts group.IsShutdown = (word.IsShutdown, [])
group_parts group.Terminated = (word.Terminated, [])

abbrev pub group_word : GroupCall → GroupWord
group_word call = (group_parts call).0

abbrev pub group_argument_words : GroupCall → List (List ℕ)
group_argument_words call = (group_parts call).1

-- ---- ranges

-- an outcome that a line can say
abbrev pub IsOutcome : Outcome → Type 0
IsOutcome (outcome.Count k) = IsNumber k
IsOutcome outcome.End = ⊤
IsOutcome outcome.Connected = ⊤
IsOutcome outcome.Accepted = ⊤
IsOutcome outcome.Fault = ⊤

-- a call that a line can say: its numbers are below 2 ^ 32
abbrev pub IsGroupCall : GroupCall → Type 0
IsGroupCall (group.Gopen kind) = ⊤
IsGroupCall (group.Gbind g) = IsGroupName g
IsGroupCall (group.Start g kind len) = IsGroupName g × IsNumber len
IsGroupCall (group.Report n outcome) = IsNumber n.0 × IsOutcome outcome
IsGroupCall group.Take = ⊤
IsGroupCall (group.Done n) = IsNumber n.0
IsGroupCall (group.Gclose g) = IsGroupName g
IsGroupCall group.Shutdown = ⊤
IsGroupCall group.ShutdownNow = ⊤
IsGroupCall group.IsShutdown = ⊤
IsGroupCall group.Terminated = ⊤

-- ---- what came later than the first rules

-- no line had this call by the first rules: it names a channel whose serial isn't 0
abbrev pub IsLaterGroupCall : GroupCall → Type 0
IsLaterGroupCall (group.Gopen kind) = ⊥
IsLaterGroupCall (group.Gbind g) = g.serial ≢ 0
IsLaterGroupCall (group.Start g kind len) = g.serial ≢ 0
IsLaterGroupCall (group.Report n outcome) = ⊥
IsLaterGroupCall group.Take = ⊥
IsLaterGroupCall (group.Done n) = ⊥
IsLaterGroupCall (group.Gclose g) = g.serial ≢ 0
IsLaterGroupCall group.Shutdown = ⊥
IsLaterGroupCall group.ShutdownNow = ⊥
IsLaterGroupCall group.IsShutdown = ⊥
IsLaterGroupCall group.Terminated = ⊥

-- ---- reading

-- the answer is the call with this word whose arguments these words are, where there is one
abbrev pub ReadsGroupCall : GroupWord → List (List ℕ) → Option GroupCall → Type 0
ReadsGroupCall word words result =
    Reads (λ g. IsGroupCall g × (group_word g ≡ word)) group_argument_words words result
