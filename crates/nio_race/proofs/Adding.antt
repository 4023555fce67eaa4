-- The output of a race, put together line by line and caller by caller.
use Rattle.std.proofs.Common.{◌≡◌, ℕ, suc, ◌+◌, ◌≤◌, ◌==◌, Bool, if◌then◌else◌, List, [], ◌∷◌, ◌++◌, length, drop, map}
use Rattle.std.proofs.Common.{refl, sym, ap, ◌∙◌, append_assoc}
use Rattle.std.proofs.lemmas.Bool.{ne_eqb}
use Rattle.std.proofs.lemmas.List.{drop_all}
use Rattle.std.specs.Prelude.{filter}
use Rattle.nio_base.specs.declared.numbers.CallerNo.{CallerNo}
use Rattle.nio_language.specs.declared.reply.Reply.{Reply}
use Rattle.nio_race_text.specs.declared.call.RaceCall.{RaceCall}
use Rattle.nio_race_text.specs.declared.call.RaceLine.{RaceLine}
use Rattle.nio_race.specs.Output.{WritesCaller, WritesLine}
use Rattle.nio_race.specs.Race.{callers_text, caller_text, calls_by, strange_replies}

-- ---- the calls of a caller

abbrev calls_with : CallerNo → RaceLine → List RaceLine → Bool → List RaceCall
calls_with n line later b =
    map (λ (x : RaceLine). x.call)
    (if b then line ∷ filter (λ x. x.caller.0 == n.0) later else filter (λ x. x.caller.0 == n.0) later)

pub calls_same : (n : CallerNo) (line : RaceLine) (later : List RaceLine) → (line.caller.0 ≡ n.0 → ⊥)
    → calls_by n (line ∷ later) ≡ calls_by n later
calls_same n line later other = ap (calls_with n line later) (ne_eqb line.caller.0 n.0 other)

-- ---- a line

-- where no reply is left nothing is written
nothing_left : (n : CallerNo) (number : ℕ) (calls : List RaceCall) (replies : List Reply) → replies ≡ []
    → caller_text n number calls replies ≡ []
nothing_left n number [] replies none = refl
nothing_left n number (call ∷ later) replies none = ap (caller_text n number (call ∷ later)) none

pub not_its : (n : CallerNo) (line : RaceLine) (replies : List Reply) (made : ℕ) (text : List ℕ)
    → (line.caller.0 ≡ n.0 → ⊥) → WritesLine n line replies made made text text
not_its n line replies made text other later =
    ap (λ (calls : List RaceCall). text ++ caller_text n (made + 1) calls (drop made replies))
    (sym (calls_same n line later other))

pub unanswered : (n : CallerNo) (line : RaceLine) (replies : List Reply) (made : ℕ) (text : List ℕ)
    → length replies ≤ made → WritesLine n line replies made made text text
unanswered n line replies made text none later =
    let left : drop made replies ≡ [] = drop_all made replies none in
    ap (λ (xs : List ℕ). text ++ xs)
    (nothing_left n (made + 1) (calls_by n later) _ left
    ∙ sym (nothing_left n (made + 1) (calls_by n (line ∷ later)) _ left))

-- ---- the lines of a caller

-- What was written, and what the lines that are left add, is what all the lines add.
abbrev pub IsAdding : CallerNo → List RaceLine → List Reply → ℕ → ℕ → List ℕ → List ℕ → Type 0
IsAdding n race replies index made before now =
    now ++ caller_text n (made + 1) (calls_by n (drop index race)) (drop made replies) ≡ before
    ++ caller_text n 1 (calls_by n race) replies

-- ---- the lines of a caller that has no racer

-- these calls, numbered from this number, are all answered alike
abbrev strange_text : CallerNo → ℕ → List RaceCall → List ℕ
strange_text n number calls = caller_text n number calls (strange_replies calls)

abbrev pub IsAddingStrange : CallerNo → List RaceLine → ℕ → ℕ → List ℕ → List ℕ → Type 0
IsAddingStrange n race index made before now =
    now ++ strange_text n (made + 1) (calls_by n (drop index race)) ≡ before ++ strange_text n 1 (calls_by n race)

-- ---- all callers

abbrev pub IsAddingCallers : List RaceLine → (CallerNo → List Reply) → ℕ → ℕ → ℕ → List ℕ → List ℕ → Type 0
IsAddingCallers race replies count number left before now =
    now ++ callers_text number left race replies ≡ before ++ callers_text 0 count race replies

pub adds_caller : (race : List RaceLine) (replies : CallerNo → List Reply) (count number left left' : ℕ)
    (before now now' : List ℕ) → left ≡ suc left' → IsAddingCallers race replies count number left before now
    → WritesCaller (record { 0 = number }) race (replies (record { 0 = number })) now now'
    → IsAddingCallers race replies count (number + 1) left' before now'
adds_caller race replies count number left left' before now now' one at writes =
    let n : CallerNo = record { 0 = number } in
    let rest = callers_text (number + 1) left' race replies in
    ap (λ (xs : List ℕ). xs ++ rest) writes
    ∙ (append_assoc now (caller_text n 1 (calls_by n race) (replies n)) rest
    ∙ (ap (λ (k : ℕ). now ++ callers_text number k race replies) (sym one) ∙ at))
