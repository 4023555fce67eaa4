-- How the entries of a history grow by a line.
use Rattle.std.proofs.Common.{◌≡◌, ℕ, ◌+◌, List, [], ◌∷◌, ◌++◌, length, drop, take, sym, ◌∙◌, ap, subst, append_assoc}
use Rattle.std.proofs.Common.{codes, inl, inr, arith, All}
use Rattle.std.specs.Fmt.{decimal}
use Rattle.std.specs.Int.{IsInRange}
use Rattle.std.proofs.lemmas.List.Elements.{All-head}
use Rattle.std.proofs.lemmas.Option.{same_Some}
use Rattle.nio_language.specs.Calls.{IsBlank}
use Rattle.nio_language.specs.Script.{lines_of}
use Rattle.nio_language.specs.declared.call.ScriptCall.{ScriptCall}
use Rattle.nio_language.proofs.PlainWords.{decimal_digits}
use Rattle.nio_plain.specs.declared.rules.Rules.{Rules}
use Rattle.nio_script.specs.Entries.{IsNoEntry}
use Rattle.nio_script.specs.History.{Entry, IsEntry, AreEntries, IsFirstBadEntry, no_lines, blank_line, entry_line}
use Rattle.nio_script.specs.History.{call_text}
use Rattle.nio_script.proofs.Lines.{IsNext, parts, number_of_next}

-- the number of the first entry may be told in another way, and that of what is no entry
pub renumbered : {rules : Rules} {m n : ℕ} {lines : List (List ℕ)} {entries : List Entry} → m ≡ n
    → AreEntries rules m lines entries → AreEntries rules n lines entries
renumbered {rules = rules} {lines = lines} {entries = entries} e = subst (λ k. AreEntries rules k lines entries) e

pub none_renumbered : {rules : Rules} {m n : ℕ} {line : List ℕ} → m ≡ n → IsNoEntry rules m line
    → IsNoEntry rules n line
none_renumbered {rules = rules} {line = line} e = subst (λ k. IsNoEntry rules k line) e

-- lines behind others
pub AreEntries-append : {rules : Rules} {n : ℕ} {first rest : List (List ℕ)} {front back : List Entry}
    → AreEntries rules n first front → AreEntries rules (n + length front) rest back
    → AreEntries rules n (first ++ rest) (front ++ back)
AreEntries-append no_lines more = renumbered (omega arith) more
AreEntries-append (blank_line b others) more = blank_line b (AreEntries-append others more)
AreEntries-append (entry_line is others) more = entry_line is (AreEntries-append others (renumbered (omega arith) more))

-- entries of the same line and reply
pub same_entry : (e f : Entry) → e.line ≡ f.line → e.reply ≡ f.reply → e ≡ f
same_entry e f lines replies =
    ap (λ x. record { line = x; reply = e.reply }) lines ∙ ap (λ r. record { line = f.line; reply = r }) replies

pub same_line : (c d : ScriptCall) → c.caller ≡ d.caller → c.call ≡ d.call → c ≡ d
same_line c d callers calls =
    ap (λ x. record { caller = x; call = c.call }) callers ∙ ap (λ x. record { caller = d.caller; call = x }) calls

-- a number and a space are no blank line
numbered_full : (digits rest : List ℕ) → All (IsInRange 48 57) digits → IsBlank (digits ++ 32 ∷ rest) → ⊥
numbered_full [] rest all (inl e) = cc
numbered_full [] rest all (inr e) = omega (arith, same_Some 32 35 e)
numbered_full (d ∷ digits) rest all (inl e) = cc
numbered_full (d ∷ digits) rest all (inr e) =
    let range = All-head (IsInRange 48 57) d digits all in
    let same : d ≡ 35 = cc in
    omega (arith, range)

-- a number, a space, a call, an arrow and a reply
pub entry_flat : (number call reply : List ℕ)
    → number ++ codes " " ++ call ++ codes " -> " ++ reply ≡ number ++ 32 ∷ (call ++ 32 ∷ 45 ∷ 62 ∷ 32 ∷ reply)
entry_flat number call reply = simp append_assoc

-- an entry isn't blank
pub entry_full : {rules : Rules} {n : ℕ} {e : Entry} {line : List ℕ} → IsEntry rules n e line → IsBlank line → ⊥
entry_full {n = n} {e = e} {line = line} is blank =
    numbered_full (decimal n) (call_text e ++ 32 ∷ 45 ∷ 62 ∷ 32 ∷ e.reply) (decimal_digits n)
    (subst IsBlank (is.text ∙ entry_flat (decimal n) (call_text e) e.reply) blank)

-- behind lines that are entries, a line that is neither blank nor the next one ends all histories
pub no_entry_behind : {rules : Rules} {n : ℕ} {before : List (List ℕ)} (after : List (List ℕ)) {line : List ℕ}
    {entries all : List Entry}
    → AreEntries rules n before entries → IsNoEntry rules (n + length entries) line
    → AreEntries rules n (before ++ line ∷ after) all → ⊥
no_entry_behind after no_lines none (blank_line b more) = none.full b
no_entry_behind {rules = rules} after {line = line} no_lines none (entry_line {e = e} is more) =
    none.bad e (subst (λ m. IsEntry rules m e line) (omega arith) is)
no_entry_behind after (blank_line b others) none (blank_line c more) = no_entry_behind after others none more
no_entry_behind after (blank_line b others) none (entry_line is more) = absurd (entry_full is b)
no_entry_behind after (entry_line is others) none (blank_line b more) = absurd (entry_full is b)
no_entry_behind after (entry_line is others) none (entry_line same more) =
    no_entry_behind after others (none_renumbered (omega arith) none) more

-- a line that is neither blank nor the next entry, behind lines that are entries, is the first
pub IsFirstBadEntry-here : {rules : Rules} {text : List ℕ} {lines : List (List ℕ)} {i : ℕ} {line : List ℕ}
    {entries : List Entry}
    → lines ≡ lines_of text → IsNext lines i line → AreEntries rules 1 (take i lines) entries
    → IsNoEntry rules (length entries + 1) line → IsFirstBadEntry rules text (i + 1)
IsFirstBadEntry-here {lines = lines} {i = i} {line = line} {entries = entries} are next read none = record {
  line = line;
  before = take i lines;
  after = drop (i + 1) lines;
  entries = entries;
  lines = sym are ∙ parts next;
  number = number_of_next next;
  good = read;
  full = none.full;
  bad = none.bad;
}
