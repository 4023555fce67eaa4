-- The history that is written for a script is a legal history of its calls.
use Rattle.std.proofs.Common.{◌≡◌, ◌≢◌, ℕ, ◌+◌, ◌==◌, false, List, [], ◌∷◌, ◌++◌, refl, sym, ◌∙◌, ap, subst}
use Rattle.std.proofs.Common.{append_assoc, inl, arith, All}
use Rattle.std.specs.Fmt.{decimal}
use Rattle.std.specs.Int.{IsInRange}
use Rattle.std.proofs.lemmas.Bool.{ne_eqb}
use Rattle.std.proofs.lemmas.List.Elements.{All-append, All-cons, All-head, All-tail, All-weaker}
use Rattle.std.proofs.lemmas.List.Splits.{slice_split_at}
use Rattle.nio_base.specs.declared.limits.Limits.{Limits}
use Rattle.nio_language.specs.Calls.{IsLine, line_text}
use Rattle.nio_language.specs.Replies.{reply_text}
use Rattle.nio_language.specs.Script.{lines_of, AreCalls, IsScript, no_lines, blank_line, call_line}
use Rattle.nio_language.specs.declared.call.ScriptCall.{ScriptCall}
use Rattle.nio_language.proofs.PlainTexts.{line_plain, reply_plain}
use Rattle.nio_language.proofs.PlainWords.{decimal_digits}
use Rattle.nio_plain.specs.Answer.{answer_from}
use Rattle.nio_plain.specs.ScriptState.{ScriptState, script_opening}
use Rattle.nio_plain.specs.Seq.{seq}
use Rattle.nio_plain.specs.declared.rules.Rules.{Rules}
use Rattle.nio_script.specs.Check.{calls_of, IsLegalFrom, HasLegalHistory}
use Rattle.nio_script.specs.History.{Entry, AreEntries, IsCallOf, call_text, entry_text}
use Rattle.nio_script.proofs.EntryLemmas.{entry_flat}

-- the entries of the history that is written for calls, from a state on
abbrev answered : Rules → Limits → ScriptState → List ScriptCall → List Entry
answered rules l st [] = []
answered rules l st (c ∷ calls) =
    let done = seq rules l st c.caller c.call in
    record { line = c; reply = reply_text done.reply } ∷ answered rules l done.left calls

calls_answered : (rules : Rules) (l : Limits) (st : ScriptState) (calls : List ScriptCall)
    → calls_of (answered rules l st calls) ≡ calls
calls_answered rules l st [] = refl
calls_answered rules l st (c ∷ calls) =
    ap (λ cs. c ∷ cs) (calls_answered rules l (seq rules l st c.caller c.call).left calls)

legal_answered : (rules : Rules) (l : Limits) (st : ScriptState) (calls : List ScriptCall)
    → IsLegalFrom rules l st (answered rules l st calls)
legal_answered rules l st [] = tt
legal_answered rules l st (c ∷ calls) = (refl, legal_answered rules l (seq rules l st c.caller c.call).left calls)

abbrev IsOneLine : List ℕ → Type 0
IsOneLine bytes = All (λ b. b ≢ 10) bytes

number_in_line : (n : ℕ) → IsOneLine (decimal n)
number_in_line n = All-weaker (IsInRange 48 57) (λ b. b ≢ 10) (λ b r. omega (arith, r)) (decimal n) (decimal_digits n)

-- no newline stands within an entry whose reply has none
entry_in_line : (n : ℕ) (e : Entry) → IsLine e.line.caller e.line.call (call_text e) → IsOneLine e.reply
    → IsOneLine (entry_text n e)
entry_in_line n e call reply =
    let so = λ (b : ℕ). b ≢ 10 in
    let called : IsOneLine (call_text e) = All-weaker (λ b. (b ≢ 10) × (b ≢ 62)) (λ b. b ≢ 10) (λ b both. both.0)
    (call_text e) (line_plain call) in
    let arrow : IsOneLine (32 ∷ 45 ∷ 62 ∷ 32 ∷ e.reply) =
    All-cons so 32 (45 ∷ 62 ∷ 32 ∷ e.reply) (omega arith)
    (All-cons so 45 (62 ∷ 32 ∷ e.reply) (omega arith)
    (All-cons so 62 (32 ∷ e.reply) (omega arith) (All-cons so 32 e.reply (omega arith) reply))) in
    let behind : IsOneLine (call_text e ++ 32 ∷ 45 ∷ 62 ∷ 32 ∷ e.reply) = All-append so (call_text e) _ called arrow in
    subst IsOneLine (sym (entry_flat (decimal n) (call_text e) e.reply))
    (All-append so (decimal n) _ (number_in_line n)
    (All-cons so 32 (call_text e ++ 32 ∷ 45 ∷ 62 ∷ 32 ∷ e.reply) (omega arith) behind))

-- the first line of a history is its first entry
first_line : (n : ℕ) (e : Entry) (rest : List ℕ) → IsOneLine (entry_text n e)
    → lines_of (entry_text n e ++ 10 ∷ rest) ≡ entry_text n e ∷ lines_of rest
first_line n e rest plain =
    slice_split_at (λ b. b == 10) (entry_text n e) 10 rest
    (All-weaker (λ b. b ≢ 10) (λ b. (b == 10) ≡ false) (λ b ne. ne_eqb b 10 ne) (entry_text n e) plain)
    refl

-- the lines that are written for a script's calls are their entries
written : (rules : Rules) (l : Limits) (st : ScriptState) (n : ℕ) {lines : List (List ℕ)} (calls : List ScriptCall)
    → AreCalls lines calls
    → All (λ c. IsCallOf rules c.call) calls
    → AreEntries rules n (lines_of (answer_from rules l st n calls)) (answered rules l st calls)
written rules l st n calls no_lines so = AreEntries.blank_line (inl refl) AreEntries.no_lines
written rules l st n calls (blank_line b others) so = written rules l st n calls others so
written rules l st n calls (call_line {caller = caller} {c = c} {calls = more} is others) so =
    let done = seq rules l st caller c in
    let line : ScriptCall = record { caller = caller; call = c } in
    let allowed = λ (c : ScriptCall). IsCallOf rules c.call in
    let rest = answer_from rules l done.left (n + 1) more in
    let e : Entry = record { line = line; reply = reply_text done.reply } in
    let call : IsLine caller c (line_text caller c) = subst (IsLine caller c) is.text is in
    let cut = ap lines_of (append_assoc (entry_text n e) (10 ∷ []) rest)
    ∙ first_line n e rest (entry_in_line n e call (reply_plain done.reply)) in
    subst (λ lines. AreEntries rules n lines (e ∷ answered rules l done.left more)) (sym cut)
    (AreEntries.entry_line (record { call = call; of_rules = All-head allowed line more so; text = refl })
    (written rules l done.left (n + 1) more others (All-tail allowed line more so)))

pub history_is_legal : (rules : Rules) (l : Limits) (text : List ℕ) (calls : List ScriptCall) → IsScript text calls
    → All (λ c. IsCallOf rules c.call) calls → HasLegalHistory rules l calls
history_is_legal rules l text calls script so = record {
  entries = answered rules l script_opening calls;
  history = written rules l script_opening 1 calls script so;
  same = calls_answered rules l script_opening calls;
  legal = legal_answered rules l script_opening calls;
}
