-- A text is a history of one list of entries.
use Rattle.std.proofs.Common.{◌≡◌, ◌≢◌, ℕ, List, [], ◌∷◌, ◌++◌, drop, refl, sym, ap, ◌∙◌, subst, append_assoc, All}
use Rattle.std.specs.Fmt.{decimal}
use Rattle.std.proofs.lemmas.List.{append_cancel_left, append_cancel_right}
use Rattle.nio_language.specs.Calls.{IsLine}
use Rattle.nio_language.proofs.Cuts.{cut_one}
use Rattle.nio_language.proofs.OneReading.{line_one}
use Rattle.nio_plain.specs.declared.rules.Rules.{Rules}
use Rattle.nio_plain.specs.declared.rules.Rules.TheVariants.{First, Now}
use Rattle.nio_script.specs.History.{Entry, IsEntry, AreEntries, no_lines, blank_line, entry_line, call_text}
use Rattle.nio_script.proofs.EntryLemmas.{entry_flat, entry_full, same_entry, same_line}
use Rattle.nio_script.proofs.EntryTexts.{arrowless, lacks_arrow}

-- texts before and behind the first arrow
arrow_one : (before after front back : List ℕ) → All (λ b. b ≢ 62) before → All (λ b. b ≢ 62) front
    → before ++ 32 ∷ 45 ∷ 62 ∷ 32 ∷ after ≡ front ++ 32 ∷ 45 ∷ 62 ∷ 32 ∷ back → (before ≡ front) × (after ≡ back)
arrow_one before after front back h k e =
    let cut = λ (xs ys : List ℕ). append_assoc xs (32 ∷ 45 ∷ []) (62 ∷ 32 ∷ ys) in
    let parts = cut_one 62 (before ++ 32 ∷ 45 ∷ []) (32 ∷ after) (front ++ 32 ∷ 45 ∷ []) (32 ∷ back)
    (lacks_arrow before h) (lacks_arrow front k) (cut before after ∙ e ∙ sym (cut front back)) in
    (append_cancel_right before front (32 ∷ 45 ∷ []) parts.0, ap (drop 1) parts.1)

-- a line is one entry
entry_one : (rules : Rules) (n : ℕ) (line : List ℕ) (e f : Entry) → IsEntry rules n e line → IsEntry rules n f line
    → e ≡ f
entry_one rules n line e f x y =
    let flat = sym (entry_flat (decimal n) (call_text e) e.reply) ∙ sym x.text ∙ y.text
    ∙ entry_flat (decimal n) (call_text f) f.reply in
    let parts = arrow_one (call_text e) e.reply (call_text f) f.reply (arrowless rules n line e x)
    (arrowless rules n line f y) (ap (drop 1) (append_cancel_left (decimal n) _ _ flat)) in
    let one = line_one x.call (subst (IsLine f.line.caller f.line.call) (sym parts.0) y.call) in
    same_entry e f (same_line e.line f.line one.0 one.1) parts.1

pub entries_one : {rules : Rules} {n : ℕ} {lines : List (List ℕ)} {entries others : List Entry}
    → AreEntries rules n lines entries → AreEntries rules n lines others
    → entries ≡ others
entries_one no_lines no_lines = refl
entries_one (blank_line b rest) (blank_line c more) = entries_one rest more
entries_one (blank_line b rest) (entry_line is more) = absurd (entry_full is b)
entries_one (entry_line is rest) (blank_line b more) = absurd (entry_full is b)
entries_one {rules = rules} (entry_line {n = n} {line = line} {e = e} {entries = entries} is rest)
    (entry_line {e = f} same more) =
    ap (λ x. x ∷ entries) (entry_one rules n line e f is same) ∙ ap (λ es. f ∷ es) (entries_one rest more)

-- what lines are by the first rules they are by those of now
pub entries_of_now : {n : ℕ} {lines : List (List ℕ)} {entries : List Entry} → AreEntries First n lines entries
    → AreEntries Now n lines entries
entries_of_now no_lines = no_lines
entries_of_now (blank_line b rest) = blank_line b (entries_of_now rest)
entries_of_now (entry_line is rest) =
    entry_line (record { call = is.call; of_rules = tt; text = is.text }) (entries_of_now rest)
