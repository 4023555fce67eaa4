-- By each of the rules a text is a history, or has one first line that isn't in its grammar, and not
-- both.
use Rattle.std.proofs.Common.{◌≡◌, ℕ, ◌+◌, List, length, arith}
use Rattle.nio_language.specs.Script.{lines_of}
use Rattle.nio_plain.specs.declared.rules.Rules.{Rules}
use Rattle.nio_script.specs.Entries.{IsNoEntry}
use Rattle.nio_script.specs.History.{Entry, AreEntries, IsHistory, IsFirstBadEntry}
use Rattle.nio_script.proofs.EntryLemmas.{no_entry_behind, none_renumbered}
use Rattle.nio_script.proofs.FirstBreak.{IsBreak, unbroken, one_break}

abbrev IsSomeHistory : Rules → List (List ℕ) → Type 0
IsSomeHistory rules lines = (entries : List Entry) × AreEntries rules 1 lines entries

break_of : (rules : Rules) (text : List ℕ) (n : ℕ) → IsFirstBadEntry rules text n
    → IsBreak (IsSomeHistory rules) (lines_of text) n
break_of rules text n bad =
    let none : IsNoEntry rules (length bad.entries + 1) bad.line = record { full = bad.full; bad = bad.bad } in
    record {
      item = bad.line;
      before = bad.before;
      after = bad.after;
      parts = bad.lines;
      number = bad.number;
      good = (bad.entries, bad.good);
      bad = λ rest all. no_entry_behind rest bad.good (none_renumbered (omega arith) none) all.1;
    }

pub history_not_bad : (rules : Rules) (text : List ℕ) (entries : List Entry) (n : ℕ) → IsHistory rules text entries
    → IsFirstBadEntry rules text n → ⊥
history_not_bad rules text entries n history bad =
    unbroken (IsSomeHistory rules) (lines_of text) n (entries, history) (break_of rules text n bad)

pub first_bad_entry_is_one : (rules : Rules) (text : List ℕ) (m n : ℕ) → IsFirstBadEntry rules text m
    → IsFirstBadEntry rules text n → m ≡ n
first_bad_entry_is_one rules text m n x y =
    one_break (IsSomeHistory rules) (lines_of text) m n (break_of rules text m x) (break_of rules text n y)
