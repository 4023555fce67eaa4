-- From the words of a line to the line.
use Rattle.std.proofs.Common.{◌≡◌, ℕ, ◌≤◌, ◌==◌, List, length, Option, Some, None, Result, Ok, Err, IfOk, sym, ap, ◌∙◌}
use Rattle.std.specs.List.{join_with_byte, slice_split}
use Rattle.std.proofs.lemmas.List.Splits.{join_with_byte-slice_split}
use Rattle.nio_base.specs.declared.numbers.CallerNo.{CallerNo}
use Rattle.nio_language.specs.Calls.{IsLine, call_words}
use Rattle.nio_language.specs.Lines.{FitsLine, line_words, ReadsLine}
use Rattle.nio_language.specs.Reading.{Reads}
use Rattle.nio_language.specs.Words.{caller_word}
use Rattle.nio_language.specs.declared.call.Call.{Call}
use Rattle.nio_language.proofs.Spaces.{split_join, caller_spaceless, call_spaceless}

only_line : (line : List ℕ) (r : Option (CallerNo × Call))
    → Reads FitsLine line_words (slice_split (λ b. b == 32) line) r
    → (caller : CallerNo) (call : Call) → IsLine caller call line → r ≡ Some (caller, call)
only_line line r read caller call h =
    let apart = split_join (caller_word caller) (call_words call) (caller_spaceless caller.0 h.caller_fits)
    (call_spaceless call h.call_fits) in
    read.only (caller, call) (record { caller = h.caller_fits; call = h.call_fits })
    (ap (slice_split (λ b. b == 32)) h.text ∙ apart)

reads_line : (line : List ℕ) (r : Option (CallerNo × Call)) → length line ≤ 4096
    → Reads FitsLine line_words (slice_split (λ b. b == 32) line) r → ReadsLine line r
reads_line line None short read = record { found = tt; only = only_line line None read }
reads_line line (Some p) short read = record {
  found = record {
    caller_fits = read.found.0.caller;
    call_fits = read.found.0.call;
    text = sym (join_with_byte-slice_split 32 line) ∙ ap (join_with_byte 32) read.found.1;
    short = short;
  };
  only = only_line line (Some p) read;
}

pub reads_line_where_ok : {E : Type 0} (line : List ℕ) (words : List (List ℕ)) (r : Result (Option (CallerNo × Call)) E)
    → length line ≤ 4096 → words ≡ slice_split (λ b. b == 32) line
    → IfOk r (Reads FitsLine line_words words) → IfOk r (ReadsLine line)
reads_line_where_ok line words (Ok r) short e read = reads_line line r short (rw e at read)
reads_line_where_ok line words (Err _) short e read = tt
