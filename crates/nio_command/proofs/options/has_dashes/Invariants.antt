-- No word so far is `--`.
use Rattle.std.proofs.Common.{◌≡◌, ◌<◌, ℕ, false, codes, Global, String}
use Rattle.std.specs.List.{slice_index_or}
use Rattle.std.specs.Str.{bytes_eq}
use Rattle.std.specs.String.{string_bytes}
use Rattle.nio_command.proofs.options.has_dashes.Given as goal

abbrev pub invariant-loop-word : goal.invariant-loop-word
invariant-loop-word l =
    (k : ℕ) (d : String Global) → k < l.word-index
    → bytes_eq (string_bytes (slice_index_or l.words k d)) (codes "--") ≡ false
