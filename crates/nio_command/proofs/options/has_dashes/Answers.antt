use Rattle.std.proofs.Common.{arith, codes, sym}
use Rattle.std.specs.Str.{bytes_eq}
use Rattle.std.specs.String.{string_bytes}
use Rattle.std.proofs.lemmas.List.Folds.{list_any_none}
use Rattle.nio_command.proofs.options.has_dashes.Goals as goal

pub returns : goal.returns
returns c =
    sym (list_any_none (λ w. bytes_eq (string_bytes w) (codes "--")) c.args.words.now
    (λ k d lt. c.loop-word.invariant k d (omega arith)))
