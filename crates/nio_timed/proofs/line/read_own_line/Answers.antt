use Rattle.std.proofs.Common.{◌∙◌, ap, map, arith}
use Rattle.nio_timed.proofs.Lines.{finds_own}
use Rattle.nio_timed.proofs.line.read_own_line.Goals as goal

pub returns : goal.returns
returns c =
    finds_own (map (λ w. w.now) c.deref.result.now) c.read_words.result c.requires (omega arith)
    (ap (map (λ w. w.now)) c.deref.ensures.value ∙ c.in_ok-words.ensures) c.read_words.ensures
