use Rattle.std.proofs.Common.{◌∙◌, ap, map, arith}
use Rattle.nio_language.proofs.LineTexts.{reads_line_where_ok}
use Rattle.nio_language.proofs.parse.line.read_line.Goals as goal

pub returns : goal.returns
returns c =
    reads_line_where_ok c.args.line.now (map (λ w. w.now) c.deref.result.now) c.line_from.result (omega arith)
    (ap (map (λ w. w.now)) c.deref.ensures.value ∙ c.in_ok-words.ensures)
    c.line_from.ensures
