use Rattle.std.proofs.Common.{⊎_elim}
use Rattle.nio_language.proofs.HexWords.{word_decodes, word_fails, not_dash}
use Rattle.nio_language.proofs.parse.bytes.decode.Goals as goal

pub returns-in-Ok : goal.returns-in-Ok
returns-in-Ok c =
    word_decodes c.args.word.now c.in-Ok.bytes.items
    (not_dash c.args.word.now c.as_slice.result.now c.eq.result c.as_slice.ensures c.eq.ensures c.if-eq.false)
    c.in-Ok.ensures.ok

pub returns-in_default : goal.returns-in_default
returns-in_default c =
    word_fails c.args.word.now c.in-Err.error
    (not_dash c.args.word.now c.as_slice.result.now c.eq.result c.as_slice.ensures c.eq.ensures c.if-eq.false)
    (⊎_elim (λ spent. absurd (c.in_default.not-OutOfMemory spent)) (λ is. is) c.in-Err.ensures.err)
