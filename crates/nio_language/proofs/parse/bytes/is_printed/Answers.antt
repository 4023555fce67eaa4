use Rattle.std.proofs.Common.{◌≡◌, ◌++◌, ap, ◌∙◌, arith}
use Rattle.nio_language.specs.Words.{bytes_word}
use Rattle.nio_language.proofs.HexWords.{few_bytes}
use Rattle.nio_language.proofs.parse.bytes.is_printed.Goals as goal

pub returns : goal.returns
returns c =
    let printed : c.as_slice.result.now ≡ bytes_word c.args.bytes.now =
    c.as_slice.ensures.value ∙ (c.in_ok-push_hex.ensures
    ∙ ap (λ front. front ++ bytes_word c.args.bytes.now) c.in_ok-printed.ensures.items) in
    few_bytes c.args.word.now c.as_slice.result.now c.args.bytes.now c.eq.result
    (omega (arith, c.if-bytes-gt-BYTES_LIMIT.false))
    c.type_inv.bytes printed c.eq.ensures
