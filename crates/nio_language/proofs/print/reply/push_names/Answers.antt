use Rattle.std.proofs.Common.{◌∙◌, ap, map, sym}
use Rattle.std.specs.List.{join_with_byte}
use Rattle.nio_language.specs.Printing.{spaced}
use Rattle.nio_language.specs.Words.{key_word}
use Rattle.nio_language.proofs.JoinedWords.{join_spaced, both_pushed}
use Rattle.nio_language.proofs.print.reply.push_names.Goals as goal

pub returns-in_ok-push_key-in-Some : goal.returns-in_ok-push_key-in-Some
returns-in_ok-push_key-in-Some c =
    let first = key_word c.in-Some.first.now in
    let others = map key_word c.in-Some.others.now in
    both_pushed c.args.line.now.items c.push_key.new.line.items c.push_keys.new.line.items first (spaced others)
    (join_with_byte 32 (map key_word c.args.keys.now)) c.push_keys.result c.in_ok-push_key-in-Some.ensures
    c.push_keys.ensures
    (sym (join_spaced first others) ∙ ap (λ l. join_with_byte 32 (map key_word l)) (sym c.in-Some.ensures.cases.0))
