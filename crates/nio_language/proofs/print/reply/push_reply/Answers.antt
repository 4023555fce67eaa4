use Rattle.std.proofs.Common.{◌∙◌, codes, refl, sym}
use Rattle.nio_language.specs.Printing.{spaced}
use Rattle.nio_language.specs.Replies.{pairs_words, reply_text}
use Rattle.nio_language.proofs.JoinedWords.{join_spaced, both_pushed}
use Rattle.nio_language.proofs.print.reply.push_reply.Goals as goal

pub returns-in_ok-push_bytes-in-Looked : goal.returns-in_ok-push_bytes-in-Looked
returns-in_ok-push_bytes-in-Looked c =
    let pairs = c.as_slice-in-Looked.result.now in
    both_pushed c.args.line.now.items c.push_bytes-in-Looked.new.line.items c.push_pairs_or_none.new.line.items
    (codes "looked") (spaced (pairs_words pairs)) (reply_text c.args.reply.now) c.push_pairs_or_none.result
    c.in_ok-push_bytes-in-Looked.ensures c.push_pairs_or_none.ensures
    (sym (join_spaced (codes "looked") (pairs_words pairs)) ∙ rw (c.as_slice-in-Looked.ensures, c.in-Looked.is) refl)
