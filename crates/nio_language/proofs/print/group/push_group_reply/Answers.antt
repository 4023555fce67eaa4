use Rattle.std.proofs.Common.{◌∙◌, ◌∷◌, codes, refl, sym}
use Rattle.std.specs.List.{join_with_byte}
use Rattle.nio_language.specs.GroupReplies.{group_reply_words}
use Rattle.nio_language.specs.GroupWords.{finished_words, operation_word}
use Rattle.nio_language.specs.Printing.{spaced}
use Rattle.nio_language.proofs.JoinedWords.{join_spaced, both_pushed}
use Rattle.nio_language.proofs.print.group.push_group_reply.Goals as goal

pub returns-in_ok-push_bytes-in-Completed : goal.returns-in_ok-push_bytes-in-Completed
returns-in_ok-push_bytes-in-Completed c =
    let words = operation_word c.in-Completed.operation ∷ finished_words c.in-Completed.finished in
    both_pushed c.args.line.now.items c.push_bytes-in-Completed.new.line.items c.push_completion.new.line.items
    (codes "op") (spaced words) (join_with_byte 32 (group_reply_words c.args.reply)) c.push_completion.result
    c.in_ok-push_bytes-in-Completed.ensures c.push_completion.ensures
    (sym (join_spaced (codes "op") words) ∙ rw c.in-Completed.is refl)
