use Rattle.std.proofs.Common.{sym}
use Rattle.nio_language.specs.Calls.{call_words, line_text}
use Rattle.nio_language.specs.Printing.{spaced}
use Rattle.nio_language.specs.Words.{caller_word}
use Rattle.nio_language.proofs.JoinedWords.{join_spaced, both_pushed}
use Rattle.nio_language.proofs.print.call.push_line_text.Goals as goal

pub returns : goal.returns
returns c =
    let call = c.args.call.now in
    both_pushed c.args.line.now.items c.push_numbered.new.line.items c.push_call.new.line.items
    (caller_word c.args.caller) (spaced (call_words call)) (line_text c.args.caller call) c.push_call.result
    c.in_ok-push_numbered.ensures c.push_call.ensures
    (sym (join_spaced (caller_word c.args.caller) (call_words call)))
