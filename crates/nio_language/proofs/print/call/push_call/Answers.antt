use Rattle.std.proofs.Common.{◌∷◌, refl, ◌∙◌}
use Rattle.nio_language.specs.Arguments.{argument_words}
use Rattle.nio_language.specs.Calls.{call_words}
use Rattle.nio_language.specs.CallWords.{arguments, call_word, call_word_text}
use Rattle.nio_language.specs.Printing.{spaced}
use Rattle.nio_language.proofs.JoinedWords.{both_pushed}
use Rattle.nio_language.proofs.print.call.push_call.Goals as goal

pub returns : goal.returns
returns c =
    let call = c.args.call.now in
    both_pushed c.args.line.now.items c.push_word.new.line.items c.push_arguments.new.line.items
    (32 ∷ call_word_text (call_word call)) (spaced (argument_words (arguments call)))
    (spaced (call_words call)) c.push_arguments.result
    (c.in_ok-push_word.ensures ∙ rw (c.text.ensures, c.of.ensures) refl)
    c.push_arguments.ensures
    refl
