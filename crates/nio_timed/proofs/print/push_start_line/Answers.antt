use Rattle.std.proofs.Common.{◌++◌, ◌∷◌, ◌∙◌, codes, ap, append_assoc}
use Rattle.std.specs.Fmt.{decimal}
use Rattle.std.specs.List.{join_with_byte}
use Rattle.nio_language.proofs.JoinedWords.{both_pushed}
use Rattle.nio_timed.specs.Lines.{start_words}
use Rattle.nio_timed.proofs.print.push_start_line.Goals as goal

pub returns : goal.returns
returns c =
    let before = c.args.text.now.items in
    let caller = 116 ∷ decimal c.args.caller.0 in
    let rest = join_with_byte 32 (start_words c.args.start) in
    both_pushed before c.extend_from_slice.new.self.items c.push_start.new.text.items
    (caller ++ codes " start-timed ") rest _ c.push_start.result
    (c.in_ok-extend_from_slice.ensures.items
    ∙ ap (λ t. t ++ codes " start-timed ") c.in_ok-push_caller.ensures
    ∙ append_assoc before caller (codes " start-timed "))
    c.push_start.ensures (append_assoc caller (codes " start-timed ") rest)
