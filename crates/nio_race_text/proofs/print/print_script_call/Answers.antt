use Rattle.std.proofs.Common.{◌≡◌, ◌-◌, ◌∙◌, ap, drop, length, length-drop, refl, take, arith}
use Rattle.std.proofs.lemmas.List.{take_all}
use Rattle.nio_race_text.proofs.Output.{exchanged}
use Rattle.nio_race_text.proofs.print.print_script_call.Goals as goal

pub returns : goal.returns
returns c =
    let line = c.push_head.new.line.items in
    let history = c.in_ok-history.history.items in
    let bytes = c.deref.result.now in
    let head = c.len-head.result in
    let rest : take (length bytes - head) (drop head bytes) ≡ drop head history =
    take_all (length bytes - head) (drop head bytes) (omega (arith, length-drop head bytes))
    ∙ ap (drop head) c.deref.ensures.value
    in
    c.in_ok-extend_from_slice.ensures.items
    ∙ exchanged c.args.number c.args.caller c.args.call.now c.args.reply.now line history _ head
    (c.in_ok-push_head.ensures ∙ rw c.in_ok-line.ensures.items refl) c.in_ok-history.ensures
    (omega (arith, c.len-head.ensures, c.push_head.new.line.ok.0)) rest
