use Rattle.std.proofs.Common.{◌≡◌, ◌-◌, ◌∙◌, ap, drop, length, take, arith}
use Rattle.nio_language.specs.declared.call.Call.TheVariants as call
use Rattle.nio_timed.proofs.Printing.{line_within, on_ok}
use Rattle.nio_timed.proofs.print.push_group_line.Goals as goal

pub returns : goal.returns
returns c =
    let history = c.in_ok-history.history.items in
    let many : c.len.result ≡ length history = omega (arith, c.len.ensures, c.in_ok-history.history.ok.0) in
    on_ok c.extend_from_slice.result _ _ _ _ c.extend_from_slice.ensures.items
    (ap (λ n. take (n - 7 - 2) (drop 2 c.deref.result.now)) many
    ∙ ap (λ h. take (length history - 7 - 2) (drop 2 h)) c.deref.ensures.value
    ∙ line_within c.args.caller (call.Group c.args.call) history c.in_ok-history.ensures)
