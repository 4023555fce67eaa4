use Rattle.std.proofs.Common.{◌≡◌, ◌==◌, not, bit_and, sym, ◌∙◌, rules}
use Rattle.nio_poller.proofs.LookedFor.{looked_for-key, looked_for-none}
use Rattle.nio_poller.proofs.until.is_looked_for.Goals as goal

pub returns-in-Some : goal.returns-in-Some
returns-in-Some c =
    let met : c.ne.result ≡ not (bit_and c.args.ops c.in-Some.key.interest == 0) = search rules in
    met
    ∙ sym (looked_for-key c.args.asked.now.keys c.args.index c.args.ops c.in-Some.key c.in-Some.ensures.next
    c.in-Some.ensures.is)

pub returns-in-None : goal.returns-in-None
returns-in-None c = sym (looked_for-none c.args.asked.now.keys c.args.index c.args.ops c.in-None.ensures.next)
