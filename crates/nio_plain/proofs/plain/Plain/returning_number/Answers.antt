use Rattle.std.proofs.Common.{◌<◌, ◌≤◌, below_more, ⊎_elim, length, sym, arith}
use Rattle.std.proofs.lemmas.Bool.{both_ways, cases_lt}
use Rattle.nio_plain.proofs.Found.{find_first, find_none}
use Rattle.nio_plain.proofs.ReachedPipes.{comes_back-parts}
use Rattle.nio_plain.proofs.Replying.{channel_made-past}
use Rattle.nio_plain.specs.PlainState.{limits_of, rules_of, state_of}
use Rattle.nio_plain.specs.Seq.Opening.{number_comes_back}
use Rattle.nio_plain.proofs.plain.Plain.returning_number.Goals as goal

pub loop-number-preserved : goal.loop-number-preserved
loop-number-preserved c = below_more _ _ c.loop-number.invariant (sym c.if-number_comes_back.ensures)

pub returns-then-number_comes_back-clause-least : goal.returns-then-number_comes_back-clause-least
returns-then-number_comes_back-clause-least c =
    let p = c.args.self.now in
    sym (find_first (number_comes_back (rules_of p) (limits_of p) (state_of p).shared c.args.kind)
    (limits_of p).channels c.loop-number.number (omega arith) (sym c.if-number_comes_back.ensures)
    c.loop-number.invariant)

pub returns-then-number_comes_back-clause-there : goal.returns-then-number_comes_back-clause-there
returns-then-number_comes_back-clause-there c =
    let p = c.args.self.now in
    let n = c.loop-number.number in
    let parts = comes_back-parts (rules_of p) (limits_of p) (state_of p) c.args.kind n
    (sym c.if-number_comes_back.ensures) in
    ⊎_elim
    (λ (l : n < length p.channels.items). omega (arith, p.channels.ok.0))
    (λ (l : length p.channels.items ≤ n).
    absurd (both_ways ((state_of p).shared.chan n).made (channel_made-past p.channels.items n l) parts.0))
    (cases_lt n (length p.channels.items))

pub returns-then-number_comes_back-clause-serial : goal.returns-then-number_comes_back-clause-serial
returns-then-number_comes_back-clause-serial c =
    let p = c.args.self.now in
    let parts = comes_back-parts (rules_of p) (limits_of p) (state_of p) c.args.kind c.loop-number.number
    (sym c.if-number_comes_back.ensures) in
    omega (arith, parts.1)

pub returns-clause-least : goal.returns-clause-least
returns-clause-least c =
    let p = c.args.self.now in
    sym (find_none (number_comes_back (rules_of p) (limits_of p) (state_of p).shared c.args.kind)
    (limits_of p).channels (λ k l. c.loop-number.invariant k (omega arith)))
