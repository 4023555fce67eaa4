use Rattle.std.proofs.Common.{◌<◌, ◌≤◌, length, arith}
use Rattle.nio_plain.proofs.Replying.{selector_made-below, selector_made-past}
use Rattle.nio_plain.proofs.Naming.{selector-through, selector-refused}
use Rattle.nio_plain.specs.PlainState.{state_of}
use Rattle.nio_plain.proofs.plain.Plain.selector.Goals as goal

pub returns-then-sel-len-clause-refused : goal.returns-then-sel-len-clause-refused
returns-then-sel-len-clause-refused c =
    let p = c.args.self.now in
    let past : length p.selectors.items ≤ c.args.sel.0 = omega (arith, p.selectors.ok.0) in
    selector-refused (state_of p) c.args.sel (selector_made-past p.selectors.items c.args.sel.0 past)

pub returns-clause-through : goal.returns-clause-through
returns-clause-through c =
    let p = c.args.self.now in
    let within : c.args.sel.0 < length p.selectors.items = omega (arith, p.selectors.ok.0) in
    selector-through (state_of p) c.args.sel (selector_made-below p.selectors.items c.args.sel.0 within)
