use Rattle.std.proofs.Common.{sym, arith}
use Rattle.nio_group.proofs.TableLemmas.{key_in-not_near, key_in-read}
use Rattle.nio_group.proofs.index.Index.get.Goals as goal

pub returns-in_err-at : goal.returns-in_err-at
returns-in_err-at c =
    let absent = rw (c.deref.ensures.value, c.home-home.ensures.place) at c.in_err-at.ensures.absent in
    rw (c.from_residual.ensures, ← c.self.view_is)
    (sym (key_in-not_near c.args.number c.self.invariant absent))

pub returns : goal.returns
returns c =
    let table = c.self.invariant in
    let size = table.size in
    let small = table.small_reach in
    let found = rw c.deref.ensures.value at c.in_ok-at.ensures.found in
    rw (← c.self.view_is)
    (key_in-read c.args.number c.in_ok-at.at c.index.result.now c.in_ok-entry.entry table
    (omega (arith, found.1, c.home-home.ensures.below)) found.2 c.index.ensures c.in_ok-entry.was)
