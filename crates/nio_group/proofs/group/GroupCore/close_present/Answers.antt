use Rattle.std.proofs.lemmas.Bool.{not-false}
use Rattle.nio_group.proofs.EndLemmas.{kept-closed}
use Rattle.nio_group.proofs.group.GroupCore.close_present.Goals as goal

pub invariant_of-self : goal.invariant_of-self
invariant_of-self c =
    let within = rw (← c.self.view_is) at c.requires in
    rw (c.complete_all.ensures, c.without_pending.ensures)
    (kept-closed c.args.number c.index-channel.result.now c.index-pending.result.now c.self.invariant within
    c.index-channel.ensures c.index-pending.ensures (not-false c.index-channel.result.now.is_open c.if-not-channel.false))
