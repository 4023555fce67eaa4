use Rattle.std.proofs.Common.{◌∙◌, sym}
use Rattle.nio_group.specs.GroupKept.{group_of}
use Rattle.nio_group.specs.Group.{is_open}
use Rattle.nio_group.specs.Refusals.{bind_refusal}
use Rattle.nio_group.proofs.RunLemmas.{kept-bound}
use Rattle.nio_group.proofs.group.GroupCore.bind.Goals as goal

pub invariant_of-self : goal.invariant_of-self
invariant_of-self c =
    let made = rw (← c.self.view_is) at c.requires in
    let opened = rw (← c.self.view_is) at c.is_open.ensures in
    let free = sym c.bind.ensures ∙ c.in_default.is in
    kept-bound c.args.chan c.index-channel.result.now c.self.invariant made.0 c.index-channel.ensures
    (rw opened at free)
