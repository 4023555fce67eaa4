use Rattle.std.proofs.Common.{◌<◌, Some, length, ap, arith, ◌∙◌}
use Rattle.nio_steps.specs.Looking.{enlisted, looked_key, without_index}
use Rattle.nio_select.specs.Asked.{Looked}
use Rattle.nio_select.specs.declared.slot.Slot.{Slot}
use Rattle.std.specs.Vec.{vec_capacity}
use Rattle.nio_select.proofs.AskedKeys.{kept_set, counted_there, count_fits, looked_set}
use Rattle.nio_select.proofs.asked.Asked.put.Goals as goal

pub overflow_add-more : goal.overflow_add-more
overflow_add-more c =
    let a = c.self.inside in
    let fits = count_fits a.slots.items a.noted a.count c.args.i c.index-was.result.now c.index-was.result.now
    c.self.invariant in
    omega (arith, fits)

pub overflow_sub-self : goal.overflow_sub-self
overflow_sub-self c =
    let a = c.self.inside in
    let new : Slot = record { serial = c.args.stage.serial; channel = c.args.stage.chan; interest = c.args.interest } in
    let there = counted_there a.slots.items a.noted a.count c.args.i c.index-was.result.now (Some new) c.self.invariant
    (omega (arith, c.requires, ap (λ v. v.bound) c.self.view_is)) c.index-was.ensures in
    omega (arith, there, c.count_of.ensures)

pub invariant_of-self : goal.invariant_of-self
invariant_of-self c =
    let a = c.self.inside in
    let new : Slot = record { serial = c.args.stage.serial; channel = c.args.stage.chan; interest = c.args.interest } in
    let within : c.args.i < length a.slots.items = omega (arith, c.requires, ap (λ v. v.bound) c.self.view_is) in
    let there = counted_there a.slots.items a.noted a.count c.args.i c.index-was.result.now (Some new) c.self.invariant
    within c.index-was.ensures in
    kept_set a.slots.items a.noted a.count c.args.i c.index-was.result.now (Some new) _ c.self.invariant within
    c.index-was.ensures (omega (arith, there, c.count_of.ensures))

pub returns : goal.returns
returns c =
    let a = c.self.inside in
    let new : Slot = record { serial = c.args.stage.serial; channel = c.args.stage.chan; interest = c.args.interest } in
    looked_set a.slots.items c.args.i (Some new) a.changed.items (vec_capacity a.changed) a.stamp
    (omega (arith, c.requires, ap (λ v. v.bound) c.self.view_is))
    ∙ ap (λ (v : Looked). record v { keys = enlisted (looked_key c.args.i c.args.stage c.args.interest) (without_index c.args.i v.keys) }) c.self.view_is
