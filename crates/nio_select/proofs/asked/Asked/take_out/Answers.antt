use Rattle.std.proofs.Common.{◌<◌, None, length, ap, arith, ◌∙◌}
use Rattle.nio_steps.specs.Looking.{without_index}
use Rattle.nio_select.specs.Asked.{Looked}
use Rattle.std.specs.Vec.{vec_capacity}
use Rattle.nio_select.proofs.AskedKeys.{kept_set, counted_there, looked_set}
use Rattle.nio_select.proofs.asked.Asked.take_out.Goals as goal

pub overflow_sub-self : goal.overflow_sub-self
overflow_sub-self c =
    let a = c.self.inside in
    let there = counted_there a.slots.items a.noted a.count c.args.i c.index-was.result.now None c.self.invariant
    (omega (arith, c.requires, ap (λ v. v.bound) c.self.view_is)) c.index-was.ensures in
    omega (arith, there, c.count_of.ensures)

pub invariant_of-self : goal.invariant_of-self
invariant_of-self c =
    let a = c.self.inside in
    let within : c.args.i < length a.slots.items = omega (arith, c.requires, ap (λ v. v.bound) c.self.view_is) in
    let there = counted_there a.slots.items a.noted a.count c.args.i c.index-was.result.now None c.self.invariant
    within c.index-was.ensures in
    kept_set a.slots.items a.noted a.count c.args.i c.index-was.result.now None _ c.self.invariant within
    c.index-was.ensures (omega (arith, there, c.count_of.ensures))

pub returns : goal.returns
returns c =
    let a = c.self.inside in
    looked_set a.slots.items c.args.i None a.changed.items (vec_capacity a.changed) a.stamp
    (omega (arith, c.requires, ap (λ v. v.bound) c.self.view_is))
    ∙ ap (λ (v : Looked). record v { keys = without_index c.args.i v.keys }) c.self.view_is
