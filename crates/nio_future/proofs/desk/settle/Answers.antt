use Rattle.std.proofs.Common.{◌≡◌, ◌∙◌, sym, None}
use Rattle.nio_group.specs.Steps.{answer_to_take}
use Rattle.nio_future.proofs.SettleLemmas.{desk_of, none-left, turned, settled-empty}
use Rattle.nio_future.proofs.desk.settle.Goals as goal

pub loop-done-preserved : goal.loop-done-preserved
loop-done-preserved c =
    let one = turned (desk_of c.loop-done.core c.loop-done.out c.args.source.now.id c.loop-done.waiting) _ _ _ c.in-Some.done _ _
    c.loop-done.invariant.settling c.in-Some.ensures.answer c.in-Some.ensures.after c.op-op.ensures
    c.finish.ensures.after c.result.ensures c.put_by.ensures in
    record {
      settling = rw c.wake.ensures one.settling;
      leads = rw c.wake.ensures (one.leads ∙ c.loop-done.invariant.leads);
    }

pub returns-clause-desk : goal.returns-clause-desk
returns-clause-desk c =
    let d = desk_of c.loop-done.core c.loop-done.out c.args.source.now.id c.loop-done.waiting in
    let none : answer_to_take d.group ≡ None = sym c.in_default.ensures.answer in
    let left = none-left d c.loop-done.invariant.settling none in
    rw (c.in_default.ensures.after, left.1) (record { settling = c.loop-done.invariant.settling; empty = left.0 })

pub returns-clause-settles : goal.returns-clause-settles
returns-clause-settles c =
    let d = desk_of c.loop-done.core c.loop-done.out c.args.source.now.id c.loop-done.waiting in
    let none : answer_to_take d.group ≡ None = sym c.in_default.ensures.answer in
    let left = none-left d c.loop-done.invariant.settling none in
    rw (c.in_default.ensures.after, left.1) (sym (settled-empty d left.0) ∙ c.loop-done.invariant.leads)
