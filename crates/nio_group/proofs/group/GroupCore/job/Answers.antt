use Rattle.std.proofs.Common.{◌≡◌, ◌∙◌, ap, sym, Some}
use Rattle.nio_group.specs.declared.operation.Stage.{Stage}
use Rattle.nio_group.specs.Pending.{slot_of}
use Rattle.nio_group.specs.Flight.{op_at}
use Rattle.nio_group.proofs.EndLemmas.{job-pending, job-named}
use Rattle.nio_group.proofs.group.GroupCore.job.Goals as goal

pub returns-clause-some : goal.returns-clause-some
returns-clause-some c =
    let within = (rw (← c.self.view_is) at c.requires).0 in
    let op = c.in_ok-operation.operation in
    let slot : slot_of c.index.result.now c.args.kind ≡ Some c.in_ok-number.number = sym c.get.ensures
    ∙ c.in_ok-number.was in
    let is : op_at c.self.inside.flight c.in_ok-number.number ≡ Some op = sym c.get-2.ensures ∙ c.in_ok-operation.was in
    let parts = job-pending c.args.chan.number c.args.kind c.index.result.now c.in_ok-number.number op c.self.invariant
    within c.index.ensures slot is in
    let present = rw (← c.self.view_is) at (sym c.is_present.ensures ∙ c.if-not-is_present.false) in
    rw (c.make.ensures, ← c.self.view_is)
    (record {
      chan = job-named c.args.chan c.in_ok-number.number op c.self.invariant is parts.stage parts.chan present;
      same_kind = parts.same;
      pending = is ∙ ap (λ (stage : Stage). Some (record op { stage = stage })) parts.stage;
    })
