use Rattle.std.proofs.Common.{◌≡◌, ◌∙◌, sym, true, Some, arith}
use Rattle.nio_group.specs.Flight.{op_at}
use Rattle.nio_group.specs.Stages.{is_running}
use Rattle.nio_group.proofs.EndLemmas.{kept-ended, ended-counted, runs}
use Rattle.nio_group.proofs.group.GroupCore.finish.Goals as goal

pub index-channel-requires : goal.index-channel-requires
index-channel-requires c =
    let op = c.in-Some.operation in
    let found = runs c.get.result op (sym c.running.ensures ∙ c.in-Some.is) in
    let made = c.self.invariant.lawful.made c.args.op.0 op (sym c.get.ensures ∙ found.0) in
    omega (arith, made.0, c.self.inside.channels.ok.0)

pub with_one_less-requires : goal.with_one_less-requires
with_one_less-requires c counts =
    let op = c.in-Some.operation in
    let found = runs c.get.result op (sym c.running.ensures ∙ c.in-Some.is) in
    ended-counted c.args.op.0 op c.index-channel.result.now c.index.result.now c.self.invariant
    (sym c.get.ensures ∙ found.0) c.index-channel.ensures c.index.ensures counts

pub invariant_of-self : goal.invariant_of-self
invariant_of-self c =
    let op = c.in-Some.operation in
    let found = runs c.get.result op (sym c.running.ensures ∙ c.in-Some.is) in
    let is : op_at c.self.inside.flight c.args.op.0 ≡ Some op = sym c.get.ensures ∙ found.0 in
    let running : is_running (op_at c.self.inside.flight c.args.op.0) ≡ true = rw is found.1 in
    rw (c.finish.ensures, c.with_one_less.ensures)
    (kept-ended c.args.op.0 op c.index-channel.result.now c.index.result.now c.self.invariant is running
    c.index-channel.ensures c.index.ensures)
