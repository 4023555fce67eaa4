use Rattle.std.proofs.Common.{◌≡◌, Some, None, sym, ◌∙◌}
use Rattle.nio_group.specs.declared.operation.Operation.{Operation}
use Rattle.nio_group.specs.Pending.{with_slot}
use Rattle.nio_group.specs.GroupKept.{group_of}
use Rattle.nio_group.specs.Refusals.{start_refusal}
use Rattle.nio_group.proofs.StartLemmas.{kept-started-connect, kept-started-same, kept-queued, start-room}
use Rattle.nio_group.proofs.StartLemmas.{start-few}
use Rattle.nio_group.proofs.group.GroupCore.start.Goals as goal

pub accept-number-requires-clause-room : goal.accept-number-requires-clause-room
accept-number-requires-clause-room c =
    let i = c.self.inside in
    let free : start_refusal (group_of i.flight i.channels.items i.shut i.limits) c.args.chan c.args.kind ≡ None =
    rw (← c.self.view_is) at (sym c.start_refusal.ensures ∙ c.in_default.is) in
    (start-room c.args.chan c.args.kind c.self.invariant free).0

pub accept-number-requires-clause-numbers : goal.accept-number-requires-clause-numbers
accept-number-requires-clause-numbers c =
    let i = c.self.inside in
    let free : start_refusal (group_of i.flight i.channels.items i.shut i.limits) c.args.chan c.args.kind ≡ None =
    rw (← c.self.view_is) at (sym c.start_refusal.ensures ∙ c.in_default.is) in
    (start-room c.args.chan c.args.kind c.self.invariant free).1

pub invariant_of-self : goal.invariant_of-self
invariant_of-self c =
    let i = c.self.inside in
    let free : start_refusal (group_of i.flight i.channels.items i.shut i.limits) c.args.chan c.args.kind ≡ None =
    rw (← c.self.view_is) at (sym c.start_refusal.ensures ∙ c.in_default.is) in
    let made = rw (← c.self.view_is) at c.requires in
    let op : Operation = record {
      chan = c.args.chan;
      kind = c.args.kind;
      len = c.args.len;
      stage = c.first_stage-stage.result;
    } in
    let slot : c.with.result ≡ with_slot c.with_one_more-counted.result c.args.kind
    (Some c.accept-number.result) = c.with.ensures in
    rw (c.accept-number.ensures.accepts, slot, c.with_one_more-counted.ensures)
    (kept-started-connect op c.index-channel.result.now c.index.result.now c.accept-number.result c.is_open.result
    c.self.invariant made c.index-channel.ensures c.index.ensures c.accept-number.ensures.number free c.in-Pending.is
    c.first_stage-stage.ensures (rw (← c.self.view_is) at c.is_open.ensures) c.in-Connect.is)

pub invariant_of-self-in_default-kind : goal.invariant_of-self-in_default-kind
invariant_of-self-in_default-kind c =
    let i = c.self.inside in
    let free : start_refusal (group_of i.flight i.channels.items i.shut i.limits) c.args.chan c.args.kind ≡ None =
    rw (← c.self.view_is) at (sym c.start_refusal.ensures ∙ c.in_default.is) in
    let made = rw (← c.self.view_is) at c.requires in
    let op : Operation = record {
      chan = c.args.chan;
      kind = c.args.kind;
      len = c.args.len;
      stage = c.first_stage-stage.result;
    } in
    let slot : c.with.result ≡ with_slot c.with_one_more-counted.result c.args.kind
    (Some c.accept-number.result) = c.with.ensures in
    rw (c.accept-number.ensures.accepts, slot, c.with_one_more-counted.ensures)
    (kept-started-same op c.index-channel.result.now c.index.result.now c.accept-number.result c.is_open.result
    c.self.invariant made c.index-channel.ensures c.index.ensures c.accept-number.ensures.number free c.in-Pending.is
    c.first_stage-stage.ensures (rw (← c.self.view_is) at c.is_open.ensures) c.in_default-kind.not-Connect)

pub invariant_of-self-in_default-stage : goal.invariant_of-self-in_default-stage
invariant_of-self-in_default-stage c =
    let i = c.self.inside in
    let free : start_refusal (group_of i.flight i.channels.items i.shut i.limits) c.args.chan c.args.kind ≡ None =
    rw (← c.self.view_is) at (sym c.start_refusal.ensures ∙ c.in_default.is) in
    let op : Operation = record {
      chan = c.args.chan;
      kind = c.args.kind;
      len = c.args.len;
      stage = c.first_stage-stage.result;
    } in
    let made = rw (← c.self.view_is) at c.requires in
    rw (c.accept-number.ensures.accepts, c.with_one_more-counted.ensures)
    (kept-queued op c.index-channel.result.now c.index.result.now c.self.invariant made c.index-channel.ensures
    c.index.ensures free c.in_default-stage.not-Pending)

pub with_one_more-counted-requires : goal.with_one_more-counted-requires
with_one_more-counted-requires c =
    let i = c.self.inside in
    let free : start_refusal (group_of i.flight i.channels.items i.shut i.limits) c.args.chan c.args.kind ≡ None =
    rw (← c.self.view_is) at (sym c.start_refusal.ensures ∙ c.in_default.is) in
    let made = rw (← c.self.view_is) at c.requires in
    start-few c.args.chan.number c.index.result.now c.self.invariant made.0 c.index.ensures
    (start-room c.args.chan c.args.kind c.self.invariant free).0
