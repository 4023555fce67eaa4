use Rattle.std.proofs.Common.{◌≡◌, ◌≤◌, Bool, true, false, ℕ, inl, inr, ap, sym, subst, arith, ◌∙◌, ◌+◌, ◌-◌, cond}
use Rattle.std.proofs.Common.{None, Some, get_or, set, refl}
use Rattle.std.proofs.lemmas.Bool.{false≢true}
use Rattle.std.proofs.lemmas.List.{get_or_read}
use Rattle.nio_base.specs.declared.group.OpKind.TheVariants.{Connect}
use Rattle.nio_base.specs.declared.group.Outcome.{Outcome}
use Rattle.nio_base.specs.declared.group.Outcome.TheVariants as outcome
use Rattle.nio_group.specs.declared.channel.Channel.{Channel}
use Rattle.nio_group.specs.declared.channel.Endpoint.TheVariants.{Stream}
use Rattle.nio_group.specs.declared.channel.Link.TheVariants.{Connecting, Connected}
use Rattle.nio_group.specs.Flight.{op_at}
use Rattle.nio_group.specs.Group.{no_channel}
use Rattle.nio_group.specs.GroupKept.{group_of, IsGroupKept}
use Rattle.nio_group.specs.Pending.{with_slot}
use Rattle.nio_group.specs.Refusals.{is_allowed}
use Rattle.nio_group.specs.Stages.{is_pending}
use Rattle.nio_group.proofs.ReportLemmas.{report-allowed, pending-made, kept-completed, kept-connected, some-open}
use Rattle.nio_group.proofs.ReportLemmas.{connected-connect, not_connect}
use Rattle.nio_group.proofs.group.GroupCore.complete.Goals as goal
use Rattle.nio_group.proofs.group.GroupCore.complete.Goals.{After-with}

-- ---- the operation, which is pending, and may have this outcome

found : (c : After-with) → op_at c.self.inside.flight c.args.op.0 ≡ Some c.args.operation
found c = rw (← c.self.view_is) at c.requires.found

pending : (c : After-with) → is_pending (Some c.args.operation) ≡ true
pending c = (report-allowed c.args.operation c.args.outcome c.requires.allowed).0

allowed : (c : After-with) (o : Outcome) → c.args.outcome ≡ o
    → is_allowed c.args.operation.kind c.args.operation.len o ≡ true
allowed c o same =
    subst (λ (x : Outcome). is_allowed c.args.operation.kind c.args.operation.len x ≡ true) same
    (report-allowed c.args.operation c.args.outcome c.requires.allowed).1

-- ---- the group after it

-- where it isn't a connect, the channels are as they were
completed : (c : After-with) → (c.args.operation.kind ≡ Connect → ⊥)
    → IsGroupKept c.complete.new.self c.self.inside.channels.items
    (set c.self.inside.pending.items c.args.operation.chan.number c.with.result) c.self.inside.open_channels
    c.self.inside.shut c.self.inside.limits c.self.inside.channels.cap c.self.inside.pending.cap
completed c other =
    let slot : c.with.result ≡ with_slot c.index.result.now c.args.operation.kind None = c.with.ensures in
    rw (c.complete.ensures, slot)
    (kept-completed c.args.op.0 c.args.operation c.args.finished c.index.result.now c.self.invariant
    (found c) (pending c) c.index.ensures other)

-- where it is one, its stream is this channel
connected : (c : After-with) (channel : Channel) (opened : ℕ) → c.args.operation.kind ≡ Connect
    → (channel.is_open ≡ true → channel.endpoint ≡ Stream Connecting → ⊥)
    → channel.serial ≡ (get_or c.self.inside.channels.items c.args.operation.chan.number no_channel).serial
    → opened + 1 ≡ c.self.inside.open_channels + cond channel.is_open 1 0
    → IsGroupKept c.complete.new.self (set c.self.inside.channels.items c.args.operation.chan.number channel)
    (set c.self.inside.pending.items c.args.operation.chan.number c.with.result) opened c.self.inside.shut
    c.self.inside.limits c.self.inside.channels.cap c.self.inside.pending.cap
connected c channel opened connect not_connecting same counted =
    let slot : c.with.result ≡ with_slot c.index.result.now c.args.operation.kind None = c.with.ensures in
    rw (c.complete.ensures, slot)
    (kept-connected c.args.op.0 c.args.operation c.args.finished c.index.result.now channel opened
    c.self.invariant (found c) (pending c) c.index.ensures connect not_connecting same counted)

some_open : (c : After-with) → 1 ≤ c.self.inside.open_channels
some_open c = some-open c.args.op.0 c.args.operation c.self.invariant (found c) (pending c)

pub overflow_sub-self : goal.overflow_sub-self
overflow_sub-self c = some_open (goal.at.overflow_sub-self c).After-with

pub invariant_of-self : goal.invariant_of-self
invariant_of-self c =
    let at = (goal.at.invariant_of-self c).After-with in
    let channel = c.index-channel.result.now in
    let made = pending-made c.args.op.0 c.args.operation c.self.invariant (found at) (pending at) in
    let is = get_or_read c.self.inside.channels.items c.args.operation.chan.number channel made.0
    c.index-channel.ensures no_channel in
    let was_open : channel.is_open ≡ true = ap (λ (x : Channel). x.is_open) is ∙ made.2 in
    connected at (record channel { endpoint = Stream Connected }) c.self.inside.open_channels
    (connected-connect c.args.operation.kind c.args.operation.len (allowed at outcome.Connected c.in-Connected.is))
    (λ o e. cc) (ap (λ (x : Channel). x.serial) is)
    (ap {B = ℕ} (λ (b : Bool). c.self.inside.open_channels + cond b 1 0) (sym was_open))

pub invariant_of-self-in-Connect : goal.invariant_of-self-in-Connect
invariant_of-self-in-Connect c =
    let at = (goal.at.invariant_of-self-in-Connect c).After-with in
    let some = some_open at in
    let channel = c.index-channel.result.now in
    let made = pending-made c.args.op.0 c.args.operation c.self.invariant (found at) (pending at) in
    let is = get_or_read c.self.inside.channels.items c.args.operation.chan.number channel made.0
    c.index-channel.ensures no_channel in
    connected at (record channel { is_open = false }) (c.self.inside.open_channels - 1) c.in-Connect.is
    (λ o e. false≢true o) (ap (λ (x : Channel). x.serial) is) (omega (arith, some))

pub invariant_of-self-in-Fault : goal.invariant_of-self-in-Fault
invariant_of-self-in-Fault c = completed (goal.at.invariant_of-self-in-Fault c).After-with c.in_default.not-Connect

pub invariant_of-self-in-Accepted : goal.invariant_of-self-in-Accepted
invariant_of-self-in-Accepted c =
    let at = (goal.at.invariant_of-self-in-Accepted c).After-with in
    let op = c.args.operation in
    elim c.in-Accepted.is [
      | inl accepted ↦ completed at
          (not_connect op.kind op.len outcome.Accepted refl (allowed at outcome.Accepted accepted))
      | inr rest ↦
          elim rest [
            | inl count ↦ completed at
                (not_connect op.kind op.len (outcome.Count count.0) refl (allowed at (outcome.Count count.0) count.1))
            | inr end ↦ completed at (not_connect op.kind op.len outcome.End refl (allowed at outcome.End end))
          ]
    ]
