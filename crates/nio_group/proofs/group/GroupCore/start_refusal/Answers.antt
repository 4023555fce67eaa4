use Rattle.std.proofs.Common.{◌≡◌, ◌≢◌, ◌∙◌, ap, sym, false, Option}
use Rattle.std.specs.Option.{option_or}
use Rattle.nio_group.specs.declared.refusal.StartError.{StartError}
use Rattle.nio_group.specs.Group.{Group, is_terminated}
use Rattle.nio_group.specs.GroupKept.{group_of}
use Rattle.nio_group.specs.Flight.{accepted, in_flight}
use Rattle.nio_group.specs.Refusals.{limit_refusal, start_refusal}
use Rattle.nio_group.proofs.TerminatedLemmas.{start_refusal-read, limit-ops, limit-flight, limit-none}
use Rattle.nio_group.proofs.group.GroupCore.start_refusal.Goals as goal
use Rattle.nio_group.proofs.group.GroupCore.start_refusal.Goals.{After-start}

abbrev group_at : After-start → Group
group_at c =
    group_of c.self.inside.flight c.self.inside.channels.items c.self.inside.shut c.self.inside.limits

-- the refusal, by what is read of the channel
refusal-is : (c : After-start) → start_refusal (group_at c) c.args.chan c.args.kind
    ≡ option_or c.start.result (limit_refusal (group_at c))
refusal-is c =
    let within = (rw (← c.self.view_is) at c.requires).0 in
    let going : is_terminated (group_at c) ≡ false = rw (← c.self.view_is) at
    (sym c.is_terminated.ensures ∙ c.if-is_terminated.false) in
    start_refusal-read c.args.chan c.args.kind c.index-channel.result.now c.is_open.result c.index.result.now
    c.is_some-pending.result c.start.result c.self.invariant within going c.index-channel.ensures
    (rw (← c.self.view_is) at c.is_open.ensures) c.index.ensures
    (rw c.get.ensures at c.is_some-pending.ensures) c.start.ensures

pub returns-in-Some : goal.returns-in-Some
returns-in-Some c =
    let at = (goal.at.returns-in-Some c).After-start in
    rw (← c.self.view_is)
    (sym (refusal-is at ∙ ap (λ (e : Option StartError). option_or e (limit_refusal (group_at at))) c.in-Some.is))

pub returns-then-accepted-self : goal.returns-then-accepted-self
returns-then-accepted-self c =
    let at = (goal.at.returns-then-accepted-self c).After-start in
    let g = group_at at in
    rw (← c.self.view_is)
    (sym (refusal-is at ∙ ap (λ (e : Option StartError). option_or e (limit_refusal g)) c.in_default.is
    ∙ limit-ops g (sym c.accepted.ensures ∙ c.if-accepted-self.true)))

pub returns-then-in_flight-self : goal.returns-then-in_flight-self
returns-then-in_flight-self c =
    let at = (goal.at.returns-then-in_flight-self c).After-start in
    let g = group_at at in
    let below : accepted g.flight ≢ g.op_limit = λ e. c.if-accepted-self.false (c.accepted.ensures ∙ e) in
    let full : in_flight g.flight ≡ g.flight.limit = sym c.in_flight.ensures ∙ c.if-in_flight-self.true
    ∙ sym c.self.invariant.same_limit in
    rw (← c.self.view_is)
    (sym (refusal-is at ∙ ap (λ (e : Option StartError). option_or e (limit_refusal g)) c.in_default.is
    ∙ limit-flight g below full))

pub returns : goal.returns
returns c =
    let at = (goal.at.returns c).After-start in
    let g = group_at at in
    let below : accepted g.flight ≢ g.op_limit = λ e. c.if-accepted-self.false (c.accepted.ensures ∙ e) in
    let room : in_flight g.flight ≢ g.flight.limit = λ e. c.if-in_flight-self.false
    (c.in_flight.ensures ∙ e ∙ c.self.invariant.same_limit) in
    rw (← c.self.view_is)
    (sym (refusal-is at ∙ ap (λ (e : Option StartError). option_or e (limit_refusal g)) c.in_default.is
    ∙ limit-none g below room))
