use Rattle.std.proofs.Common.{inl, inr, sym, ap, ◌∙◌}
use Rattle.nio_group.specs.Group.{is_open}
use Rattle.nio_deadline.specs.Timed.{Timed}
use Rattle.nio_deadline.proofs.RunLemmas.{unlimited-start}
use Rattle.nio_deadline.proofs.timed.TimedCore.start_timed.Goals as goal
use Rattle.nio_deadline.proofs.timed.TimedCore.start_timed.Goals.{then-limit-eq0-via-then-limit-eq0}
use Rattle.nio_deadline.proofs.timed.TimedCore.start_timed.Goals.{then-limit-eq0-via-else-limit-eq0+then-len-eq0}
use Rattle.nio_deadline.proofs.timed.TimedCore.start_timed.Goals.{then-limit-eq0-via-else-limit-eq0+else-len-eq0+then-not-is_open}

pub returns-then-limit-eq0-clause-after : goal.returns-then-limit-eq0-clause-after
returns-then-limit-eq0-clause-after c = λ apart.
    let free = sym c.refusal.ensures ∙ c.in_default.is in
    c.start_unlimited.ensures.after
    ∙ unlimited-start c.args.self.now c.args.chan c.args.kind c.args.len c.args.now c.args.limit free
    (elim c.then-limit-eq0.branch [
      | then-limit-eq0-via-then-limit-eq0 w ↦ inl w.if-limit-eq0.true
      | then-limit-eq0-via-else-limit-eq0+then-len-eq0 w ↦ inr (inl w.if-len-eq0.true)
      | then-limit-eq0-via-else-limit-eq0+else-len-eq0+then-not-is_open w ↦ inr
          (inr (ap (λ (x : Timed). is_open x.group c.args.chan) (sym c.self.view_is) ∙ sym w.is_open.ensures
          ∙ w.if-not-is_open.true))
    ])
