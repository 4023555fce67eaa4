use Rattle.std.proofs.Common.{inl, inr}
use Rattle.nio_reactor.proofs.Lists.{prefix_none}
use Rattle.nio_reactor.proofs.lane.Lane.settle.Goals.{then-self-number, else-self-number}
use Rattle.nio_reactor.proofs.lane.Lane.settle.Goals as goal

pub returns-clause-prefix : goal.returns-clause-prefix
returns-clause-prefix g c = elim c.if-self-number.branch [
  | then-self-number w ↦ w.settle.ensures.prefix
  | else-self-number w ↦ elim c.requires.own [
    | inl none ↦ prefix_none c.args.self.line.carried c.args.entry.carried none
    | inr same ↦ absurd (w.if-self-number.false same)
  ]
]
