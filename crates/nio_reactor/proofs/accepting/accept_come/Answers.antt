use Rattle.std.proofs.Common.{◌+◌, IsTrue, refl, sym, subst, ◌∙◌}
use Rattle.nio_base.specs.Ops.{is_within}
use Rattle.nio_reactor.proofs.Asked.{accepts_then}
use Rattle.nio_reactor.proofs.Dealing.{deals_then}
use Rattle.nio_reactor.proofs.Nets.{members}
use Rattle.nio_reactor.specs.Accepting.{Accepts, Deals}
use Rattle.nio_reactor.proofs.accepting.accept_come.Goals as goal

pub loop-next-preserved : goal.loop-next-preserved
loop-next-preserved g c = record {
  ready = subst (λ r. IsTrue (is_within 16 r)) (sym (c.in-Ok-true.ensures.more c.in-Ok-true.field-0-test))
      c.loop-next.invariant.ready;
  listens = c.accept_one.ensures.listens ∙ c.loop-next.invariant.listens;
  accepting = c.in-Ok-true.ensures.come c.in-Ok-true.field-0-test;
  number = refl;
  accepted = accepts_then _
      c.args.number.now c.loop-next.next (c.loop-next.next + 1) c.args.net.now c.loop-next.net c.accept_one.new.net
      (subst (λ n. Accepts (members g.N.Poller g.N.Net) c.args.number.now n c.args.net.now c.loop-next.net)
      c.loop-next.invariant.number c.loop-next.invariant.accepted)
      (c.in-Ok-true.ensures.accepted c.in-Ok-true.field-0-test);
  dealt = deals_then c.args.number.now c.loop-next.next (c.loop-next.next + 1) c.args.lines.now c.loop-next.lines
      c.accept_one.new.lines
      (subst (λ n. Deals c.args.number.now n c.args.lines.now c.loop-next.lines) c.loop-next.invariant.number
      c.loop-next.invariant.dealt) (c.in-Ok-true.ensures.dealt c.in-Ok-true.field-0-test);
}
