use Rattle.std.proofs.Common.{ap, ◌∙◌}
use Rattle.nio_checked.specs.Listed.{listed}
use Rattle.nio_checked.proofs.Keeping.{kept_same}
use Rattle.nio_checked.proofs.Polling.{polled_ready}
use Rattle.nio_checked.proofs.checked.CheckedNetPoller.poll.Goals as goal

pub invariant_of-self-2 : goal.invariant_of-self-2
invariant_of-self-2 g c = record {
  kept = kept_same (g.N.Net.place c.self.inside.net) (g.N.Net.place c.poll.new.self) c.self.inside.kept
      (g.met.N.Net.kept_places c.self.inside.net c.poll.new.self c.poll.ensures.kept) c.self.invariant.kept;
  ready = polled_ready (g.N.Poller.ready c.poll.new.self) c.in_ok-answer.answer.pairs.items c.args.asked.now.keys
      c.list.new.told.items (c.list.ensures ∙ ap (λ pairs. listed pairs c.args.asked.now.keys) c.as_slice.ensures.value)
      c.in_ok-answer.ensures.ready;
}
