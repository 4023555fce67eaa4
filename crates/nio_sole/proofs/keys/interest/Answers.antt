use Rattle.nio_serial.specs.Lines.{call_plan}
use Rattle.nio_serial.specs.Replies.{set_reply}
use Rattle.nio_sole.proofs.Asking.{asks_ran, on_key}
use Rattle.nio_steps.specs.KeyCalls.{interest_plan}
use Rattle.nio_sole.proofs.keys.interest.Goals as goal

pub returns : goal.returns
unfolding call_plan
returns c = record {
  call = λ now. asks_ran set_reply now
      (on_key interest_plan c.key_no.ensures c.interest.ensures.call) c.set_reply.ensures;
  ready = c.interest.ensures.ready;
}
