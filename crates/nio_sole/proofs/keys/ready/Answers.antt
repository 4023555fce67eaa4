use Rattle.nio_serial.specs.Lines.{call_plan}
use Rattle.nio_serial.specs.Replies.{set_reply}
use Rattle.nio_sole.proofs.Asking.{asks_ran, on_key}
use Rattle.nio_steps.specs.KeyCalls.{ready_plan}
use Rattle.nio_sole.proofs.keys.ready.Goals as goal

pub returns : goal.returns
unfolding call_plan
returns c = record {
  call = λ now. asks_ran set_reply now (on_key ready_plan c.key_no.ensures c.ready.ensures.call) c.set_reply.ensures;
  ready = c.ready.ensures.ready;
}
