use Rattle.nio_serial.specs.Lines.{call_plan}
use Rattle.nio_serial.specs.Replies.{mode_reply}
use Rattle.nio_sole.proofs.Asking.{asks_ran}
use Rattle.nio_sole.proofs.channels.set_blocking.Goals as goal

pub returns : goal.returns
unfolding call_plan
returns c = record {
  call = λ now. asks_ran mode_reply now c.try_set_blocking.ensures.call c.mode_reply.ensures;
  ready = c.try_set_blocking.ensures.ready;
}
