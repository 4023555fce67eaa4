use Rattle.nio_serial.specs.Lines.{call_plan}
use Rattle.nio_serial.specs.Replies.{find_reply}
use Rattle.nio_sole.proofs.Asking.{asks_ran}
use Rattle.nio_sole.proofs.channels.key_for.Goals as goal

pub returns : goal.returns
unfolding call_plan
returns c = record {
  call = λ now. asks_ran find_reply now c.key_for.ensures.call c.find_reply.ensures;
  ready = c.key_for.ensures.ready;
}
