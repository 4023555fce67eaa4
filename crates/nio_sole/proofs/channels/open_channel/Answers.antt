use Rattle.nio_serial.specs.Lines.{call_plan}
use Rattle.nio_serial.specs.Replies.{channel_reply}
use Rattle.nio_sole.proofs.Asking.{asks_ran}
use Rattle.nio_sole.proofs.channels.open_channel.Goals as goal

pub returns : goal.returns
unfolding call_plan
returns c = record {
  call = λ now. asks_ran channel_reply now c.open_channel.ensures.call c.channel_reply.ensures;
  ready = c.open_channel.ensures.ready;
}
