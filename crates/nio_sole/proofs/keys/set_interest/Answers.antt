use Rattle.nio_serial.specs.Lines.{call_plan}
use Rattle.nio_serial.specs.Replies.{put_reply}
use Rattle.nio_sole.proofs.Asking.{asks_ran, on_key}
use Rattle.nio_steps.specs.KeyCalls.{set_interest_plan}
use Rattle.nio_sole.proofs.keys.set_interest.Goals as goal

pub returns : goal.returns
unfolding call_plan
returns c = record {
  call = λ now. asks_ran put_reply now
      (on_key (λ k. set_interest_plan k c.args.ops) c.key_no.ensures c.set_interest.ensures.call) c.put_reply.ensures;
  ready = c.set_interest.ensures.ready;
}
