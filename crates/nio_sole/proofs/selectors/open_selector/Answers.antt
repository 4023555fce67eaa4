use Rattle.nio_serial.specs.Lines.{call_plan}
use Rattle.nio_serial.specs.Replies.{selector_reply}
use Rattle.nio_sole.proofs.Asking.{asks_ran}
use Rattle.nio_sole.proofs.selectors.open_selector.Goals as goal

pub returns : goal.returns
unfolding call_plan
returns c = record {
  call = λ now. asks_ran selector_reply now c.open_selector.ensures.call c.selector_reply.ensures;
  ready = c.open_selector.ensures.ready;
}
