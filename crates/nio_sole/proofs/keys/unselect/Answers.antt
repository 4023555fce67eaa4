use Rattle.nio_plain.specs.Seq.Replies.{yes_or_no}
use Rattle.nio_serial.specs.Lines.{call_plan}
use Rattle.nio_sole.proofs.Asking.{asks_ran, on_key}
use Rattle.nio_steps.specs.KeyCalls.{unselect_plan}
use Rattle.nio_sole.proofs.keys.unselect.Goals as goal

pub returns : goal.returns
unfolding call_plan
returns c = record {
  call = λ now. asks_ran yes_or_no now
      (on_key unselect_plan c.key_no.ensures c.unselect.ensures.call) c.yes_or_no.ensures;
  ready = c.unselect.ensures.ready;
}
