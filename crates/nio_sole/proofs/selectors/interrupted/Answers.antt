use Rattle.std.proofs.Common.{refl}
use Rattle.nio_plain.specs.Seq.Replies.{yes_or_no}
use Rattle.nio_serial.specs.Lines.{call_plan}
use Rattle.nio_sole.proofs.Asking.{asks_ran}
use Rattle.nio_steps.proofs.CallLaws.{returned, left_one}
use Rattle.nio_steps.specs.Plan.{Plan}
use Rattle.nio_steps.specs.Steps.{flag_in}
use Rattle.nio_steps.specs.SelectCalls.{interrupted_plan}
use Rattle.nio_words.proofs.Stepping.{still_ready}
use Rattle.nio_words.proofs.Views.{step_acts}
use Rattle.nio_sole.proofs.selectors.interrupted.Goals as goal

pub returns : goal.returns
unfolding call_plan interrupted_plan
returns c = record {
  call = λ now. asks_ran yes_or_no now
      (returned (left_one (λ answer. Plan.reply (flag_in answer)) (step_acts c.take_interrupt.ensures refl)))
      c.yes_or_no.ensures;
  ready = still_ready _ _ _ _ _ _ c.take_interrupt.ensures c.requires.ready;
}
