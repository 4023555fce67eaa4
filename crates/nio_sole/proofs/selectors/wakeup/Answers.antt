use Rattle.std.proofs.Common.{Bool, refl}
use Rattle.nio_language.specs.declared.reply.Reply.TheVariants as reply
use Rattle.nio_serial.specs.Lines.{call_plan}
use Rattle.nio_sole.proofs.Asking.{asks_ran}
use Rattle.nio_sole.proofs.selectors.wakeup.Goals as goal
use Rattle.nio_steps.proofs.CallLaws.{returned, left_one}
use Rattle.nio_steps.specs.Plan.{Plan}
use Rattle.nio_steps.specs.SelectCalls.{wakeup_plan}
use Rattle.nio_steps.specs.Steps.{flag_in}
use Rattle.nio_words.proofs.Stepping.{still_ready}
use Rattle.nio_words.proofs.Views.{step_acts}

pub returns : goal.returns
unfolding call_plan wakeup_plan
returns c = record {
  call = λ now. asks_ran {R = Bool} {answer = c.wake.result} (λ _. reply.«Ok») now
      (returned (left_one (λ answer. Plan.reply (flag_in answer)) (step_acts c.wake.ensures refl))) refl;
  ready = still_ready _ _ _ _ _ _ c.wake.ensures c.requires.ready;
}
