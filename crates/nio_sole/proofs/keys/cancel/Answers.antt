use Rattle.std.proofs.Common.{refl}
use Rattle.nio_language.specs.declared.reply.Reply.TheVariants as reply
use Rattle.nio_serial.specs.Lines.{call_plan}
use Rattle.nio_sole.proofs.Asking.{asks_ran, on_key}
use Rattle.nio_sole.proofs.keys.cancel.Goals as goal
use Rattle.nio_steps.specs.KeyCalls.{cancel_plan}

pub returns : goal.returns
unfolding call_plan
returns c = record {
  call = λ now. asks_ran (λ _. reply.«Ok») now (on_key cancel_plan c.key_no.ensures c.cancel.ensures.call) refl;
  ready = c.cancel.ensures.ready;
}
