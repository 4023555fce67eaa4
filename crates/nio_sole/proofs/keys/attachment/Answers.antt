use Rattle.std.proofs.Common.{refl}
use Rattle.nio_language.specs.declared.reply.Reply.TheVariants as reply
use Rattle.nio_serial.specs.Lines.{call_plan}
use Rattle.nio_sole.proofs.Asking.{asks_ran, on_key}
use Rattle.nio_sole.proofs.keys.attachment.Goals as goal
use Rattle.nio_steps.specs.KeyCalls.{attachment_plan}

pub returns : goal.returns
unfolding call_plan
returns c = record {
  call = λ now. asks_ran reply.Number now (on_key attachment_plan c.key_no.ensures c.attachment.ensures.call) refl;
  ready = c.attachment.ensures.ready;
}
