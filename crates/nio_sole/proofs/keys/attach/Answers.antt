use Rattle.std.proofs.Common.{refl}
use Rattle.nio_language.specs.declared.reply.Reply.TheVariants as reply
use Rattle.nio_serial.specs.Lines.{call_plan}
use Rattle.nio_sole.proofs.Asking.{asks_ran, on_key}
use Rattle.nio_sole.proofs.keys.attach.Goals as goal
use Rattle.nio_steps.specs.KeyCalls.{attach_plan}

pub returns : goal.returns
unfolding call_plan
returns c = record {
  call = λ now. asks_ran reply.Number now
      (on_key (λ k. attach_plan k c.args.att) c.key_no.ensures c.attach.ensures.call) refl;
  ready = c.attach.ensures.ready;
}
