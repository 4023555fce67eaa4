use Rattle.std.proofs.Common.{ℕ, subst}
use Rattle.nio_serial.specs.Lines.{call_plan}
use Rattle.nio_serial.specs.Replies.{register_reply}
use Rattle.nio_sole.proofs.Asking.{asks_ran}
use Rattle.nio_steps.specs.Calls.{CallClause}
use Rattle.nio_steps.specs.ChannelCalls.{try_register_plan}
use Rattle.nio_steps.specs.Runs.{Completes}
use Rattle.nio_words.specs.Passes.{limits_of}
use Rattle.nio_words.specs.Views.{view}
use Rattle.nio_sole.proofs.channels.register.Goals as goal

pub returns : goal.returns
unfolding call_plan
returns c =
    let w = c.args.w.now in
    let call : CallClause c.args.me
    (Completes (try_register_plan (limits_of w) c.args.sel c.args.chan c.args.ops c.given_or_none.result))
    (view w c.args.p.now) (view w c.try_register.new.p) c.try_register.result = c.try_register.ensures.call in
    record {
      call = λ now. asks_ran register_reply now
          (subst (λ (att : ℕ). CallClause c.args.me
          (Completes (try_register_plan (limits_of w) c.args.sel c.args.chan c.args.ops att)) (view w c.args.p.now)
          (view w c.try_register.new.p) c.try_register.result) c.given_or_none.ensures call)
          c.register_reply.ensures;
      ready = c.try_register.ensures.ready;
    }
