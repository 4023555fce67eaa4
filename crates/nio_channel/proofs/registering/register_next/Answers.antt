use Rattle.std.proofs.Common.{◌≡◌, None, rules}
use Rattle.nio_steps.proofs.CallLaws.{returned, ran_then, left_of_call}
use Rattle.nio_steps.specs.ChannelCalls.{register_first, register_next}
use Rattle.nio_words.specs.Passes.{limits_of}
use Rattle.nio_channel.proofs.Chains.{call_from}
use Rattle.nio_channel.proofs.registering.register_next.Goals as goal

pub returns-in-None-clause-call : goal.returns-in-None-clause-call
returns-in-None-clause-call c =
    let is : c.args.claimed ≡ None = search rules in
    call_from
    (register_next (limits_of c.args.w.now) c.args.wanted.now.sel c.args.wanted.now.chan c.args.wanted.now.ops
    c.args.wanted.now.att c.args.mark) is
    (returned
    (ran_then
    (register_first c.args.wanted.now.sel c.args.wanted.now.chan c.args.wanted.now.ops c.args.wanted.now.att)
    c.claim_first-first.ensures.call (left_of_call c.register_first.ensures.call)))
