use Rattle.std.proofs.Common.{◌≡◌, Some, refl, rules}
use Rattle.nio_steps.proofs.CallLaws.{returned, left_ask, left_of_call}
use Rattle.nio_steps.specs.ChannelCalls.{register_first}
use Rattle.nio_words.proofs.Views.{step_acts}
use Rattle.nio_channel.proofs.Chains.{call_from}
use Rattle.nio_channel.proofs.Claimed.{claimed_stays}
use Rattle.nio_channel.proofs.Held.{may_enrol_stays}
use Rattle.nio_channel.specs.Held.{HasClaimed}
use Rattle.nio_channel.proofs.registering.register_first.Goals as goal

pub make_claimed-requires-clause-may : goal.make_claimed-requires-clause-may
make_claimed-requires-clause-may c = may_enrol_stays c.raise_keys.ensures refl refl c.requires.may

pub make_claimed-requires-clause-claimed : goal.make_claimed-requires-clause-claimed
make_claimed-requires-clause-claimed c =
    let claimed : HasClaimed c.args.w.now c.args.p.now c.args.me c.args.wanted.now.chan.number c.args.wanted.now.sel
    c.in-Some.k = search rules in
    claimed_stays c.raise_keys.ensures refl refl refl claimed

pub returns-clause-call : goal.returns-clause-call
returns-clause-call c =
    let is : c.args.claimed ≡ Some c.in-Some.k = search rules in
    call_from (register_first c.args.wanted.now.sel c.args.wanted.now.chan c.args.wanted.now.ops c.args.wanted.now.att)
    is
    (returned (left_ask _ (step_acts c.raise_keys.ensures refl) (left_of_call c.make_claimed.ensures.call)))
