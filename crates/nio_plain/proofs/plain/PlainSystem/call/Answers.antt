use Rattle.nio_plain.proofs.Replying.{of_word, unchanged_as}
use Rattle.nio_plain.proofs.Calling.{seq-no_caller, seq-call}
use Rattle.nio_plain.specs.PlainState.{limits_of, rules_of, state_of}
use Rattle.nio_plain.proofs.plain.PlainSystem.call.Goals as goal

pub returns-then-caller-self-clause-reply : goal.returns-then-caller-self-clause-reply
returns-then-caller-self-clause-reply c =
    let p = c.args.self.now in
    (unchanged_as p _ _
    (seq-no_caller (rules_of p) (limits_of p) (state_of p) c.args.caller c.args.call.now
    c.if-caller-self.true)).reply

pub returns-then-caller-self-clause-left : goal.returns-then-caller-self-clause-left
returns-then-caller-self-clause-left c =
    let p = c.args.self.now in
    (unchanged_as p _ _
    (seq-no_caller (rules_of p) (limits_of p) (state_of p) c.args.caller c.args.call.now
    c.if-caller-self.true)).left

pub returns-clause-reply : goal.returns-clause-reply
returns-clause-reply c =
    let p = c.args.self.now in
    (of_word _ _ _ _ _
    (seq-call (rules_of p) (limits_of p) (state_of p) c.args.caller c.args.call.now c.if-caller-self.false)
    c.call_of.ensures).reply

pub returns-clause-left : goal.returns-clause-left
returns-clause-left c =
    let p = c.args.self.now in
    (of_word _ _ _ _ _
    (seq-call (rules_of p) (limits_of p) (state_of p) c.args.caller c.args.call.now c.if-caller-self.false)
    c.call_of.ensures).left
