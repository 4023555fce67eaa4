use Rattle.std.proofs.Common.{sym, ◌∙◌}
use Rattle.nio_serve.proofs.Connecting.{ended_roles, shut_asked}
use Rattle.nio_serve.proofs.Ends.{still_live}
use Rattle.nio_serve.proofs.Promise.{ended_clean, ended_faulty}
use Rattle.nio_serve.proofs.Watching.{where_failed}
use Rattle.nio_serve.proofs.relay.Relay.settle.Goals as goal

pub returns-then-is_err-clause-status : goal.returns-then-is_err-clause-status
returns-then-is_err-clause-status g c =
    ended_faulty c.args.self.now.there c.args.self.now.back _ _ _ _ _ _ _ c.requires.there c.requires.back
    (where_failed c.args.served (sym c.is_err.ensures.value ∙ c.if-is_err.true) c.requires.broken)
    (c.hang_up.ensures.quiet.links c.args.links.client) (c.hang_up.ensures.quiet.links c.args.links.target)
    c.hang_up.ensures.client c.hang_up.ensures.target

pub returns-then-is_err-clause-roles : goal.returns-then-is_err-clause-roles
returns-then-is_err-clause-roles g c to r s =
    ended_roles c.args.self.now to r s
    (where_failed c.args.served (sym c.is_err.ensures.value ∙ c.if-is_err.true) c.requires.asked)

pub returns-then-is_shut-2-clause-status : goal.returns-then-is_shut-2-clause-status
returns-then-is_shut-2-clause-status g c =
    let ended = c.hang_up-then-is_shut-2.ensures in
    let live =
    still_live c.args.served c.args.self.now.stage c.args.self.now.there c.args.self.now.back _ _ _ _
    (sym c.is_err.ensures.value ∙ c.if-is_err.false) c.requires.relaying c.requires.there c.requires.back in
    ended_clean c.args.self.now.stage c.args.self.now.there c.args.self.now.back _ _ _ _ _ _ _ _ live
    (ended.quiet.links c.args.links.client) (ended.quiet.links c.args.links.target) ended.client ended.target
    (sym c.is_shut.ensures ∙ c.if-is_shut.true) (sym c.is_shut-then-is_shut.ensures ∙ c.if-is_shut-2.true)

pub returns-then-is_shut-2-clause-roles : goal.returns-then-is_shut-2-clause-roles
returns-then-is_shut-2-clause-roles g c to r s =
    let live =
    still_live c.args.served c.args.self.now.stage c.args.self.now.there c.args.self.now.back _ _ _ _
    (sym c.is_err.ensures.value ∙ c.if-is_err.false) c.requires.relaying c.requires.there c.requires.back in
    ended_roles c.args.self.now to r s
    (shut_asked c.args.self.now.stage c.args.self.now.there c.args.self.now.back _ _ live.relaying.by_target
    (sym c.is_shut.ensures ∙ c.if-is_shut.true))
