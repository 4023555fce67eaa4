use Rattle.std.proofs.Common.{sym, ap, ◌∙◌}
use Rattle.nio_language.specs.declared.reply.Reply.TheVariants as reply
use Rattle.nio_plain.proofs.Replying.{unchanged_without_memory}
use Rattle.nio_plain.specs.PlainState.{KeyRow, state_of}
use Rattle.nio_plain.specs.Seq.Replies.{unchanged}
use Rattle.nio_plain.specs.Seq.Keys.{interest_call}
use Rattle.nio_plain.proofs.plain.Plain.interest.Goals as goal

pub returns-in-Ok : goal.returns-in-Ok
unfolding interest_call
returns-in-Ok c =
    let st = state_of c.args.self.now in
    let number = ap (λ n. unchanged st (reply.Number n)) (sym (c.from.ensures ∙ c.bits.ensures.bits)) in
    unchanged_without_memory c.args.self.now _ _
    (c.in-Ok.ensures.through _
    ∙ (ap (λ (k : KeyRow). unchanged st (reply.Number k.interest)) c.in-Ok.ensures.row ∙ number))

pub returns-in-Err : goal.returns-in-Err
unfolding interest_call
returns-in-Err c =
    unchanged_without_memory c.args.self.now _ _ (c.in-Err.ensures.refused _)
