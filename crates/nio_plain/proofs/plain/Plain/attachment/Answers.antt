use Rattle.std.proofs.Common.{sym, ap, ◌∙◌, refl}
use Rattle.nio_history.specs.Sets.{fits}
use Rattle.nio_language.specs.declared.reply.Reply.TheVariants as reply
use Rattle.nio_plain.proofs.Replying.{unchanged_without_memory}
use Rattle.nio_plain.specs.PlainState.{KeyRow, state_of}
use Rattle.nio_plain.specs.Seq.Replies.{unchanged}
use Rattle.nio_plain.specs.Seq.Keys.{attachment_call}
use Rattle.nio_plain.proofs.plain.Plain.attachment.Goals as goal

pub returns-then-not-fits : goal.returns-then-not-fits
unfolding attachment_call
returns-then-not-fits c =
    let p = c.args.self.now in
    let st = state_of p in
    let id = c.args.id in
    let other = ap (λ (k : KeyRow). fits k.stage id.serial) c.in-Ok.ensures.row ∙ sym c.if-not-fits.ensures in
    unchanged_without_memory p _ _
    (c.in-Ok.ensures.through _
    ∙ ap (λ n. unchanged st (reply.Number n))
    (rw other refl))

pub returns : goal.returns
unfolding attachment_call
returns c =
    let p = c.args.self.now in
    let st = state_of p in
    let id = c.args.id in
    let row = c.in-Ok.ensures.row in
    let same = ap (λ (k : KeyRow). fits k.stage id.serial) row ∙ sym c.if-not-fits.ensures in
    unchanged_without_memory p _ _
    (c.in-Ok.ensures.through _
    ∙ ap (λ n. unchanged st (reply.Number n))
    (rw same (ap (λ (k : KeyRow). k.note) row)))

pub returns-in-Err : goal.returns-in-Err
unfolding attachment_call
returns-in-Err c =
    unchanged_without_memory c.args.self.now _ _ (c.in-Err.ensures.refused _)
