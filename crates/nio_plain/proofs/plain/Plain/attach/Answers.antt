use Rattle.std.proofs.Common.{sym, ap, ◌∙◌, refl}
use Rattle.nio_history.specs.Sets.{fits}
use Rattle.nio_language.specs.declared.reply.Reply.TheVariants as reply
use Rattle.nio_plain.proofs.Replying.{unchanged_without_memory, replied_without_memory}
use Rattle.nio_plain.proofs.KeyChange.{key-note}
use Rattle.nio_plain.specs.PlainState.{KeyRow, key_row, state_of}
use Rattle.nio_plain.specs.Seq.Keys.{attach_call}
use Rattle.nio_plain.proofs.plain.Plain.attach.Goals as goal

pub returns-then-not-fits : goal.returns-then-not-fits
unfolding attach_call
returns-then-not-fits c =
    let p = c.args.self.now in
    let st = state_of p in
    let id = c.args.id in
    let other = ap (λ (k : KeyRow). fits k.stage id.serial) c.in-Ok.ensures.row ∙ sym c.if-not-fits.ensures in
    unchanged_without_memory p _ _
    (c.in-Ok.ensures.through _
    ∙ rw other refl)

pub returns : goal.returns
unfolding attach_call
returns c =
    let p = c.args.self.now in
    let st = state_of p in
    let id = c.args.id in
    let row = c.in-Ok.ensures.row in
    let same = ap (λ (k : KeyRow). fits k.stage id.serial) row ∙ sym c.if-not-fits.ensures in
    replied_without_memory p _ _ _ _
    (c.in-Ok.ensures.through _
    ∙ rw same refl)
    (ap (λ (k : KeyRow). reply.Number k.note) (sym row))
    (c.put_key.ensures.left ∙ key-note p c.args.sel.0 id.index (key_row c.in-Ok.key) row c.args.note)
    c.put_key.ensures.kept

pub returns-in-Err : goal.returns-in-Err
unfolding attach_call
returns-in-Err c =
    unchanged_without_memory c.args.self.now _ _ (c.in-Err.ensures.refused _)
