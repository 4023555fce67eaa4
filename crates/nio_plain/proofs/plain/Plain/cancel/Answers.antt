use Rattle.std.proofs.Common.{refl, ap, ◌∙◌, sym}
use Rattle.std.proofs.lemmas.Bool.{cond-true, cond-false}
use Rattle.nio_history.specs.Sets.{is_in_key_set}
use Rattle.nio_history.specs.declared.found.Stage.{Stage}
use Rattle.nio_history.specs.State.{with_key}
use Rattle.nio_language.specs.declared.reply.Reply.TheVariants as reply
use Rattle.nio_plain.proofs.Replying.{unchanged_without_memory, replied_without_memory}
use Rattle.nio_plain.proofs.KeyChange.{key-stage, stage-same}
use Rattle.nio_plain.specs.PlainState.{KeyRow, key_row, state_of}
use Rattle.nio_plain.specs.ScriptState.{with_shared}
use Rattle.nio_plain.specs.Seq.Replies.{replied}
use Rattle.nio_plain.specs.Seq.Cancelling.{cancel_call, cancelled_key}
use Rattle.nio_plain.proofs.plain.Plain.cancel.Goals as goal

pub returns-then-not-is_in_key_set : goal.returns-then-not-is_in_key_set
unfolding cancel_call
returns-then-not-is_in_key_set c =
    let p = c.args.self.now in
    let st = state_of p in
    let s = c.args.sel.0 in
    let id = c.args.id in
    let stage = st.shared.key s id.index in
    let out = ap (λ (k : KeyRow). is_in_key_set k.stage id.serial) c.in-Ok.ensures.row
    ∙ sym c.if-not-is_in_key_set.ensures in
    let same = cond-false (is_in_key_set stage id.serial) (cancelled_key stage) stage out in
    unchanged_without_memory p _ _
    (c.in-Ok.ensures.through _
    ∙ ap (replied st reply.«Ok») (ap (with_key st.shared s id.index) same ∙ stage-same p s id.index))

pub returns : goal.returns
unfolding cancel_call
returns c =
    let p = c.args.self.now in
    let st = state_of p in
    let s = c.args.sel.0 in
    let id = c.args.id in
    let stage = st.shared.key s id.index in
    let row = c.in-Ok.ensures.row in
    let in_set = ap (λ (k : KeyRow). is_in_key_set k.stage id.serial) row ∙ sym c.if-not-is_in_key_set.ensures in
    let same = cond-true (is_in_key_set stage id.serial) (cancelled_key stage) stage in_set
    ∙ ap (λ (k : KeyRow). cancelled_key k.stage) row in
    replied_without_memory p _ _ _ _
    (c.in-Ok.ensures.through _)
    refl
    ((c.put_key.ensures.left
    ∙ key-stage p s id.index (key_row c.in-Ok.key) row (cancelled_key (key_row c.in-Ok.key).stage))
    ∙ ap (λ (x : Stage). with_shared st (with_key st.shared s id.index x)) (sym same))
    c.put_key.ensures.kept

pub returns-in-Err : goal.returns-in-Err
unfolding cancel_call
returns-in-Err c =
    unchanged_without_memory c.args.self.now _ _ (c.in-Err.ensures.refused _)
