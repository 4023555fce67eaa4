use Rattle.std.proofs.Common.{true, ◌&&◌, refl, sym, ap, ◌∙◌}
use Rattle.nio_history.specs.Sets.{fits}
use Rattle.nio_history.specs.State.{with_mark}
use Rattle.nio_plain.proofs.Replying.{unchanged_without_memory, replied_without_memory}
use Rattle.nio_plain.proofs.KeyChange.{key-mark}
use Rattle.nio_plain.specs.PlainState.{KeyRow, is_listed, key_row, state_of}
use Rattle.nio_plain.specs.ScriptState.{with_shared}
use Rattle.nio_plain.specs.Seq.Keys.{unselect_call}
use Rattle.nio_plain.specs.Seq.Removing.{unselected}
use Rattle.nio_plain.proofs.plain.Plain.unselect.Goals as goal

pub returns-then-not-is_selected_key : goal.returns-then-not-is_selected_key
unfolding unselect_call
returns-then-not-is_selected_key c =
    let p = c.args.self.now in
    let st = state_of p in
    let id = c.args.id in
    let out = ap (λ (k : KeyRow). fits k.stage id.serial && is_listed k true) c.in-Ok.ensures.row
    ∙ sym c.if-not-is_selected_key.ensures in
    unchanged_without_memory p _ _
    (c.in-Ok.ensures.through _
    ∙ rw out refl)

pub returns : goal.returns
unfolding unselect_call
returns c =
    let p = c.args.self.now in
    let st = state_of p in
    let s = c.args.sel.0 in
    let id = c.args.id in
    let key = c.in-Ok.key in
    let row = c.in-Ok.ensures.row in
    let is_in = ap (λ (k : KeyRow). fits k.stage id.serial && is_listed k true) row
    ∙ sym c.if-not-is_selected_key.ensures in
    let marked = ap (λ (k : KeyRow). with_shared st (with_mark st.shared s id.index (unselected k.mark))) (sym row) in
    replied_without_memory p _ _ _ _
    (c.in-Ok.ensures.through _ ∙ rw is_in refl)
    refl
    ((c.put_key.ensures.left ∙ key-mark p s id.index (key_row key) row (unselected key.mark)) ∙ marked)
    c.put_key.ensures.kept

pub returns-in-Err : goal.returns-in-Err
unfolding unselect_call
returns-in-Err c =
    unchanged_without_memory c.args.self.now _ _ (c.in-Err.ensures.refused _)
