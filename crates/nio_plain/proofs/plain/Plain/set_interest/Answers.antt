use Rattle.std.proofs.Common.{refl, sym, ap, ◌∙◌}
use Rattle.nio_plain.proofs.Replying.{unchanged_without_memory, replied_without_memory}
use Rattle.nio_plain.proofs.KeyChange.{key-interest}
use Rattle.nio_plain.specs.PlainState.{KeyRow, key_row, state_of}
use Rattle.nio_plain.specs.Seq.Keys.{iset_call}
use Rattle.nio_plain.specs.Seq.Registering.{are_legal}
use Rattle.nio_plain.proofs.plain.Plain.set_interest.Goals as goal

pub returns-then-not-are_legal : goal.returns-then-not-are_legal
unfolding iset_call
returns-then-not-are_legal c =
    let p = c.args.self.now in
    let st = state_of p in
    let illegal = ap (λ (k : KeyRow). are_legal (st.shared.chan k.stage.chan.0).kind c.args.ops) c.in-Ok.ensures.row
    ∙ sym c.if-not-are_legal.ensures in
    unchanged_without_memory p _ _
    (c.in-Ok.ensures.through _
    ∙ rw illegal refl)

pub returns : goal.returns
unfolding iset_call
returns c =
    let p = c.args.self.now in
    let st = state_of p in
    let row = c.in-Ok.ensures.row in
    let legal = ap (λ (k : KeyRow). are_legal (st.shared.chan k.stage.chan.0).kind c.args.ops) row
    ∙ sym c.if-not-are_legal.ensures in
    replied_without_memory p _ _ _ _
    (c.in-Ok.ensures.through _
    ∙ rw legal refl)
    refl
    (c.put_key.ensures.left ∙ key-interest p c.args.sel.0 c.args.id.index (key_row c.in-Ok.key) row c.args.ops)
    c.put_key.ensures.kept

pub returns-in-Err : goal.returns-in-Err
unfolding iset_call
returns-in-Err c =
    unchanged_without_memory c.args.self.now _ _ (c.in-Err.ensures.refused _)
