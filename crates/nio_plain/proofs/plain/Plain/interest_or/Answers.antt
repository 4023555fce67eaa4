use Rattle.std.proofs.Common.{bit_or, sym, ap, ◌∙◌, refl}
use Rattle.nio_history.specs.State.{with_interest}
use Rattle.nio_language.specs.declared.reply.Reply.TheVariants as reply
use Rattle.nio_plain.proofs.Replying.{unchanged_without_memory, replied_without_memory}
use Rattle.nio_plain.proofs.KeyChange.{key-interest}
use Rattle.nio_plain.specs.PlainState.{KeyRow, key_row, state_of}
use Rattle.nio_plain.specs.ScriptState.{with_shared}
use Rattle.nio_plain.specs.Seq.Keys.{ior_call}
use Rattle.nio_plain.specs.Seq.Registering.{are_legal}
use Rattle.nio_plain.proofs.plain.Plain.interest_or.Goals as goal

pub returns-then-not-are_legal : goal.returns-then-not-are_legal
unfolding ior_call
returns-then-not-are_legal c =
    let p = c.args.self.now in
    let st = state_of p in
    let illegal = ap (λ (k : KeyRow). are_legal (st.shared.chan k.stage.chan.0).kind c.args.ops) c.in-Ok.ensures.row
    ∙ sym c.if-not-are_legal.ensures in
    unchanged_without_memory p _ _
    (c.in-Ok.ensures.through _
    ∙ rw illegal refl)

pub returns : goal.returns
unfolding ior_call
returns c =
    let p = c.args.self.now in
    let st = state_of p in
    let s = c.args.sel.0 in
    let i = c.args.id.index in
    let row = c.in-Ok.ensures.row in
    let legal = ap (λ (k : KeyRow). are_legal (st.shared.chan k.stage.chan.0).kind c.args.ops) row
    ∙ sym c.if-not-are_legal.ensures in
    let changed = c.union-interest.ensures ∙ ap (λ (k : KeyRow). bit_or k.interest c.args.ops) (sym row) in
    replied_without_memory p _ _ _ _
    (c.in-Ok.ensures.through _
    ∙ rw legal refl)
    (ap reply.Number ((c.from.ensures ∙ c.bits.ensures.bits) ∙ ap (λ (k : KeyRow). k.interest) (sym row)))
    ((c.put_key.ensures.left ∙ key-interest p s i (key_row c.in-Ok.key) row c.union-interest.result)
    ∙ ap (λ n. with_shared st (with_interest st.shared s i n)) changed)
    c.put_key.ensures.kept

pub returns-in-Err : goal.returns-in-Err
unfolding ior_call
returns-in-Err c =
    unchanged_without_memory c.args.self.now _ _ (c.in-Err.ensures.refused _)
