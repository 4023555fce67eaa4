use Rattle.std.proofs.Common.{bit_and, sym, ap, ◌∙◌}
use Rattle.nio_history.specs.State.{with_interest}
use Rattle.nio_language.specs.declared.reply.Reply.TheVariants as reply
use Rattle.nio_plain.proofs.Replying.{unchanged_without_memory, replied_without_memory}
use Rattle.nio_plain.proofs.KeyChange.{key-interest}
use Rattle.nio_plain.specs.PlainState.{KeyRow, key_row, state_of}
use Rattle.nio_plain.specs.ScriptState.{with_shared}
use Rattle.nio_plain.specs.Seq.Keys.{iand_call}
use Rattle.nio_plain.proofs.plain.Plain.interest_and.Goals as goal

pub returns : goal.returns
unfolding iand_call
returns c =
    let p = c.args.self.now in
    let st = state_of p in
    let s = c.args.sel.0 in
    let i = c.args.id.index in
    let row = c.in-Ok.ensures.row in
    let changed = c.meet-interest.ensures ∙ ap (λ (k : KeyRow). bit_and k.interest c.args.ops) (sym row) in
    replied_without_memory p _ _ _ _
    (c.in-Ok.ensures.through _)
    (ap reply.Number ((c.from.ensures ∙ c.bits.ensures.bits) ∙ ap (λ (k : KeyRow). k.interest) (sym row)))
    ((c.put_key.ensures.left ∙ key-interest p s i (key_row c.in-Ok.key) row c.meet-interest.result)
    ∙ ap (λ n. with_shared st (with_interest st.shared s i n)) changed)
    c.put_key.ensures.kept

pub returns-in-Err : goal.returns-in-Err
unfolding iand_call
returns-in-Err c =
    unchanged_without_memory c.args.self.now _ _ (c.in-Err.ensures.refused _)
