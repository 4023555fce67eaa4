use Rattle.std.proofs.Common.{refl, sym, ap, ◌∙◌}
use Rattle.nio_history.specs.Sets.{is_open_channel}
use Rattle.nio_history.specs.declared.found.Chan.{Chan}
use Rattle.nio_plain.proofs.Replying.{unchanged_without_memory, replied_without_memory}
use Rattle.nio_plain.specs.PlainState.{state_of}
use Rattle.nio_plain.specs.ScriptState.{ScriptState}
use Rattle.nio_plain.specs.Seq.Cancelling.{closec_call}
use Rattle.nio_plain.specs.Seq.Pipes.{sealing, own_sink, with_seal}
use Rattle.nio_plain.proofs.plain.Plain.close_channel.Goals as goal

pub returns-in-Err : goal.returns-in-Err
unfolding closec_call
returns-in-Err c =
    unchanged_without_memory c.args.self.now _ _ (c.in-Err.ensures.refused _)

pub returns-then-not-is_open : goal.returns-then-not-is_open
unfolding closec_call
returns-then-not-is_open c =
    let p = c.args.self.now in
    let st = state_of p in
    let closed = ap (λ (x : Chan). is_open_channel x c.args.chan.serial) c.in-Ok.ensures.row
    ∙ (sym c.is_open.ensures ∙ c.if-not-is_open.true) in
    replied_without_memory p _ _ _ _
    (c.in-Ok.ensures.through _
    ∙ ap (sealing (own_sink st.pipes c.args.me c.args.chan))
    (rw closed refl))
    refl
    c.leave_seal.ensures.left
    (record { limits = c.leave_seal.ensures.kept.limits; rules = c.leave_seal.ensures.kept.rules })

pub returns : goal.returns
unfolding closec_call
returns c =
    let p = c.args.self.now in
    let st = state_of p in
    let opened = ap (λ (x : Chan). is_open_channel x c.args.chan.serial) c.in-Ok.ensures.row
    ∙ (sym c.is_open.ensures ∙ c.if-not-is_open.false) in
    replied_without_memory p _ _ _ _
    (c.in-Ok.ensures.through _
    ∙ ap (sealing (own_sink st.pipes c.args.me c.args.chan))
    (rw opened refl))
    refl
    (c.leave_seal-2.ensures.left
    ∙ ap (λ (m : ScriptState). with_seal (own_sink m.pipes c.args.me c.args.chan) m) c.shut_channel.ensures.left)
    (record {
      limits = c.leave_seal-2.ensures.kept.limits ∙ c.shut_channel.ensures.kept.limits;
      rules = c.leave_seal-2.ensures.kept.rules ∙ c.shut_channel.ensures.kept.rules;
    })
