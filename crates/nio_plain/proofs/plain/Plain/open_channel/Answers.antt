use Rattle.std.proofs.Common.{refl, sym, ap, ◌∙◌}
use Rattle.nio_plain.proofs.Replying.{unchanged_as, replied_as}
use Rattle.nio_plain.proofs.Piping.{with_ends}
use Rattle.nio_plain.specs.PlainState.{state_of}
use Rattle.nio_plain.specs.ScriptState.{ScriptState, with_shared}
use Rattle.nio_plain.specs.Seq.Opening.{channel_call, channel_made, with_new_channel}
use Rattle.nio_plain.proofs.plain.Plain.open_channel.Goals as goal

pub returns-in_default : goal.returns-in_default
unfolding channel_call
returns-in_default c =
    let p = c.args.self.now in
    unchanged_as p _ _ (ap (channel_made (state_of p) c.args.kind) (sym c.in_default.ensures.next))

pub returns : goal.returns
unfolding channel_call
returns c =
    let p = c.args.self.now in
    let chan = c.in-Some.chan in
    replied_as p _ _ _ _
    (ap (channel_made (state_of p) c.args.kind) (sym c.in-Some.ensures.next))
    refl
    (c.put_channel.ensures.left
    ∙ ap (λ (m : ScriptState). with_shared m (with_new_channel m.shared c.args.kind chan))
    (ap (with_ends p p.pipes.items) c.reserve.ensures.items))
    (record { limits = c.put_channel.ensures.kept.limits; rules = c.put_channel.ensures.kept.rules })
