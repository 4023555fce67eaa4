use Rattle.std.proofs.Common.{◌<◌, false, refl, ap, ◌∙◌, length, arith}
use Rattle.nio_plain.proofs.Replying.{replied_without_memory, interrupted-set}
use Rattle.nio_plain.specs.Seq.Replies.{yes_or_no}
use Rattle.nio_plain.specs.Seq.Wakeups.{interrupted_call}
use Rattle.nio_plain.proofs.plain.Plain.interrupted.Goals as goal

pub returns : goal.returns
unfolding interrupted_call
returns c =
    let p = c.args.self.now in
    let within : c.args.me.0 < length p.interrupted.items = omega
    (arith, p.interrupted.ok.0, p.each_caller, c.requires) in
    replied_without_memory p _ _ _ _
    refl
    (c.yes_or_no.ensures ∙ ap yes_or_no c.is_interrupted-was.ensures)
    (interrupted-set p c.args.me.0 false within)
    (record { limits = refl; rules = refl })
