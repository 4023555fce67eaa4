use Rattle.std.proofs.Common.{◌<◌, true, refl, length, arith}
use Rattle.std.proofs.lemmas.Bool.{lt-ltb, le-ltb}
use Rattle.nio_plain.proofs.Replying.{unchanged_without_memory, replied_without_memory, interrupted-set}
use Rattle.nio_plain.specs.Seq.Wakeups.{interrupt_call}
use Rattle.nio_plain.proofs.plain.Plain.interrupt.Goals as goal

pub returns-then-target-self : goal.returns-then-target-self
unfolding interrupt_call
returns-then-target-self c =
    unchanged_without_memory c.args.self.now _ _
    (rw (le-ltb _ _ c.if-target-self.true) refl)

pub returns : goal.returns
unfolding interrupt_call
returns c =
    let p = c.args.self.now in
    let within : c.args.target.0 < length p.interrupted.items = omega (arith, p.interrupted.ok.0, p.each_caller) in
    replied_without_memory p _ _ _ _
    (rw (lt-ltb _ _ c.if-target-self.false) refl)
    refl
    (interrupted-set p c.args.target.0 true within)
    (record { limits = refl; rules = refl })
