use Rattle.std.proofs.Common.{◌<◌, subst, arith}
use Rattle.nio_base.specs.declared.limits.Limits.{Limits}
use Rattle.nio_race.proofs.SettingOff.{begins, goes_on}
use Rattle.nio_race.proofs.set_off.set_off_all.Goals as goal

pub loop-number-init : goal.loop-number-init
loop-number-init c = begins c.args.w.now c.args.d.now c.args.racers.now.items c.requires.stands c.requires.none

pub set_off_one-requires-clause-number : goal.set_off_one-requires-clause-number
set_off_one-requires-clause-number c =
    c.loop-number.invariant.left.holds (record { 0 = c.loop-number.number }) (omega arith)
    (subst (λ (l : Limits). c.loop-number.number < l.callers) c.limits-number-end.ensures c.loop-number-test.true)

pub loop-number-preserved : goal.loop-number-preserved
loop-number-preserved c =
    goes_on c.args.w.now c.args.d.now c.loop-number.d c.set_off_one.new.d c.loop-number.number
    c.loop-number.racers.items c.set_off_one.new.racers.items c.requires.stands
    (subst (λ (l : Limits). c.loop-number.number < l.callers) c.limits-number-end.ensures c.loop-number-test.true)
    c.loop-number.invariant c.in_ok-set_off_one.ensures.ok
