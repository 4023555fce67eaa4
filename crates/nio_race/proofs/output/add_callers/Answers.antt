use Rattle.std.proofs.Common.{◌≡◌, suc, ◌+◌, ◌-◌, arith}
use Rattle.nio_race.specs.Racers.{replies_by}
use Rattle.nio_race.proofs.Adding.{adds_caller}
use Rattle.nio_race.proofs.output.add_callers.Goals as goal

pub loop-number-preserved : goal.loop-number-preserved
loop-number-preserved c =
    let k = c.loop-number.number in
    let one : 64 - k ≡ suc (64 - (k + 1)) = omega (arith, c.loop-number-test.true) in
    adds_caller c.args.race.now (replies_by c.args.race.now c.args.racers.now) 64 k (64 - k)
    (64 - (k + 1)) c.args.text.now.items c.loop-number.text.items c.add_caller.new.text.items
    one c.loop-number.invariant c.in_ok-add_caller.ensures
