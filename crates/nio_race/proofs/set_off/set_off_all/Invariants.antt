use Rattle.nio_race.proofs.SettingOff.{IsSettingOff}
use Rattle.nio_race.proofs.set_off.set_off_all.Given as goal

abbrev pub invariant-loop-number : goal.invariant-loop-number
invariant-loop-number l = IsSettingOff l.w l.initial.d l.d l.number l.racers.items
