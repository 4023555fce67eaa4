use Rattle.nio_race.proofs.SettingUp.{IsSettingUp}
use Rattle.nio_race.proofs.setup.make_lines.Given as goal

abbrev pub invariant-loop-index : goal.invariant-loop-index
invariant-loop-index l = IsSettingUp l.w l.d l.setup l.index l.initial.text.items l.text.items
