use Rattle.std.proofs.Common.{◌≡◌, take}
use Rattle.nio_race.proofs.Racing.{IsRacing}
use Rattle.nio_race.proofs.racer.Racer.run_all.Given as goal

abbrev pub invariant-loop-line : goal.invariant-loop-line
invariant-loop-line g l = record {
  racing : IsRacing l.w (take l.line-index l.race) l.fn.self.number l.fn.self.desk l.self.desk l.fn.self.ends l.self.ends
      l.self.replies.items;
  number : l.self.number ≡ l.fn.self.number;
}
