use Rattle.std.proofs.Common.{◌≡◌}
use Rattle.std.specs.Prelude.{vec_len}
use Rattle.nio_words.specs.Passes.{limits_of}
use Rattle.nio_race.specs.SetOff.{MovedBelow, own_shut, other_shut}
use Rattle.nio_race.proofs.set_off.move_closings.Given as goal

abbrev pub invariant-loop-s : goal.invariant-loop-s
invariant-loop-s l = record {
  moved : MovedBelow (own_shut l.me) (other_shut l.me) l.s l.initial.from.items l.from.items l.to.items;
  from_len : vec_len l.from ≡ (limits_of l.w).selectors;
  to_len : vec_len l.to ≡ (limits_of l.w).selectors;
}
