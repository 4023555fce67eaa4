use Rattle.std.proofs.Common.{◌≡◌, take, vec_len, slice_index}
use Rattle.std.specs.List.{All}
use Rattle.nio_plain.proofs.plain.marking.looked_serials.Given as goal

abbrev pub invariant-loop-key : goal.invariant-loop-key
invariant-loop-key l = record {
  long : vec_len l.serials ≡ l.bound;
  serials : All (λ p. slice_index l.serials.items p.0.index ≡ p.0.serial) (take l.key-index l.looked);
}
