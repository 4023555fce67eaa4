-- What a line tells a selection.
use Rattle.std.specs.Prelude.{ℕ, List, map, filter}
use Rattle.nio_base.specs.declared.numbers.KeyId.{KeyId}
use Rattle.nio_plain.specs.Seq.Selections.{is_looked}
use Rattle.nio_serial.specs.Documented.{looked_pair}
use Rattle.nio_steps.specs.declared.looked.LookedKey.{LookedKey}

-- the told pairs of keys that are looked at, by their indexes
abbrev pub told_pairs : List LookedKey → List (KeyId × ℕ) → List (ℕ × ℕ)
told_pairs looked pairs = map (λ p. (p.0.index, p.1)) (filter (λ p. is_looked (map looked_pair looked) p.0) pairs)
