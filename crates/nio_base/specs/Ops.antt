-- Operation sets.
use Rattle.std.specs.Prelude.{ℕ, ◌==◌, Bool, bit_and}

-- each of these operations is one of those
abbrev pub is_within : ℕ → ℕ → Bool
is_within these those = bit_and these those == these
