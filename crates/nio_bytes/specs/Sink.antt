-- What a sink shows.
use Rattle.std.specs.Prelude.{Bool, Option, option_map}

-- this value, where the sink shows one
abbrev pub shown : Option Bool → Bool → Option Bool
shown known value = option_map (λ _. value) known
