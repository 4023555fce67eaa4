-- Which connections each worker has, and what is sent to it.
use Rattle.std.specs.Prelude.{ℕ, zero, suc, ◌+◌, ◌%◌, ◌==◌, if◌then◌else◌, max, min, Option, Some, None, List, [], ◌∷◌, ◌++◌}
use Rattle.nio_relay.specs.declared.plan.ProxyPlan.{ProxyPlan}
use Rattle.nio_reactor.specs.declared.message.Message.{Message}
use Rattle.nio_reactor.specs.declared.message.Message.TheVariants.{Work, End}

-- Connection k is for worker k modulo w, of w workers. How many of the connections below n are for worker v.
abbrev pub share : ℕ → ℕ → ℕ → ℕ
share w v zero = 0
share w v (suc n) = share w v n + (if (n % w) == v then 1 else 0)

-- how many slots w workers have together: as many as the plan can use, and no fewer than one each
abbrev pub slots_of : ℕ → ProxyPlan → ℕ
slots_of w plan = max (min plan.conns plan.at_once) w

-- the connections below n that are for worker v, in their order
abbrev pub dealt : ℕ → ℕ → ℕ → List (Option ℕ)
dealt w v zero = []
dealt w v (suc n) = if (n % w) == v then dealt w v n ++ Some n ∷ [] else dealt w v n

-- the connection whose link a message carries
abbrev pub number_of : {L : Type 0} → Message L → Option ℕ
number_of (Work handed) = Some handed.number
number_of End = None
