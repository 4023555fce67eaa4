-- What the address of a worker's line says.
use Rattle.std.specs.Prelude.{ℕ}
use Rattle.nio_base.specs.declared.numbers.Addr.{Addr}

-- whose line it is
abbrev pub worker_at : Addr → ℕ
worker_at at = at.port
