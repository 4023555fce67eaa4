-- What tables have at their keys.
use Rattle.std.specs.Prelude.{ℕ, Bool, ◌&&◌}
use Rattle.std.specs.Bool.{nat_eq}
use Rattle.std.specs.HashMap.{get}
use Rattle.std.specs.Option.{unwrap_or}
use Rattle.nio_audit.specs.declared.table.Cube.{Cube}
use Rattle.nio_audit.specs.declared.table.Grid.{Grid}
use Rattle.nio_audit.specs.declared.table.Row.{Row}
use Rattle.nio_audit.specs.declared.table.Table.{Table}
use Rattle.nio_history.specs.State.{put, put_at}

-- the value at a key
abbrev pub value_at : {K V : Type 0} → (K → K → Bool) → Table K V → K → V
value_at eq t key = unwrap_or (get eq t.set key) t.rest

-- the values by a number, by two numbers and by three
unfoldable pub row : {V : Type 0} → Row V → ℕ → V
row t n = value_at nat_eq t.0 n

unfoldable pub grid : {V : Type 0} → Grid V → ℕ → ℕ → V
grid t m n = value_at (λ x y. nat_eq x.0 y.0 && nat_eq x.1 y.1) t.0 (m, n)

unfoldable pub cube : {V : Type 0} → Cube V → ℕ → ℕ → ℕ → V
cube t m n o = value_at (λ x y. (nat_eq x.0 y.0 && nat_eq x.1 y.1) && nat_eq x.2 y.2) t.0 (m, n, o)

-- three numbers: the values after the one at them is set
abbrev pub put_at_three : {A : Type 0} → (ℕ → ℕ → ℕ → A) → ℕ → ℕ → ℕ → A → ℕ → ℕ → ℕ → A
put_at_three f i j k x = put_at f i j (put (f i j) k x)
