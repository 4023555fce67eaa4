-- A source over a reader.
use Rattle.std.specs.Prelude.{ℕ}
use Rattle.nio_bytes.specs.declared.std_source.StdSource.{StdSource}

-- the reader that it reads from
abbrev pub reader : {R : Type 0} → StdSource R → R
reader source = source.inner

-- how often it has failed
abbrev pub faults_of : {R : Type 0} → StdSource R → ℕ
faults_of source = source.faults
