-- A sink over a writer.
use Rattle.std.specs.Prelude.{ℕ}
use Rattle.nio_bytes.specs.declared.std_sink.StdSink.{StdSink}

-- the writer that it writes to
abbrev pub writer : {T : Type 0} → StdSink T → T
writer sink = sink.inner

-- how often it has failed
abbrev pub faults_of : {T : Type 0} → StdSink T → ℕ
faults_of sink = sink.faults
