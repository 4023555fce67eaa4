-- Kinds of channel: which operations each supports, and a number for each.
use Rattle.std.specs.Prelude.{ℕ, ◌==◌, Bool}
use Rattle.nio_base.specs.declared.kind.Kind.{Kind}
use Rattle.nio_base.specs.declared.kind.Kind.TheVariants.{Stream, Listener, Source, Sink, Datagram}

-- the valid operations: read, write and connect of a stream; accept of a listener; read of a
-- pipe's source; write of a pipe's sink; read and write of a datagram channel
abbrev pub valid_operations : Kind → ℕ
valid_operations Stream = 13
valid_operations Listener = 16
valid_operations Source = 1
valid_operations Sink = 4
valid_operations Datagram = 5

-- a number for each kind, by which kinds are compared and kept in words
abbrev pub kind_code : Kind → ℕ
kind_code Stream = 0
kind_code Listener = 1
kind_code Source = 2
kind_code Sink = 3
kind_code Datagram = 4

abbrev pub is_same_kind : Kind → Kind → Bool
is_same_kind x y = kind_code x == kind_code y
