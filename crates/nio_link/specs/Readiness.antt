-- What the number of a channel is ready for after a call: a call that finds it not ready takes the bit away. What was
-- told of a number before something was made under it is told of nothing that stands there.
use Rattle.std.specs.Prelude.{ℕ, ◌-◌, Bool, true, false, Option, Some, None, Result, Ok, Err, bit_and}
use Rattle.nio_link.specs.declared.net.Failed.{Failed}
use Rattle.nio_link.specs.declared.net.Got.{Got}
use Rattle.nio_link.specs.declared.net.Got.TheVariants as got
use Rattle.nio_link.specs.declared.net.Put.{Put}
use Rattle.nio_link.specs.declared.net.Put.TheVariants as put
use Rattle.nio_link.specs.declared.place.Standing.{Standing}
use Rattle.nio_link.specs.declared.place.Standing.TheVariants as standing

-- a set of operations without one of them
abbrev pub without : ℕ → ℕ → ℕ
without op ops = bit_and ops (255 - op)

-- READ is 1
abbrev pub ready_after_read : Result Got Failed → ℕ → ℕ
ready_after_read (Ok (got.Bytes n)) ops = ops
ready_after_read (Ok got.End) ops = ops
ready_after_read (Ok got.NotYet) ops = without 1 ops
ready_after_read (Err failed) ops = ops

-- WRITE is 4
abbrev pub ready_after_write : Result Put Failed → ℕ → ℕ
ready_after_write (Ok (put.Bytes n)) ops = ops
ready_after_write (Ok put.NotYet) ops = without 4 ops
ready_after_write (Err failed) ops = ops

-- CONNECT is 8; a link that couldn't be connected is closed
abbrev pub ready_after_connect : Result Bool Failed → ℕ → ℕ
ready_after_connect (Ok true) ops = ops
ready_after_connect (Ok false) ops = without 8 ops
ready_after_connect (Err failed) ops = 0

-- ACCEPT is 16
abbrev pub ready_after_accept : Result Bool Failed → ℕ → ℕ
ready_after_accept (Ok true) ops = ops
ready_after_accept (Ok false) ops = without 16 ops
ready_after_accept (Err failed) ops = ops

-- once this stands there, or nothing: nothing was told yet of what was made
abbrev pub ready_after_making : Bool → ℕ → ℕ
ready_after_making true ops = 0
ready_after_making false ops = ops

-- after what stood there was closed
abbrev pub ready_after_close : Standing → ℕ → ℕ
ready_after_close standing.Nothing ops = ops
ready_after_close standing.Listening ops = 0
ready_after_close standing.Connecting ops = 0
ready_after_close standing.Linked ops = 0
ready_after_close standing.Shut ops = 0
ready_after_close standing.Gone ops = ops

-- after a link was taken out
abbrev pub ready_after_take_out : {L : Type 0} → Option L → ℕ → ℕ
ready_after_take_out (Some link) ops = 0
ready_after_take_out None ops = ops
