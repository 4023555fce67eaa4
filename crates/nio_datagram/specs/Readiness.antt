-- What a channel is ready for after a call on it: a call that finds it not ready takes the bit away.
use Rattle.std.specs.Prelude.{ℕ, Bool, true, false, Result, Ok, Err}
use Rattle.nio_link.specs.Readiness.{without}
use Rattle.nio_link.specs.declared.net.Failed.{Failed}
use Rattle.nio_datagram.specs.declared.net.Came.{Came}
use Rattle.nio_datagram.specs.declared.net.Place.{Place}
use Rattle.nio_datagram.specs.declared.net.Place.TheVariants.{Unbound, Bound, Closed}
use Rattle.nio_datagram.specs.declared.net.Came.TheVariants as came

-- READ is 1
abbrev pub ready_after_receive : Result Came Failed → ℕ → ℕ
ready_after_receive (Ok (came.Packet len from)) ops = ops
ready_after_receive (Ok came.NotYet) ops = without 1 ops
ready_after_receive (Err failed) ops = ops

-- WRITE is 4
abbrev pub ready_after_send : Result Bool Failed → ℕ → ℕ
ready_after_send (Ok true) ops = ops
ready_after_send (Ok false) ops = without 4 ops
ready_after_send (Err failed) ops = ops

-- after a socket was bound there: nothing was told of it yet
abbrev pub ready_after_bind : Result (Unit {0}) Failed → ℕ → ℕ
ready_after_bind (Ok done) ops = 0
ready_after_bind (Err failed) ops = ops

-- after the socket there was closed: what was told of it was told of no later channel of its number
abbrev pub ready_after_close : Place → ℕ → ℕ
ready_after_close Unbound ops = ops
ready_after_close (Bound at) ops = 0
ready_after_close (Closed at) ops = ops
