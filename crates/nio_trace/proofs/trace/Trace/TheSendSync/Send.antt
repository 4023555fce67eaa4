-- A trace owns nothing, so it may go to another thread, whatever its list is of.
use denote.RattleType.{RattleType}
use denote.Param.Send.{IsSend, Pure-keyless}
use Rattle.nio_trace.specs.contracts.trace.Trace.{the_row}
use Rattle.nio_trace.proofs.Owned.{Row-pure}

pub send : (T : RattleType) → IsSend (the_row T)
send T = record { owned = λ xs vs. Pure-keyless ((the_row T).own_val xs vs) (Row-pure T xs vs); leaving = λ k xs w. tt }
