-- A `&` to a trace holds a share of a struct that owns nothing.
use denote.RattleType.{RattleType}
use denote.Param.Send.{IsSend, IsSync, Pure-keyless, part_keyless}
use Rattle.nio_trace.specs.contracts.trace.Trace.{the_row}
use Rattle.nio_trace.proofs.Owned.{Fields, Fields-pure}

fields_send : (T : RattleType) → IsSend (Fields T)
fields_send T =
    record { owned = λ d vs. Pure-keyless ((Fields T).own_val d vs) (Fields-pure T d vs); leaving = λ k d w. tt }

pub sync : (T : RattleType) → IsSync (the_row T)
sync T = record { shared = λ xs b o κ x. ((λ q. part_keyless (Fields T) (fields_send T) q x.0 b o), tt) }
