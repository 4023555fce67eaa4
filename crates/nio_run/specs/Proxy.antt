-- What `proxy` does.
use Rattle.std.specs.Prelude.{◌≡◌, ◌≤◌, ◌++◌, ℕ, List, [], ◌∷◌, Result, Ok, Err, codes}
use Rattle.std.specs.Fmt.{decimal}
use Rattle.nio_bytes.specs.declared.sink.Sink as sink
use Rattle.nio_command.specs.declared.way.ProxyWay.{ProxyWay}
use Rattle.nio_command.specs.declared.way.ProxyWay.TheVariants.{Select, Group, Future, Many}
use Rattle.nio_link.specs.Nets.{NetView}
use Rattle.nio_jobs.specs.Plans.{HasSlotForEach}
use Rattle.nio_relay.specs.Plan.{IsServable}
use Rattle.nio_relay.specs.declared.plan.ProxyPlan.{ProxyPlan}
use Rattle.nio_relay.specs.declared.plan.Served.{Served}
use Rattle.nio_serve.specs.Serving.{Serves}
use Rattle.nio_serve.specs.declared.serving.ServeError.{ServeError}
use Rattle.nio_serve.specs.declared.serving.ServeError.TheVariants as error
use Rattle.nio_script.specs.declared.status.Status.{Status}
use Rattle.nio_script.specs.declared.status.Status.TheVariants.{Memory, NetFault}
use Rattle.nio_run.specs.Relays.{SaysLine}

-- which plans each way can serve
abbrev pub IsServableBy : ProxyWay → ProxyPlan → Type 0
IsServableBy Select plan = IsServable plan
IsServableBy (Group count) plan = HasSlotForEach plan
IsServableBy Future plan = HasSlotForEach plan
IsServableBy (Many count) plan = IsServable plan

-- a group has from 1 to 64 workers, and `many` from 1 to 15
abbrev pub HasWorkers : ProxyWay → Type 0
HasWorkers Select = Unit {0}
HasWorkers (Group count) = (1 ≤ count) × (count ≤ 64)
HasWorkers Future = Unit {0}
HasWorkers (Many count) = (1 ≤ count) × (count ≤ 15)

-- the way has one net alone
abbrev pub HasOneNet : ProxyWay → Type 0
HasOneNet Select = Unit {0}
HasOneNet (Group count) = Unit {0}
HasOneNet Future = Unit {0}
HasOneNet (Many count) = ⊥

-- what is said of the connections that were served, and of those that ended by a fault
abbrev pub served_line : Served → List ℕ
served_line s = codes "served " ++ decimal s.connections ++ codes " faults " ++ decimal s.faults ++ 10 ∷ []

-- what is said where the connections were served, and that nothing is written where they weren't
abbrev pub SaysOutcome : {K : Type 0} → sink.Ghosts K → Result Served ServeError → K → K → Status → Type 0
SaysOutcome k (Ok served) output output' status = SaysLine k (served_line served) output output' status
SaysOutcome k (Err error.NetFault) output output' status = (status ≡ NetFault) × (output' ≡ output)
SaysOutcome k (Err error.Memory) output output' status = (status ≡ Memory) × (output' ≡ output)

-- What `proxy` does with one net, which showed `old` before it and shows `new` after it: it serves the plan, and says
-- what that came to. There may be no memory for the line.
pub record DoesProxy {K : Type 0} (k : sink.Ghosts K) (plan : ProxyPlan) (old new : NetView) (output output' : K)
    (status : Status) : Type 0 where
  pub served : Result Served ServeError
  pub serves : Serves plan old new served
  pub says : SaysOutcome k served output output' status
