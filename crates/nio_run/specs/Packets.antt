-- What `packets` does.
use Rattle.std.specs.Prelude.{◌≡◌, ◌⊎◌, ℕ, ◌++◌, List, [], ◌∷◌, codes}
use Rattle.std.specs.Fmt.{decimal}
use Rattle.nio_base.specs.declared.numbers.ChanId.{ChanId}
use Rattle.nio_bytes.specs.Cause.{Rose}
use Rattle.nio_bytes.specs.declared.sink.Sink as sink
use Rattle.nio_datagram.specs.Nets.{NoneFailed}
use Rattle.nio_datagram.specs.Packets.{Traffic}
use Rattle.nio_datagram.specs.Serving.{HasRelayed, LeavesNothing, NoneRose, OneRose, RelaysPackets}
use Rattle.nio_datagram.specs.declared.net.Place.{Place}
use Rattle.nio_relay.specs.declared.plan.PacketPlan.{PacketPlan}
use Rattle.nio_datagram.specs.declared.serving.PacketsServed.{PacketsServed}
use Rattle.nio_script.specs.Output.{IsWritten, WritesPrefix}
use Rattle.nio_script.specs.declared.status.Status.{Status}
use Rattle.nio_script.specs.declared.status.Status.TheVariants.{Done, WriteFault, Memory, NetFault}
use Rattle.nio_run.specs.Relays.{EndsRelay}

-- what is said of the packets that were sent
abbrev pub sent_line : PacketsServed → List ℕ
sent_line s = codes "forth " ++ decimal s.forth ++ codes " back " ++ decimal s.back ++ 10 ∷ []

-- As many packets of the client as the plan says were sent, no call on the net failed, and that was written and
-- flushed.
pub record AreSent {K : Type 0} (k : sink.Ghosts K) (plan : PacketPlan) (traffic : ChanId → Traffic)
    (place : ChanId → Place) (before now : ChanId → ℕ) (polls_before polls_now : ℕ) (output output' : K) : Type 0 where
  pub served : PacketsServed
  pub has_relayed : HasRelayed plan traffic place served
  pub none_failed : NoneFailed before now polls_before polls_now
  pub written : IsWritten k output output' (sent_line served)
  pub still : k.faults output' ≡ k.faults output

-- As many packets of the client as the plan says were sent, no call on the net failed, and some of that was written,
-- from its front.
pub record AreSentUnsaid {K : Type 0} (k : sink.Ghosts K) (plan : PacketPlan) (traffic : ChanId → Traffic)
    (place : ChanId → Place) (before now : ChanId → ℕ) (polls_before polls_now : ℕ) (output output' : K) : Type 0 where
  pub served : PacketsServed
  pub has_relayed : HasRelayed plan traffic place served
  pub none_failed : NoneFailed before now polls_before polls_now
  pub written : WritesPrefix k output output' (sent_line served)

-- What `packets` does by this plan where it ends with this status. Traffic and places are those before it (named
-- with a 0) and after it; so are the counts of faults, of channels and of polls (`before`, `now`).
pub record DoesPackets {K : Type 0} (k : sink.Ghosts K) (plan : PacketPlan) (traffic0 traffic : ChanId → Traffic)
    (place0 place : ChanId → Place) (before now : ChanId → ℕ) (polls_before polls_now : ℕ) (output output' : K)
    (status : Status) : Type 0 where
  pub done : status ≡ Done → AreSent k plan traffic place before now polls_before polls_now output output'
  pub write_fault : status ≡ WriteFault
      → AreSentUnsaid k plan traffic place before now polls_before polls_now output output'
  pub rose : status ≡ WriteFault → Rose (k.faults output) (k.faults output')
  pub net_fault : status ≡ NetFault → OneRose before now polls_before polls_now
  pub unwritten : (status ≡ NetFault) ⊎ (status ≡ Memory) → output' ≡ output
  pub ends : EndsRelay status
  -- at every end what was heard has been passed on, at most one packet less each way, and nothing is bound
  pub relays : RelaysPackets plan.target traffic
  pub leaves : LeavesNothing plan traffic0 traffic place0 place before now polls_before polls_now
  -- where no count of faults rises and there is memory, as many packets of the client as the plan says are sent
  pub complete : NoneRose before now polls_before polls_now → ¬ Rose (k.faults output) (k.faults output')
      → (status ≡ Done) ⊎ (status ≡ Memory)
