-- A net in memory that was just made.
use Rattle.std.proofs.Common.{◌≡◌, Result, Ok, Err, IfOk}
use Rattle.nio_base.specs.declared.numbers.ChanId.{ChanId}
use Rattle.nio_link.specs.Links.{IsUnused}
use Rattle.nio_link.specs.MemoryNet.{NetState, shown}
use Rattle.nio_link.specs.Places.{never_asked, places_after}
use Rattle.nio_link.specs.Slots.{carried_at}
use Rattle.nio_serve.specs.Serving.{IsFresh}

-- where its links have carried nothing, and its channels were asked for nothing
pub fresh_net : {E : Type 0} (made : Result NetState E)
    → IfOk made (λ net. (c : ChanId) → IsUnused (carried_at net.slots net.past c))
    → IfOk made (λ net. (c : ChanId) → places_after net.changes c ≡ never_asked)
    → IfOk made (λ net. IsFresh (shown net))
fresh_net (Ok net) carried unasked = record { carried = carried; unasked = unasked }
fresh_net (Err error) carried unasked = tt
