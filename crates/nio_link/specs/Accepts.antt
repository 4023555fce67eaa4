-- The links that a net has accepted, in their order.
use Rattle.std.specs.Prelude.{Bool, true, false, Result, Ok, Err, List, [], ◌∷◌, ◌++◌, fold}
use Rattle.nio_base.specs.declared.numbers.ChanId.{ChanId}
use Rattle.nio_link.specs.declared.net.Failed.{Failed}
use Rattle.nio_link.specs.declared.place.Change.{Change}
use Rattle.nio_link.specs.declared.place.Change.TheVariants as change

-- after an accept under this channel that answered so: one that answered true is added at the end
abbrev pub accepted_after : Result Bool Failed → ChanId → List ChanId → List ChanId
accepted_after (Ok true) c before = before ++ c ∷ []
accepted_after (Ok false) c before = before
accepted_after (Err failed) c before = before

-- after a change of this channel's place
abbrev pub accepted_next : List ChanId → ChanId × Change → List ChanId
accepted_next before (c, change.Listen at) = before
accepted_next before (c, change.Accept listener) = accepted_after (Ok true) c before
accepted_next before (c, change.Connect to made) = before
accepted_next before (c, change.FinishConnect) = before
accepted_next before (c, change.ShutWrite) = before
accepted_next before (c, change.Close) = before
accepted_next before (c, change.TakeOut) = before
accepted_next before (c, change.PutIn) = before

-- the channels of the links that were accepted in these changes, the oldest first
abbrev pub accepted_by : List (ChanId × Change) → List ChanId
accepted_by changes = fold accepted_next [] changes
