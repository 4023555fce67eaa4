-- Channels that are closed.
use Rattle.std.specs.Prelude.{IsTrue}
use Rattle.nio_base.specs.declared.numbers.ChanId.{ChanId}
use Rattle.nio_history.specs.PassViews.{PassView, known}
use Rattle.nio_history.specs.Sets.{was_closed}

-- the channel was closed, as far as the pass has seen: it is so for good, also where its number was given to another
-- one
abbrev pub IsClosed : PassView → ChanId → Type 0
IsClosed pass c = IsTrue (was_closed ((known pass).chan c.number.0) c.serial)
