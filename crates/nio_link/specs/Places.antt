-- What a channel of a net was asked to be, and what stands there, after each call.
use Rattle.std.specs.Prelude.{◌≡◌, ℕ, ◌<◌, ◌≤◌, ◌==◌, Bool, true, false, ◌&&◌, ◌||◌, if◌then◌else◌, Option, Some, None, Result, Ok}
use Rattle.std.specs.Prelude.{Err, List, fold}
use Rattle.nio_base.specs.declared.numbers.Addr.{Addr}
use Rattle.nio_base.specs.declared.numbers.ChanId.{ChanId}
use Rattle.nio_base.specs.declared.numbers.ChanNo.{ChanNo}
use Rattle.nio_link.specs.Links.{IsSameBut}
use Rattle.nio_link.specs.declared.net.Failed.{Failed}
use Rattle.nio_link.specs.declared.place.Change.{Change}
use Rattle.nio_link.specs.declared.place.Change.TheVariants as change
use Rattle.nio_link.specs.declared.place.Place.{Place}
use Rattle.nio_link.specs.declared.place.Role.TheVariants as role
use Rattle.nio_link.specs.declared.place.Standing.{Standing}
use Rattle.nio_link.specs.declared.place.Standing.TheVariants as standing

-- ---- channels

-- the channel of this number that has this serial
abbrev pub channel : ChanNo → ℕ → ChanId
channel n s = record { number = n; serial = s }

abbrev pub is_same_channel : ChanId → ChanId → Bool
is_same_channel a b = (a.number.0 == b.number.0) && (a.serial == b.serial)

-- ---- what stands

-- the channel was not asked to be anything
abbrev pub never_asked : Place
never_asked = record { role = role.Nothing; standing = standing.Nothing }

-- nothing stands there, or nothing does any more
abbrev pub IsVacant : Standing → Type 0
IsVacant standing.Nothing = Unit {0}
IsVacant standing.Listening = ⊥
IsVacant standing.Connecting = ⊥
IsVacant standing.Linked = ⊥
IsVacant standing.Shut = ⊥
IsVacant standing.Gone = Unit {0}

-- a link that is connected stands there: it can be read
abbrev pub IsLinked : Standing → Type 0
IsLinked standing.Nothing = ⊥
IsLinked standing.Listening = ⊥
IsLinked standing.Connecting = ⊥
IsLinked standing.Linked = Unit {0}
IsLinked standing.Shut = Unit {0}
IsLinked standing.Gone = ⊥

-- a link stands there: it was made or put in, and neither closed nor taken out
abbrev pub is_standing : Standing → Bool
is_standing standing.Nothing = false
is_standing standing.Listening = false
is_standing standing.Connecting = false
is_standing standing.Linked = true
is_standing standing.Shut = true
is_standing standing.Gone = false

abbrev pub stands : Place → Bool
stands place = is_standing place.standing

-- a listener stands there
abbrev pub is_listening : Standing → Bool
is_listening standing.Nothing = false
is_listening standing.Listening = true
is_listening standing.Connecting = false
is_listening standing.Linked = false
is_listening standing.Shut = false
is_listening standing.Gone = false

-- a link that isn't connected yet stands there
abbrev pub is_connecting : Standing → Bool
is_connecting standing.Nothing = false
is_connecting standing.Listening = false
is_connecting standing.Connecting = true
is_connecting standing.Linked = false
is_connecting standing.Shut = false
is_connecting standing.Gone = false

-- something stands there
abbrev pub is_there : Standing → Bool
is_there standing.Nothing = false
is_there standing.Listening = true
is_there standing.Connecting = true
is_there standing.Linked = true
is_there standing.Shut = true
is_there standing.Gone = false

-- a link is there, connected or not yet
abbrev pub is_link : Standing → Bool
is_link s = is_connecting s || is_standing s

-- nothing stands under the number
abbrev pub IsVacantNumber : (ChanId → Place) → ChanNo → Type 0
IsVacantNumber place n = (s : ℕ) → IsVacant (place (channel n s)).standing

-- The channel can be asked to be something: neither it nor a later channel of its number was, and what stood under the
-- number was closed or taken out, or couldn't be connected. So the serials of a number rise. Unlike those of the table
-- they may leave gaps: a serial isn't always the count of the channels that had the number before.
pub record IsFree (place : ChanId → Place) (c : ChanId) : Type 0 where
  pub later : (s : ℕ) → c.serial ≤ s → place (channel c.number s) ≡ never_asked
  pub vacant : IsVacantNumber place c.number

-- A number serves again: where a channel was free, and nothing stands there any more after calls on it alone, each later
-- channel of its number is free.
abbrev pub FreeAgain : Type 0
FreeAgain = (place now : ChanId → Place) (c d : ChanId) → IsFree place c → IsSameBut c place now
    → IsVacant (now c).standing → d.number ≡ c.number → c.serial < d.serial → IsFree now d

-- ---- after each call: one that fails makes nothing, and leaves what stands; but a link that fails to connect is gone

-- where no listener could be made, the channel can be asked again
abbrev pub place_after_listen : Result (Unit {0}) Failed → Addr → Place → Place
place_after_listen (Ok done) at before = record { role = role.Listener at; standing = standing.Listening }
place_after_listen (Err failed) at before = before

-- the place of the accepted link; where there is none, the channel can be asked again
abbrev pub place_after_accept : Result Bool Failed → ChanId → Place → Place
place_after_accept (Ok true) listener before = record { role = role.Accepted listener; standing = standing.Linked }
place_after_accept (Ok false) listener before = before
place_after_accept (Err failed) listener before = before

abbrev pub place_after_connect : Result Bool Failed → Addr → Place
place_after_connect (Ok true) to = record { role = role.Connected to; standing = standing.Linked }
place_after_connect (Ok false) to = record { role = role.Connected to; standing = standing.Connecting }
place_after_connect (Err failed) to = record { role = role.Connected to; standing = standing.Gone }

abbrev pub place_after_finish : Result Bool Failed → Place → Place
place_after_finish (Ok true) before = record before { standing = standing.Linked }
place_after_finish (Ok false) before = before
place_after_finish (Err failed) before = record before { standing = standing.Gone }

abbrev pub place_after_shut : Result (Unit {0}) Failed → Place → Place
place_after_shut (Ok done) before = record before { standing = standing.Shut }
place_after_shut (Err failed) before = before

-- what is left of what stands
abbrev pub closed : Standing → Standing
closed standing.Nothing = standing.Nothing
closed standing.Listening = standing.Gone
closed standing.Connecting = standing.Gone
closed standing.Linked = standing.Gone
closed standing.Shut = standing.Gone
closed standing.Gone = standing.Gone

abbrev pub place_after_close : Place → Place
place_after_close before = record before { standing = closed before.standing }

-- where no link stands, nothing is taken out
abbrev pub place_after_take_out : {L : Type 0} → Option L → Place → Place
place_after_take_out (Some link) before = record before { standing = standing.Gone }
place_after_take_out None before = before

-- where memory lacks, the link comes back
abbrev pub place_after_put_in : {L : Type 0} → Result (Unit {0}) L → Place → Place
place_after_put_in (Ok done) before = record { role = role.PutIn; standing = standing.Linked }
place_after_put_in (Err link) before = before

-- ---- after a list of changes

abbrev pub place_after : Change → Place → Place
place_after (change.Listen at) before = place_after_listen (Ok tt) at before
place_after (change.Accept listener) before = place_after_accept (Ok true) listener before
place_after (change.Connect to made) before = place_after_connect made to
place_after change.FinishConnect before = place_after_finish (Ok true) before
place_after change.ShutWrite before = place_after_shut (Ok tt) before
place_after change.Close before = place_after_close before
place_after change.TakeOut before = place_after_take_out {L = Unit {0}} (Some tt) before
place_after change.PutIn before = place_after_put_in {L = Unit {0}} (Ok tt) before

-- the places after a change of this channel's
abbrev pub changed : (ChanId → Place) → ChanId × Change → ChanId → Place
changed before (c, change) k = if is_same_channel k c then place_after change (before k) else before k

-- the places of a net after these changes, the oldest first
abbrev pub places_after : List (ChanId × Change) → ChanId → Place
places_after changes = fold changed (λ _. never_asked) changes

-- how the channel of a change stands then, of what is gone no more than that nothing stands there
abbrev pub standing_after : Change → Standing
standing_after (change.Listen at) = standing.Listening
standing_after (change.Accept listener) = standing.Linked
standing_after (change.Connect to (Ok true)) = standing.Linked
standing_after (change.Connect to (Ok false)) = standing.Connecting
standing_after (change.Connect to (Err failed)) = standing.Nothing
standing_after change.FinishConnect = standing.Linked
standing_after change.ShutWrite = standing.Shut
standing_after change.Close = standing.Nothing
standing_after change.TakeOut = standing.Nothing
standing_after change.PutIn = standing.Linked

-- ---- whether a link stands

-- the changes that make a link stand, or end that
abbrev pub moves_link : Change → Bool
moves_link (change.Listen at) = false
moves_link (change.Accept listener) = true
moves_link (change.Connect to (Ok made)) = made
moves_link (change.Connect to (Err failed)) = false
moves_link change.FinishConnect = true
moves_link change.ShutWrite = false
moves_link change.Close = true
moves_link change.TakeOut = true
moves_link change.PutIn = true

-- The change may come to a channel of this place. The calls need more: what is made needs a number that is free, and not
-- only a channel that was never asked.
abbrev pub IsAllowed : Change → Place → Type 0
IsAllowed (change.Listen at) before = before ≡ never_asked
IsAllowed (change.Accept listener) before = before ≡ never_asked
IsAllowed (change.Connect to made) before = before ≡ never_asked
IsAllowed change.FinishConnect before = before.standing ≡ standing.Connecting
IsAllowed change.ShutWrite before = before.standing ≡ standing.Linked
IsAllowed change.Close before = Unit {0}
IsAllowed change.TakeOut before = before.standing ≡ standing.Linked
IsAllowed change.PutIn before = before ≡ never_asked
