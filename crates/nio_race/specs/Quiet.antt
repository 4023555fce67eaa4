-- What the polls of a `block` tell.
use Rattle.std.specs.Prelude.{List, All}
use Rattle.nio_poller.specs.Polled.{Polled}
use Rattle.nio_race.specs.Runs.{TellsNothing}

abbrev pub AreUntold : List Polled → Type 0
AreUntold polls = All (λ poll. TellsNothing poll.answer) polls

-- where the polls before told nothing, all of them did
abbrev pub AreStillUntold : List Polled → List Polled → Type 0
AreStillUntold before after = AreUntold before → AreUntold after
