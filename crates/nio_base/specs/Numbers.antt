-- Channels and keys by their numbers and serials.
use Rattle.std.specs.Prelude.{ℕ}
use Rattle.nio_base.specs.declared.numbers.ChanId.{ChanId}
use Rattle.nio_base.specs.declared.numbers.ChanNo.{ChanNo}

abbrev pub first_channel : ChanNo → ChanId
first_channel c = record { number = c; serial = 0 }

-- the last serial that a key, a channel and a channel of a group can have: the index, or the number, doesn't come back
abbrev pub last_serial : ℕ
last_serial = 4294967295
