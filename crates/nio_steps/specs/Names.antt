-- Selectors, channels and keys from their numbers.
use Rattle.std.specs.Prelude.{ℕ}
use Rattle.nio_base.specs.declared.numbers.ChanId.{ChanId}
use Rattle.nio_base.specs.declared.numbers.ChanNo.{ChanNo}
use Rattle.nio_base.specs.declared.numbers.KeyId.{KeyId}
use Rattle.nio_base.specs.declared.numbers.KeyNo.{KeyNo}
use Rattle.nio_base.specs.declared.numbers.SelNo.{SelNo}

abbrev pub selector : ℕ → SelNo
selector n = record { 0 = n }

abbrev pub channel : ℕ → ChanNo
channel n = record { 0 = n }

-- the channel of a number
abbrev pub channel_of : ChanNo → ℕ → ChanId
channel_of c serial = record { number = c; serial = serial }

-- the key of a selector
abbrev pub key : SelNo → KeyId → KeyNo
key s k = record { sel = s; index = k.index; serial = k.serial }
