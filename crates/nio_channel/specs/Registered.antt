-- What is said of a key that a registration answers.
use Rattle.std.specs.Prelude.{◌≡◌, Bool, IsTrue}
use Rattle.nio_base.specs.declared.numbers.CallerNo.{CallerNo}
use Rattle.nio_base.specs.declared.numbers.ChanId.{ChanId}
use Rattle.nio_base.specs.declared.numbers.KeyNo.{KeyNo}
use Rattle.nio_history.specs.Found.{finds}
use Rattle.nio_history.specs.Histories.{mine}
use Rattle.nio_history.specs.Permanent.{channel_closed}
use Rattle.nio_history.specs.OwnEvents.{has, under}
use Rattle.nio_history.specs.PassViews.{PassView, known}
use Rattle.nio_history.specs.Sets.{was_cancelled}

-- the caller found the channel closed under the hold of its number that it took last
abbrev pub found_closed : PassView → CallerNo → ChanId → Bool
found_closed pass me c =
    has (λ act. finds act (channel_closed c.number.0 c.serial)) (under c.number.0 (mine me pass.seen))

-- the key is of the channel: while its index has this key, the index is claimed for the channel's number
abbrev pub IsKeyOf : PassView → ChanId → KeyNo → Type 0
IsKeyOf pass c k =
    ((known pass).key k.sel.0 k.index).serial ≡ k.serial → ((known pass).key k.sel.0 k.index).chan ≡ c.number

-- where the caller found the channel closed under its hold, the key has been cancelled
abbrev pub IsCancelledWhereClosed : PassView → CallerNo → ChanId → KeyNo → Type 0
IsCancelledWhereClosed pass me c k =
    IsTrue (found_closed pass me c) → IsTrue (was_cancelled ((known pass).key k.sel.0 k.index) k.serial)
