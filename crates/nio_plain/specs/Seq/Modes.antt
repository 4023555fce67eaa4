-- Blocking mode. A registered channel may not return to blocking mode. A channel whose number was given to a later one
-- is closed, in no mode and not registered.
use Rattle.std.specs.Prelude.{ℕ, Bool, not, ◌&&◌, if◌then◌else◌, Option, Some, None, is_some}
use Rattle.std.specs.List.{list_any}
use Rattle.nio_base.specs.declared.limits.Limits.{Limits}
use Rattle.nio_base.specs.declared.numbers.ChanId.{ChanId}
use Rattle.nio_base.specs.declared.numbers.KeyId.{KeyId}
use Rattle.nio_base.specs.declared.numbers.SelNo.{SelNo}
use Rattle.nio_history.specs.Sets.{fits_channel, is_in_key_set, is_open_channel}
use Rattle.nio_history.specs.State.{State, with_chan}
use Rattle.nio_language.specs.declared.reply.Reply.{Reply}
use Rattle.nio_language.specs.declared.reply.Reply.TheVariants as reply
use Rattle.nio_plain.specs.ScriptState.{ScriptState}
use Rattle.nio_plain.specs.Seq.Replies.{Replied, unchanged, replied, yes_or_no}
use Rattle.nio_plain.specs.Seq.Names.{below, with_named_channel, with_named_selector}

abbrev pub if_in_key_set : State → ℕ → Option KeyId → Option KeyId
if_in_key_set st s None = None
if_in_key_set st s (Some k) = if is_in_key_set (st.key s k.index) k.serial then Some k else None

-- the key of a number's channel in a selector: the one that is enrolled for the number, where it is in the key set
abbrev pub key_of : State → ℕ → ℕ → Option KeyId
key_of st c s = if_in_key_set st s (st.enrolled c s)

-- the number's channel is registered: it has a key in some selector
abbrev pub has_key : Limits → State → ℕ → Bool
has_key l st c = list_any (λ s. is_some (key_of st c s)) (below l.selectors)

-- the channel is its number's, and that has a key; and its key in a selector
abbrev pub is_registered : Limits → State → ChanId → Bool
is_registered l st c = fits_channel (st.chan c.number.0) c.serial && has_key l st c.number.0

abbrev pub key_of_channel : State → ChanId → ℕ → Option KeyId
key_of_channel st c s = if fits_channel (st.chan c.number.0) c.serial then key_of st c.number.0 s else None

unfoldable pub blocking_call : Limits → ScriptState → ChanId → Bool → Replied
blocking_call l st c on =
    let chan = st.shared.chan c.number.0 in
    with_named_channel st c
    (if not (is_open_channel chan c.serial) then unchanged st reply.ClosedChannel
    else if on && has_key l st.shared c.number.0 then unchanged st reply.IllegalBlockingMode
    else replied st reply.«Ok» (with_chan st.shared c.number.0 (record chan { blocking = on })))

unfoldable pub is_blocking_call : ScriptState → ChanId → Replied
is_blocking_call st c =
    let chan = st.shared.chan c.number.0 in
    with_named_channel st c (unchanged st (yes_or_no (fits_channel chan c.serial && chan.blocking)))

unfoldable pub is_open_call : ScriptState → ChanId → Replied
is_open_call st c =
    with_named_channel st c (unchanged st (yes_or_no (is_open_channel (st.shared.chan c.number.0) c.serial)))

unfoldable pub is_registered_call : Limits → ScriptState → ChanId → Replied
is_registered_call l st c = with_named_channel st c (unchanged st (yes_or_no (is_registered l st.shared c)))

-- the name of a key, where there is one
abbrev pub name_or_none : Option KeyId → Reply
name_or_none None = reply.None
name_or_none (Some k) = reply.Key k

unfoldable pub key_for_call : ScriptState → ChanId → SelNo → Replied
key_for_call st c s =
    with_named_channel st c (with_named_selector st s (unchanged st (name_or_none (key_of_channel st.shared c s.0))))
