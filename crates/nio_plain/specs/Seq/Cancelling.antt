-- Cancelling keys and closing channels. Cancelling a key again changes nothing, and so does cancelling
-- one whose index was given to a later key. Closing a channel cancels all its keys: the one in each
-- selector. A channel whose number was given to a later one is closed already.
use Rattle.std.specs.Prelude.{ℕ, ◌==◌, Bool, true, false, if◌then◌else◌, Option, Some, None}
use Rattle.nio_base.specs.declared.numbers.CallerNo.{CallerNo}
use Rattle.nio_base.specs.declared.numbers.ChanId.{ChanId}
use Rattle.nio_base.specs.declared.numbers.KeyId.{KeyId}
use Rattle.nio_base.specs.declared.numbers.SelNo.{SelNo}
use Rattle.nio_history.specs.Sets.{is_in_key_set, is_open_channel}
use Rattle.nio_history.specs.State.{State, with_chan, with_key}
use Rattle.nio_history.specs.declared.found.Stage.{Stage}
use Rattle.nio_language.specs.declared.reply.Reply.TheVariants as reply
use Rattle.nio_plain.specs.ScriptState.{ScriptState}
use Rattle.nio_plain.specs.Seq.Replies.{Replied, unchanged, replied}
use Rattle.nio_plain.specs.Seq.Modes.{key_of}
use Rattle.nio_plain.specs.Seq.Names.{with_named_channel, with_named_key}
use Rattle.nio_plain.specs.Seq.Pipes.{own_sink, sealing}

abbrev pub cancelled_key : Stage → Stage
cancelled_key k = record k { cancelled = true }

abbrev pub has_index : Option KeyId → ℕ → Bool
has_index None i = false
has_index (Some k) i = k.index == i

-- the key of the number's channel in each selector is cancelled
abbrev pub with_keys_cancelled : State → ℕ → State
with_keys_cancelled st c = record st {
  key = λ s i. if has_index (key_of st c s) i then cancelled_key (st.key s i) else st.key s i;
}

abbrev pub channel_closed : State → ℕ → State
channel_closed st c = with_keys_cancelled (with_chan st c (record (st.chan c) { closed = true })) c

-- a sink that its owner closes leaves its seal
unfoldable pub closec_call : ScriptState → CallerNo → ChanId → Replied
closec_call st me c =
    with_named_channel st c
    (sealing (own_sink st.pipes me c)
    (if is_open_channel (st.shared.chan c.number.0) c.serial
    then replied st reply.«Ok» (channel_closed st.shared c.number.0)
    else unchanged st reply.Already))

-- a key that is in the key set is cancelled, and no other
abbrev pub cancelled_in_set : Stage → ℕ → Stage
cancelled_in_set k serial = if is_in_key_set k serial then cancelled_key k else k

unfoldable pub cancel_call : ScriptState → SelNo → KeyId → Replied
cancel_call st s k =
    with_named_key st s k
    (replied st reply.«Ok» (with_key st.shared s.0 k.index (cancelled_in_set (st.shared.key s.0 k.index) k.serial)))
