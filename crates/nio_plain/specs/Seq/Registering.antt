-- Registering. A channel must be open and non-blocking, and no key of it there may be cancelled and still in
-- the key set. A valid key gets the new interest; else there is a new key. Its index is the least free
-- one, with the next serial; where none is free, it is the number of indexes claimed so far, with
-- serial 0.
use Rattle.std.specs.Prelude.{ℕ, suc, ◌==◌, max, nat_lt, Bool, true, false, not, if◌then◌else◌, Option, Some, None}
use Rattle.std.specs.Prelude.{bit_and, find}
use Rattle.nio_base.specs.Kind.{valid_operations}
use Rattle.nio_base.specs.declared.kind.Kind.{Kind}
use Rattle.nio_base.specs.declared.limits.Limits.{Limits}
use Rattle.nio_base.specs.declared.numbers.ChanId.{ChanId}
use Rattle.nio_base.specs.declared.numbers.KeyId.{KeyId}
use Rattle.nio_base.specs.declared.numbers.SelNo.{SelNo}
use Rattle.nio_history.specs.Sets.{is_open_channel}
use Rattle.nio_history.specs.State.{State, unmarked, with_enrolled, with_keys_high, with_key, with_interest, with_mark}
use Rattle.nio_history.specs.State.{with_note, with_free}
use Rattle.nio_history.specs.declared.found.Stage.{Stage}
use Rattle.nio_language.specs.declared.reply.Reply.TheVariants as reply
use Rattle.nio_plain.specs.ScriptState.{ScriptState}
use Rattle.nio_plain.specs.Seq.Replies.{Replied, unchanged, replied}
use Rattle.nio_plain.specs.Seq.Modes.{key_of}
use Rattle.nio_plain.specs.Seq.Names.{below, with_named_channel, with_named_selector}

-- the attachment that a new key gets
abbrev pub given_or_none : Option ℕ → ℕ
given_or_none None = 0
given_or_none (Some att) = att

-- the attachment of a key that is registered again: 0 is none, and changes nothing
abbrev pub given_or_kept : Option ℕ → ℕ → ℕ
given_or_kept None kept = kept
given_or_kept (Some att) kept = if att == 0 then kept else att

-- the least free index of a selector
abbrev pub free_index : State → ℕ → Option ℕ
free_index st s = find (λ i. st.free s i) (below (st.keys_high s))

-- the key that a selector gives next, by the least free index; none where every index is claimed and
-- none is free
abbrev pub next_by : Limits → State → ℕ → Option ℕ → Option KeyId
next_by l st s (Some i) = Some (record { index = i; serial = suc (st.key s i).serial })
next_by l st s None =
    if nat_lt (st.keys_high s) l.keys then Some (record { index = st.keys_high s; serial = 0 }) else None

abbrev pub next_key : Limits → State → ℕ → Option KeyId
next_key l st s = next_by l st s (free_index st s)

abbrev pub new_stage : ℕ → ℕ → Stage
new_stage c serial = record {
  claimed = true;
  published = true;
  cancelled = false;
  removed = false;
  chan = record { 0 = c };
  serial = serial;
}

-- a new key of a channel: it isn't selected and its ready set is empty, and its index isn't free any more
abbrev pub with_new_key : State → ℕ → ℕ → KeyId → ℕ → ℕ → State
with_new_key st s c k ops att =
    let i = k.index in
    let claimed = with_keys_high (with_free (with_key st s i (new_stage c k.serial)) s i false) s
    (max (st.keys_high s) (suc i)) in
    with_note (with_mark (with_interest (with_enrolled claimed c s (Some k)) s i ops) s i unmarked) s i att

abbrev pub registered_new : ScriptState → ℕ → ℕ → ℕ → ℕ → Option KeyId → Replied
registered_new st s c ops att None = unchanged st reply.Full
registered_new st s c ops att (Some k) = replied st (reply.Key k) (with_new_key st.shared s c k ops att)

abbrev pub registered : Limits → ScriptState → ℕ → ℕ → ℕ → Option ℕ → Option KeyId → Replied
registered l st s c ops att None =
    if (st.shared.gate s).shut then unchanged st reply.ClosedSelector
    else registered_new st s c ops (given_or_none att) (next_key l st.shared s)
registered l st s c ops att (Some k) =
    let i = k.index in
    if (st.shared.key s i).cancelled then unchanged st reply.CancelledKey
    else if (st.shared.gate s).shut then unchanged st reply.ClosedSelector
    else
    replied st (reply.Key k)
    (with_note (with_interest st.shared s i ops) s i (given_or_kept att (st.shared.note s i)))

-- no bit is outside the kind's operations
abbrev pub are_legal : Kind → ℕ → Bool
are_legal kind ops = bit_and ops (valid_operations kind) == ops

unfoldable pub register_call : Limits → ScriptState → SelNo → ChanId → ℕ → Option ℕ → Replied
register_call l st s c ops att =
    let chan = st.shared.chan c.number.0 in
    with_named_selector st s
    (with_named_channel st c
    (if not (are_legal chan.kind ops) then unchanged st reply.IllegalOps
    else if not (is_open_channel chan c.serial) then unchanged st reply.ClosedChannel
    else if chan.blocking then unchanged st reply.IllegalBlockingMode
    else registered l st s.0 c.number.0 ops att (key_of st.shared c.number.0 s.0)))
