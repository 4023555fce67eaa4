-- Keys. What a key is interested in and ready for is told and set while it is valid. Setting and
-- or-ing refuse bits outside the kind's operations; and-ing takes any. Or-ing and and-ing give the
-- set before. A key whose index was given to a later key is never valid again, and has no attachment.
use Rattle.std.specs.Prelude.{ℕ, Bool, ◌&&◌, if◌then◌else◌, bit_and, bit_or}
use Rattle.nio_base.specs.declared.numbers.KeyId.{KeyId}
use Rattle.nio_base.specs.declared.numbers.SelNo.{SelNo}
use Rattle.nio_history.specs.Sets.{fits, in_selected_set, is_valid_key}
use Rattle.nio_history.specs.State.{State, with_interest, with_mark, with_note}
use Rattle.nio_language.specs.declared.reply.Reply.TheVariants as reply
use Rattle.nio_plain.specs.ScriptState.{ScriptState}
use Rattle.nio_plain.specs.Seq.Replies.{Replied, unchanged, replied, yes_or_no}
use Rattle.nio_plain.specs.Seq.Names.{with_named_key}
use Rattle.nio_plain.specs.Seq.Registering.{are_legal}
use Rattle.nio_plain.specs.Seq.Removing.{unselected}

unfoldable pub valid_call : ScriptState → SelNo → KeyId → Replied
valid_call st s k =
    with_named_key st s k (unchanged st (yes_or_no (is_valid_key (st.shared.key s.0 k.index) k.serial)))

abbrev pub with_valid_key : ScriptState → SelNo → KeyId → Replied → Replied
with_valid_key st s k done =
    with_named_key st s k
    (if is_valid_key (st.shared.key s.0 k.index) k.serial then done else unchanged st reply.CancelledKey)

unfoldable pub interest_call : ScriptState → SelNo → KeyId → Replied
interest_call st s k = with_valid_key st s k (unchanged st (reply.Number (st.shared.interest s.0 k.index)))

unfoldable pub ready_call : ScriptState → SelNo → KeyId → Replied
ready_call st s k = with_valid_key st s k (unchanged st (reply.Number (st.shared.mark s.0 k.index).ready))

-- the operations of the key's channel
abbrev pub are_legal_at : State → ℕ → ℕ → ℕ → Bool
are_legal_at st s i ops = are_legal (st.chan (st.key s i).chan.0).kind ops

unfoldable pub iset_call : ScriptState → SelNo → KeyId → ℕ → Replied
iset_call st s k ops =
    with_valid_key st s k
    (if are_legal_at st.shared s.0 k.index ops then replied st reply.«Ok» (with_interest st.shared s.0 k.index ops)
    else unchanged st reply.IllegalOps)

unfoldable pub ior_call : ScriptState → SelNo → KeyId → ℕ → Replied
ior_call st s k ops =
    let before = st.shared.interest s.0 k.index in
    with_valid_key st s k
    (if are_legal_at st.shared s.0 k.index ops
    then replied st (reply.Number before) (with_interest st.shared s.0 k.index (bit_or before ops))
    else unchanged st reply.IllegalOps)

unfoldable pub iand_call : ScriptState → SelNo → KeyId → ℕ → Replied
iand_call st s k ops =
    let before = st.shared.interest s.0 k.index in
    with_valid_key st s k
    (replied st (reply.Number before) (with_interest st.shared s.0 k.index (bit_and before ops)))

-- a user may take a key out of the selected set, and can't add one
abbrev pub is_in_selected_set : State → ℕ → KeyId → Bool
is_in_selected_set st s k = fits (st.key s k.index) k.serial && in_selected_set st s k.index

unfoldable pub unselect_call : ScriptState → SelNo → KeyId → Replied
unselect_call st s k =
    with_named_key st s k
    (if is_in_selected_set st.shared s.0 k
    then replied st reply.Yes (with_mark st.shared s.0 k.index (unselected (st.shared.mark s.0 k.index)))
    else unchanged st reply.No)

-- attaching gives the attachment before
unfoldable pub attach_call : ScriptState → SelNo → KeyId → ℕ → Replied
attach_call st s k att =
    with_named_key st s k
    (if fits (st.shared.key s.0 k.index) k.serial
    then replied st (reply.Number (st.shared.note s.0 k.index)) (with_note st.shared s.0 k.index att)
    else unchanged st (reply.Number 0))

unfoldable pub attachment_call : ScriptState → SelNo → KeyId → Replied
attachment_call st s k =
    with_named_key st s k
    (unchanged st (reply.Number (if fits (st.shared.key s.0 k.index) k.serial then st.shared.note s.0 k.index else 0)))
