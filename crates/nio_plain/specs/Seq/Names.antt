-- Names. A selector has to be made, a channel opened and a key published: with its serial, or before its number or
-- index was given to a later one.
use Rattle.std.specs.Prelude.{ℕ, zero, suc, ◌==◌, Bool, ◌&&◌, if◌then◌else◌, List, [], ◌∷◌, ◌++◌}
use Rattle.nio_base.specs.declared.numbers.ChanId.{ChanId}
use Rattle.nio_base.specs.declared.numbers.KeyId.{KeyId}
use Rattle.nio_base.specs.declared.numbers.SelNo.{SelNo}
use Rattle.nio_history.specs.Sets.{was_opened, was_published}
use Rattle.nio_history.specs.State.{State}
use Rattle.nio_language.specs.declared.reply.Reply.TheVariants as reply
use Rattle.nio_plain.specs.ScriptState.{ScriptState}
use Rattle.nio_plain.specs.Seq.Replies.{Replied, unchanged}

-- the numbers below n, in rising order
abbrev pub below : ℕ → List ℕ
below zero = []
below (suc n) = below n ++ n ∷ []

-- the present key of an index
abbrev pub key_at : State → ℕ → ℕ → KeyId
key_at st s i = record { index = i; serial = (st.key s i).serial }

-- two names of one key
abbrev pub is_same_key : KeyId → KeyId → Bool
is_same_key k m = (k.index == m.index) && (k.serial == m.serial)

abbrev pub with_named_channel : ScriptState → ChanId → Replied → Replied
with_named_channel st c done =
    if was_opened (st.shared.chan c.number.0) c.serial then done else unchanged st reply.NoChannel

abbrev pub with_named_selector : ScriptState → SelNo → Replied → Replied
with_named_selector st s done = if st.shared.selector s.0 then done else unchanged st reply.NoSelector

abbrev pub with_named_key : ScriptState → SelNo → KeyId → Replied → Replied
with_named_key st s k done =
    with_named_selector st s
    (if was_published (st.shared.key s.0 k.index) k.serial then done else unchanged st reply.NoKey)
