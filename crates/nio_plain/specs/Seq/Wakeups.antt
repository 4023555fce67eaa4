-- Wakeups and interrupts. A wakeup stays until a `told` ends a selection of its selector; a failed poll
-- leaves it; several act as one. Telling the own interrupt status clears it.
use Rattle.std.specs.Prelude.{nat_lt, true, false, if◌then◌else◌}
use Rattle.nio_base.specs.declared.limits.Limits.{Limits}
use Rattle.nio_base.specs.declared.numbers.CallerNo.{CallerNo}
use Rattle.nio_base.specs.declared.numbers.SelNo.{SelNo}
use Rattle.nio_history.specs.State.{with_interrupted, with_gate}
use Rattle.nio_language.specs.declared.reply.Reply.TheVariants as reply
use Rattle.nio_plain.specs.ScriptState.{ScriptState}
use Rattle.nio_plain.specs.Seq.Replies.{Replied, unchanged, replied, yes_or_no}
use Rattle.nio_plain.specs.Seq.Names.{with_named_selector}

unfoldable pub wakeup_call : ScriptState → SelNo → Replied
wakeup_call st s =
    with_named_selector st s
    (replied st reply.«Ok» (with_gate st.shared s.0 (record (st.shared.gate s.0) { woken = true })))

unfoldable pub interrupt_call : Limits → ScriptState → CallerNo → Replied
interrupt_call l st target =
    if nat_lt target.0 l.callers then replied st reply.«Ok» (with_interrupted st.shared target.0 true)
    else unchanged st reply.NoCaller

unfoldable pub interrupted_call : ScriptState → CallerNo → Replied
interrupted_call st me =
    replied st (yes_or_no (st.shared.interrupted me.0)) (with_interrupted st.shared me.0 false)
