-- Closing a selector, in two parts. From the first on selections and registrations are refused, and
-- a selection in progress ends; the second, once no caller selects, removes every key. Closing
-- again changes nothing.
use Rattle.std.specs.Prelude.{ℕ, false, true, not, ◌||◌, if◌then◌else◌, Some, is_some}
use Rattle.nio_base.specs.declared.numbers.CallerNo.{CallerNo}
use Rattle.nio_base.specs.declared.numbers.SelNo.{SelNo}
use Rattle.nio_history.specs.State.{State, with_gate, with_closer, with_entered}
use Rattle.nio_language.specs.declared.reply.Reply.TheVariants as reply
use Rattle.nio_plain.specs.ScriptState.{ScriptState}
use Rattle.nio_plain.specs.Seq.Replies.{Replied, unchanged, replied}
use Rattle.nio_plain.specs.Seq.Names.{with_named_selector}
use Rattle.nio_plain.specs.Seq.Removing.{without_keys_where}
use Rattle.nio_plain.specs.Seq.Selections.{is_caller}

unfoldable pub close_call : ScriptState → CallerNo → SelNo → Replied
close_call st me s =
    let gate = st.shared.gate s.0 in
    with_named_selector st s
    (if gate.shut then unchanged st reply.Already
    else
    replied st reply.Closing
    (with_closer (with_gate st.shared s.0 (record gate { shut = true })) s.0 (Some me)))

-- every index that is claimed in the selector is removed, and none becomes free
abbrev pub without_keys : State → ℕ → State
without_keys st s = without_keys_where st s (λ i. (st.key s i).claimed) (λ _. false)

unfoldable pub close_end_call : ScriptState → CallerNo → SelNo → Replied
close_end_call st me s =
    with_named_selector st s
    (if not (is_caller me (st.shared.closer s.0)) || st.shared.entered s.0 then unchanged st reply.NotClosing
    else if is_some (st.shared.turn s.0) then unchanged st reply.Busy
    else replied st reply.Closed (with_entered (without_keys st.shared s.0) s.0 true))
