-- The sets of a selector, in rising order of the indexes
use Rattle.std.specs.Prelude.{ℕ, Bool, if◌then◌else◌, List, [], ◌∷◌, filter, map}
use Rattle.nio_base.specs.declared.numbers.KeyId.{KeyId}
use Rattle.nio_base.specs.declared.numbers.SelNo.{SelNo}
use Rattle.nio_history.specs.Sets.{in_key_set, in_selected_set}
use Rattle.nio_language.specs.declared.reply.Reply.{Reply}
use Rattle.nio_language.specs.declared.reply.Reply.TheVariants as reply
use Rattle.nio_plain.specs.ScriptState.{ScriptState}
use Rattle.nio_plain.specs.Seq.Replies.{Replied, unchanged}
use Rattle.nio_plain.specs.Seq.Names.{below, key_at, with_named_selector}

abbrev pub names_or_none : List KeyId → Reply
names_or_none [] = reply.None
names_or_none (k ∷ ks) = reply.Names (k ∷ ks)

abbrev pub listed : ScriptState → SelNo → (ℕ → Bool) → Replied
listed st s in_set =
    with_named_selector st s
    (if (st.shared.gate s.0).shut then unchanged st reply.ClosedSelector
    else unchanged st (names_or_none (map (key_at st.shared s.0) (filter in_set (below (st.shared.keys_high s.0))))))

unfoldable pub keys_call : ScriptState → SelNo → Replied
keys_call st s = listed st s (λ i. in_key_set (st.shared.key s.0 i))

unfoldable pub selected_call : ScriptState → SelNo → Replied
selected_call st s = listed st s (λ i. in_selected_set st.shared s.0 i)
