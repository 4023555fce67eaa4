-- Selections: how one begins, what it is told, and how it ends.
use Rattle.std.specs.Prelude.{ℕ, ◌==◌, Bool, true, false, not, ◌&&◌, ◌||◌, if◌then◌else◌}
use Rattle.std.specs.Prelude.{Option, Some, None, is_some, List, [], ◌∷◌, map, filter, count_by, bit_and, bit_or}
use Rattle.std.specs.List.{list_any}
use Rattle.std.specs.Result.{result_ok}
use Rattle.nio_base.specs.declared.numbers.CallerNo.{CallerNo}
use Rattle.nio_base.specs.declared.numbers.KeyId.{KeyId}
use Rattle.nio_base.specs.declared.numbers.SelNo.{SelNo}
use Rattle.nio_history.specs.Sets.{in_key_set, in_cancelled_set}
use Rattle.nio_history.specs.State.{State, with_gate, with_turn, with_begun}
use Rattle.nio_history.specs.Timeout.{mode_for}
use Rattle.nio_history.specs.declared.found.GateWord.{GateWord}
use Rattle.nio_history.specs.declared.found.Mark.{Mark}
use Rattle.nio_history.specs.declared.found.Mode.{Mode}
use Rattle.nio_history.specs.declared.found.Mode.TheVariants as mode
use Rattle.nio_history.specs.declared.why.Why.{Why}
use Rattle.nio_history.specs.declared.why.Why.TheVariants as why
use Rattle.nio_language.specs.declared.call.Waiting.{Waiting}
use Rattle.nio_language.specs.declared.call.Waiting.TheVariants as waiting
use Rattle.nio_language.specs.declared.reply.Reply.TheVariants as reply
use Rattle.nio_plain.specs.ScriptState.{ScriptState, Selection, with_shared, with_selection}
use Rattle.nio_plain.specs.Seq.Replies.{Replied, unchanged}
use Rattle.nio_plain.specs.Seq.Names.{below, key_at, is_same_key, with_named_selector}
use Rattle.nio_plain.specs.Seq.Removing.{comes_back, without_keys_where}
use Rattle.nio_plain.specs.declared.rules.Rules.{Rules}
use Rattle.nio_plain.specs.declared.rules.Rules.TheVariants.{First, Now}

-- A SELECTION, STEP 1. Each cancelled key is removed from every set, and the selection looks at each
-- key that is left, with its interest. One caller selects on a selector at a time.

-- the cancelled set of the selector is removed
abbrev pub without_cancelled : Rules → State → ℕ → State
without_cancelled rules st s = without_keys_where st s (λ i. in_cancelled_set (st.key s i)) (comes_back rules)

-- the key set with its interests, in rising order of the indexes
abbrev pub looked_keys : State → ℕ → List (KeyId × ℕ)
looked_keys st s =
    map (λ i. (key_at st s i, st.interest s i)) (filter (λ i. in_key_set (st.key s i)) (below (st.keys_high s)))

-- how long a line's selection waits: a negative time is refused
abbrev pub mode_of : Waiting → Option Mode
mode_of waiting.Now = Some mode.Now
mode_of waiting.Wait = Some mode.Wait
mode_of (waiting.For ms) = result_ok (mode_for ms)

abbrev pub selection_begun : Rules → ScriptState → CallerNo → ℕ → Mode → Replied
selection_begun rules st me s how =
    let swept = without_cancelled rules st.shared s in
    let looked = looked_keys swept s in
    record {
      reply = reply.Looked looked;
      left =
          with_selection (with_shared st (with_begun (with_turn swept s (Some me)) s true)) s
          (Some (record { mode = how; bound = st.shared.keys_high s; looked = looked }));
    }

abbrev pub begun_with : Rules → ScriptState → CallerNo → ℕ → Option Mode → Replied
begun_with rules st me s None = unchanged st reply.NegativeTimeout
begun_with rules st me s (Some how) =
    if (st.shared.gate s).shut then unchanged st reply.ClosedSelector
    else if is_some (st.shared.turn s) then unchanged st reply.Busy
    else selection_begun rules st me s how

unfoldable pub begin_call : Rules → ScriptState → CallerNo → SelNo → Waiting → Replied
begin_call rules st me s waiting =
    with_named_selector st s (begun_with rules st me s.0 (mode_of waiting))

-- A SELECTION, STEP 2. A key that isn't in the selected set is added to it, and its ready set becomes
-- exactly what was told of the interest looked at. For a key of the selected set the told bits are
-- united with its ready set. The reply counts the keys that were added or gained a bit.

-- all that the poller told of a key
abbrev pub all_told : List (KeyId × ℕ) → KeyId → ℕ
all_told [] k = 0
all_told (p ∷ pairs) k = bit_or (if is_same_key p.0 k then p.1 else 0) (all_told pairs k)

-- the interest of a key in the looked list, and none where it isn't there
abbrev pub looked_interest : List (KeyId × ℕ) → KeyId → ℕ
looked_interest [] k = 0
looked_interest (p ∷ looked) k = if is_same_key p.0 k then p.1 else looked_interest looked k

-- the told bits of a key: what the poller told of it, of what the selection looked for there
abbrev pub told_bits : List (KeyId × ℕ) → List (KeyId × ℕ) → KeyId → ℕ
told_bits looked pairs k = bit_and (all_told pairs k) (looked_interest looked k)

abbrev pub marked : Mark → ℕ → Mark
marked m bits =
    if bits == 0 then m
    else if m.selected then record m { ready = bit_or m.ready bits }
    else record { selected = true; ready = bits }

abbrev pub is_updated : Mark → ℕ → Bool
is_updated m bits = not (bits == 0) && (not m.selected || not (bit_or m.ready bits == m.ready))

abbrev pub updated_count : State → ℕ → List (KeyId × ℕ) → List (KeyId × ℕ) → ℕ
updated_count st s looked pairs =
    count_by (λ p. is_updated (st.mark s p.0.index) (told_bits looked pairs p.0)) looked

abbrev pub with_marks : State → ℕ → List (KeyId × ℕ) → List (KeyId × ℕ) → State
with_marks st s looked pairs = record st {
  mark = λ t i. if t == s then marked (st.mark t i) (told_bits looked pairs (key_at st t i)) else st.mark t i;
}

-- THE END OF A SELECTION. It goes on where it waits, no key was updated, and neither a wakeup, a
-- closing, an interrupt nor the end of its time is there. Else the cancelled set is removed (step 3), the wakeup is
-- used up and the turn is given back.

abbrev pub goes_on : Mode → Bool → Bool
goes_on mode.Now elapsed = false
goes_on mode.Wait elapsed = true
goes_on (mode.For _) elapsed = not elapsed

abbrev pub is_now : Mode → Bool
is_now mode.Now = true
is_now mode.Wait = false
is_now (mode.For _) = false

-- whether it goes on
abbrev pub is_again : GateWord → Bool → Mode → Bool → ℕ → Bool
is_again gate interrupted how elapsed count =
    (count == 0) && goes_on how elapsed && not gate.woken && not gate.shut && not interrupted

-- why it ended: the first that holds
abbrev pub why_ended : GateWord → Bool → Mode → ℕ → Why
why_ended gate interrupted how count =
    if not (count == 0) then why.Ready
    else if gate.shut then why.Closed
    else if is_now how then why.Now
    else if gate.woken then why.Woken
    else if interrupted then why.Interrupted
    else why.Elapsed

-- the selection looks at the key
abbrev pub is_looked : List (KeyId × ℕ) → KeyId → Bool
is_looked looked k = list_any (λ p. is_same_key p.0 k) looked

-- THE TWO RULES DIFFER HERE: under the rules of now the end of a selection removes the whole cancelled set; under the
-- first rules it removes of that set the keys that the selection looked at, and a key that was registered and cancelled
-- meanwhile stays.
abbrev pub goes_at_end : Rules → List (KeyId × ℕ) → KeyId → Bool
goes_at_end First looked k = is_looked looked k
goes_at_end Now looked k = true

abbrev pub without_ended : Rules → State → ℕ → List (KeyId × ℕ) → State
without_ended rules st s looked =
    without_keys_where st s (λ i. goes_at_end rules looked (key_at st s i) && in_cancelled_set (st.key s i))
    (comes_back rules)

abbrev pub selection_ended : Rules → State → ℕ → Selection → List (KeyId × ℕ) → State
selection_ended rules st s selection pairs =
    let swept = without_ended rules (with_marks st s selection.looked pairs) s selection.looked in
    let slept = with_gate swept s (record (st.gate s) { woken = false }) in
    with_begun (with_turn slept s None) s false

abbrev pub told_selection : Rules → ScriptState → CallerNo → ℕ → List (KeyId × ℕ) → Bool → Option Selection → Replied
told_selection rules st me s pairs elapsed None = unchanged st reply.NotSelecting
told_selection rules st me s pairs elapsed (Some selection) =
    let count = updated_count st.shared s selection.looked pairs in
    let gate = st.shared.gate s in
    let interrupted = st.shared.interrupted me.0 in
    if is_again gate interrupted selection.mode elapsed count then unchanged st reply.Again
    else record {
      reply = reply.Selected count (why_ended gate interrupted selection.mode count);
      left = with_selection (with_shared st (selection_ended rules st.shared s selection pairs)) s None;
    }

abbrev pub is_caller : CallerNo → Option CallerNo → Bool
is_caller me None = false
is_caller me (Some other) = other.0 == me.0

-- the caller's own selection on the selector
abbrev pub own_selection : ScriptState → CallerNo → ℕ → Option Selection
own_selection st me s = if is_caller me (st.shared.turn s) then st.selection s else None

unfoldable pub told_call : Rules → ScriptState → CallerNo → SelNo → Bool → List (KeyId × ℕ) → Replied
told_call rules st me s elapsed pairs =
    with_named_selector st s (told_selection rules st me s.0 pairs elapsed (own_selection st me s.0))

-- after a failed poll the selection is over, and nothing else changes: a pending wakeup stays

abbrev pub left_selection : ScriptState → ℕ → Option Selection → Replied
left_selection st s None = unchanged st reply.NotSelecting
left_selection st s (Some selection) = record {
  reply = reply.Left;
  left = with_selection (with_shared st (with_begun (with_turn st.shared s None) s false)) s None;
}

unfoldable pub failed_call : ScriptState → CallerNo → SelNo → Replied
failed_call st me s = with_named_selector st s (left_selection st s.0 (own_selection st me s.0))
