-- The laws of calls that don't overlap.
use Rattle.std.specs.Prelude.{◌≡◌, ℕ, Bool, true, Option, Some, List, ◌++◌, map, IsTrue}
use Rattle.std.specs.List.{All}
use Rattle.nio_base.specs.Limits.{IsFit}
use Rattle.nio_base.specs.declared.limits.Limits.{Limits}
use Rattle.nio_base.specs.declared.numbers.CallerNo.{CallerNo}
use Rattle.nio_base.specs.declared.numbers.ChanId.{ChanId}
use Rattle.nio_base.specs.declared.numbers.KeyId.{KeyId}
use Rattle.nio_base.specs.declared.numbers.SelNo.{SelNo}
use Rattle.nio_history.specs.Conditions.{IsCaller}
use Rattle.nio_history.specs.Histories.{state_after, event_of, IsLegal}
use Rattle.nio_history.specs.PassViews.{PassView, known}
use Rattle.nio_history.specs.Sets.{was_opened, was_published}
use Rattle.nio_history.specs.State.{State, opening, with_drawn}
use Rattle.nio_history.specs.declared.act.Act.{Act}
use Rattle.nio_history.specs.declared.event.Event.{Event}
use Rattle.nio_history.specs.declared.found.Mode.{Mode}
use Rattle.nio_language.specs.WordRows.{EachName, word_row}
use Rattle.nio_language.specs.declared.call.Call.{Call}
use Rattle.nio_language.specs.declared.call.Call.TheVariants as call
use Rattle.nio_language.specs.declared.word_row.LineName.{LineName}
use Rattle.nio_language.specs.declared.word_row.LineName.TheVariants.{Caller, Selector, Channel, Key}
use Rattle.nio_plain.specs.Seq.{call_of, seq}
use Rattle.nio_plain.specs.Seq.Replies.{Replied}
use Rattle.nio_plain.specs.declared.rules.Rules.TheVariants.{Now}
use Rattle.nio_steps.specs.Calls.{CallClause}
use Rattle.nio_steps.specs.Perform.{perform}
use Rattle.nio_steps.specs.Runs.{Completes}
use Rattle.nio_steps.specs.SelectCalls.{Selection, told_at, told_plan, try_begin_plan, keys_plan, selected_keys_plan}
use Rattle.nio_steps.specs.SelectCalls.{ToldReply}
use Rattle.nio_steps.specs.declared.looked.LookedKey.{LookedKey}
use Rattle.nio_serial.specs.Between.{IsBetween, IsWholePipe}
use Rattle.nio_serial.specs.Documented.{Progress, nothing_yet, looked_pair, documented, amounts}
use Rattle.nio_serial.specs.Lines.{Said, comes_to, own_selection, after_told, call_plan, line_plan}
use Rattle.nio_serial.specs.Replies.{told_reply}

-- ---- the names of a call

abbrev pub IsMadeSelector : State → SelNo → Type 0
IsMadeSelector st s = IsTrue (st.selector s.0)

abbrev pub IsMadeChannel : State → ChanId → Type 0
IsMadeChannel st c = IsTrue (was_opened (st.chan c.number.0) c.serial)

abbrev pub IsMadeKey : State → SelNo → KeyId → Type 0
IsMadeKey st s k = IsMadeSelector st s × IsTrue (was_published (st.key s.0 k.index) k.serial)

-- what is named is there: a selector is made, a channel was opened, a key was published, a caller may be drawn
abbrev pub IsThere : Limits → State → LineName → Type 0
IsThere l st (Caller n) = IsCaller l n
IsThere l st (Selector s) = IsMadeSelector st s
IsThere l st (Channel c) = IsMadeChannel st c
IsThere l st (Key s k) = IsMadeKey st s k

abbrev pub IsNamed : Limits → State → Call → Type 0
IsNamed l st word = EachName (IsThere l st) (word_row word).names

-- ---- the laws

-- the steps of a call that nobody comes between amount to the documented call
abbrev pub CallsAmount : Type 0
CallsAmount = (l : Limits) (st : State) (now : Progress) (me : CallerNo) (word : Call)
    → IsBetween l st now → IsNamed l st word
    → call_of Now l (documented st now) me word ≡ comes_to (perform me (call_plan l now me word) st)

-- the told pairs of a selection, each looked key with what was told of its index
abbrev pub by_key : Selection → List (ℕ × ℕ) → List (KeyId × ℕ)
by_key x told = map (λ entry. ((looked_pair entry).0, told_at told entry.index)) x.looked

-- A `told` gives what the poller told by index: it amounts to the documented call that names the looked keys.
abbrev pub ToldAmounts : Type 0
ToldAmounts =
    (l : Limits) (st : State) (now : Progress) (me : CallerNo) (s : SelNo) (x : Selection) (told : List (ℕ × ℕ))
    (elapsed : Bool)
    → IsBetween l st now → IsMadeSelector st s → own_selection now me s ≡ Some x
    → call_of Now l (documented st now) me (call.Told s elapsed (by_key x told))
    ≡ amounts told_reply (after_told now s) (perform me (told_plan x told elapsed) st)

-- so do those of a line with its look-ups
abbrev pub LinesAmount : Type 0
LinesAmount = (l : Limits) (st : State) (now : Progress) (me : CallerNo) (word : Call)
    → IsFit l → IsBetween l st now
    → seq Now l (documented st now) me word ≡ comes_to (perform me (line_plan l now me word) st)

-- Between two calls it stands so: at the beginning, after a draw, after each call, and after each line.

abbrev pub BeginsBetween : Type 0
BeginsBetween = (l : Limits) → IsBetween l opening nothing_yet

abbrev pub DrawsStayBetween : Type 0
DrawsStayBetween = (l : Limits) (st : State) (now : Progress) (n : CallerNo)
    → IsBetween l st now → IsBetween l (with_drawn st n.0 true) now

abbrev pub CallsStayBetween : Type 0
CallsStayBetween = (l : Limits) (st : State) (now : Progress) (me : CallerNo) (word : Call)
    → IsFit l → IsCaller l me → IsBetween l st now → IsNamed l st word
    → let done = perform me (call_plan l now me word) st in
    IsBetween l done.state done.answer.left

abbrev pub ToldStaysBetween : Type 0
ToldStaysBetween =
    (l : Limits) (st : State) (now : Progress) (me : CallerNo) (s : SelNo) (x : Selection) (told : List (ℕ × ℕ))
    (elapsed : Bool)
    → IsCaller l me → IsBetween l st now → IsMadeSelector st s → own_selection now me s ≡ Some x
    → let done = perform me (told_plan x told elapsed) st in
    IsBetween l done.state (after_told now s done.answer)

abbrev pub LinesStayBetween : Type 0
LinesStayBetween = (l : Limits) (st : State) (now : Progress) (me : CallerNo) (word : Call)
    → IsFit l → IsBetween l st now
    → let done = perform me (line_plan l now me word) st in
    IsBetween l done.state done.answer.left

-- so that each pipe is whole
abbrev pub PipesAreWhole : Type 0
PipesAreWhole =
    (l : Limits) (st : State) (now : Progress) → IsBetween l st now → All (IsWholePipe st.chan) now.pipes

-- A call for which there is no memory leaves the state as it was: it has no reply, and nothing is in progress by it. So
-- does a beginning, with the list or without it.
pub record LacksOnlyMemory (me : CallerNo) (s : SelNo) (mode : Mode) (known : Option (List LookedKey)) (st : State)
    : Type 0 where
  pub begins : (perform me (try_begin_plan s mode known true) st).state ≡ st
  pub keys : (perform me (keys_plan s true) st).state ≡ st
  pub selected : (perform me (selected_keys_plan s true) st).state ≡ st

abbrev pub LackingLeaves : Type 0
LackingLeaves =
    (l : Limits) (st : State) (now : Progress) (me : CallerNo) (s : SelNo) (mode : Mode)
    (known : Option (List LookedKey)) → IsBetween l st now
    → LacksOnlyMemory me s mode known st

-- ---- the same of histories

-- What a call comes to in a history, where `answer` is the documented one: it has that reply, and leaves
-- the state of that call, between two calls again.
pub record Amounts (l : Limits) (answer : Replied) (after : List Event) (said : Said) : Type 0 where
  pub replied : answer ≡ record { reply = said.reply; left = documented (state_after after) said.left }
  pub between : IsBetween l (state_after after) said.left

-- a run of a call that is legal after a history, with no event of another caller between
abbrev pub CallRunsAmount : Type 0
CallRunsAmount =
    (l : Limits) (now : Progress) (me : CallerNo) (word : Call) (past : List Event) (acts : List Act) (said : Said)
    → IsFit l → IsCaller l me → IsBetween l (state_after past) now → IsNamed l (state_after past) word
    → IsLegal l (past ++ map (event_of me) acts) → Completes (call_plan l now me word) acts said
    → Amounts l (call_of Now l (documented (state_after past) now) me word) (past ++ map (event_of me) acts) said

-- the same of a `told` by index
abbrev pub ToldRunsAmount : Type 0
ToldRunsAmount =
    (l : Limits) (now : Progress) (me : CallerNo) (s : SelNo) (x : Selection) (told : List (ℕ × ℕ)) (elapsed : Bool)
    (past : List Event) (acts : List Act) (answer : ToldReply)
    → IsCaller l me → IsBetween l (state_after past) now → IsMadeSelector (state_after past) s
    → own_selection now me s ≡ Some x
    → IsLegal l (past ++ map (event_of me) acts) → Completes (told_plan x told elapsed) acts answer
    → Amounts l (call_of Now l (documented (state_after past) now) me (call.Told s elapsed (by_key x told)))
    (past ++ map (event_of me) acts)
    (record { reply = told_reply answer; left = after_told now s answer })

-- the same of a line
abbrev pub LineRunsAmount : Type 0
LineRunsAmount =
    (l : Limits) (now : Progress) (me : CallerNo) (word : Call) (past : List Event) (acts : List Act) (said : Said)
    → IsFit l → IsBetween l (state_after past) now
    → IsLegal l (past ++ map (event_of me) acts) → Completes (line_plan l now me word) acts said
    → Amounts l (seq Now l (documented (state_after past) now) me word) (past ++ map (event_of me) acts) said

-- and of the only pass of a table, on which the line was made
abbrev pub PassLinesAmount : Type 0
PassLinesAmount = (now : Progress) (me : CallerNo) (word : Call) (old new : PassView) (said : Said)
    → IsFit old.limits → IsTrue old.only → IsBetween old.limits (known old) now
    → CallClause me (Completes (line_plan old.limits now me word)) old new said
    → Amounts old.limits (seq Now old.limits (documented (known old) now) me word) new.seen said
