-- Laws of selections by a caller that has the selector's list: what holds after a call that made the steps of its plan.
use Rattle.std.specs.Prelude.{◌≡◌, ◌≢◌, ℕ, ◌+◌, ◌*◌, ◌/◌, ◌%◌, ◌<◌, ◌≤◌, ◌==◌, Bool, false, not, ◌&&◌, ◌||◌, Option, Some, Result, Ok, Err}
use Rattle.std.specs.Prelude.{List, [], ◌∷◌}
use Rattle.std.specs.Prelude.{◌++◌, length, map, count_by, is_some, IsTrue, IsFalse}
use Rattle.std.specs.List.{All}
use Rattle.nio_base.specs.declared.limits.Limits.{Limits}
use Rattle.nio_base.specs.declared.numbers.CallerNo.{CallerNo}
use Rattle.nio_base.specs.declared.numbers.SelNo.{SelNo}
use Rattle.nio_history.specs.Answers.{count_below}
use Rattle.nio_history.specs.Histories.{state_after, mine, event_of, IsLegal}
use Rattle.nio_history.specs.Lists.{index_found, takes_bit}
use Rattle.nio_history.specs.OwnEvents.{has, count, gives_turn}
use Rattle.nio_history.specs.Sets.{is_valid_key, was_published, was_cancelled, was_removed}
use Rattle.nio_history.specs.State.{State}
use Rattle.nio_history.specs.Turns.{removes_on}
use Rattle.nio_history.specs.declared.act.Act.{Act}
use Rattle.nio_history.specs.declared.act.Act.TheVariants.{BeginLook, LookKeys, LookTouched, Mark}
use Rattle.nio_history.specs.declared.event.Event.{Event}
use Rattle.nio_history.specs.declared.found.GateWord.{GateWord}
use Rattle.nio_history.specs.declared.found.Mark.{Mark as KeyMark}
use Rattle.nio_history.specs.declared.found.Mode.{Mode}
use Rattle.nio_steps.specs.Bound.{unselects}
use Rattle.nio_steps.specs.ChannelCalls.{words_below}
use Rattle.nio_steps.specs.KeyCalls.{has_bit}
use Rattle.nio_steps.specs.Laws.{HasEntry, MarksLookedKey}
use Rattle.nio_steps.specs.Lists.{IsListOf, KnowsList}
use Rattle.nio_steps.specs.Runs.{Completes}
use Rattle.nio_steps.specs.SelectCalls.{Selection, Begins, Poll, Tells, ToldReply, done, told_bits}
use Rattle.nio_steps.specs.Selections.{IsBegun}
use Rattle.nio_steps.specs.TableCalls.{TableCall, WaitCall, row_of, wait_row_of, try_begin, select}
use Rattle.nio_steps.specs.declared.looked.LookedKey.{LookedKey}
use Rattle.nio_steps.specs.declared.refusal.BeginError.{BeginError}
use Rattle.nio_steps.specs.declared.selected.Selected.{Selected}

-- ---- the list stays right

-- the caller takes the bit of an index, or looks there as a selection with the list does
abbrev pub lists_index : ℕ → ℕ → Act → Bool
lists_index s i act = takes_bit s i act || is_some (index_found s i act)

-- The list of a caller that did no such act on the selector is empty.
abbrev pub ListsAreEmptyAtFirst : Type 0
ListsAreEmptyAtFirst =
    (s : SelNo) (own : List Act) → ((i : ℕ) → IsFalse (has (lists_index s.0 i) own)) → IsListOf own s []

-- Acts that are no such acts leave it, so a caller may make other calls between two selections.
abbrev pub ListsStay : Type 0
ListsStay =
    (s : SelNo) (known : List LookedKey) (own acts : List Act) → IsListOf own s known
    → ((i : ℕ) → IsFalse (has (lists_index s.0 i) acts)) → IsListOf (own ++ acts) s known

-- A beginning takes the list on: its looked list is the list after it.
abbrev pub BeginningsList : Type 0
BeginningsList =
    (s : SelNo) (mode : Mode) (known : List LookedKey) (own acts : List Act) (selection : Selection)
    → IsListOf own s known → Begins s mode (Some known) acts (Ok selection)
    → IsListOf (own ++ acts) s selection.looked

-- A refusal leaves it.
abbrev pub RefusalsLeaveList : Type 0
RefusalsLeaveList =
    (s : SelNo) (mode : Mode) (known : Option (List LookedKey)) (acts : List Act) (refusal : BeginError)
    → Begins s mode known acts (Err refusal) → (i : ℕ) → IsFalse (has (lists_index s.0 i) acts)

-- So does each call but the beginning of a selection of that selector with the list.
abbrev pub OtherCallsLeaveList : Type 0
OtherCallsLeaveList =
    (l : Limits) (lacks : Bool) (call : TableCall) (acts : List Act) (answer : (row_of call).Reply) (s : SelNo) (i : ℕ)
    → ((mode : Mode) (known : List LookedKey) → call ≢ try_begin s mode (Some known))
    → Completes ((row_of call).plan l lacks) acts answer → IsFalse (has (lists_index s.0 i) acts)

-- So does each call that waits but a whole selection of that selector with the list.
abbrev pub WaitingCallsLeaveList : Type 0
WaitingCallsLeaveList =
    (l : Limits) (call : WaitCall) (acts : List Act) (answer : (wait_row_of call).Reply) (s : SelNo) (i : ℕ)
    → ((mode : Mode) (known : List LookedKey) (polls : List Poll) → call ≢ select s mode (Some known) polls)
    → (wait_row_of call).Shape l acts answer → IsFalse (has (lists_index s.0 i) acts)

-- ---- what is on the list

-- at a moment after `before` and within the later events the fact stood
pub record StoodThen (before later : List Event) (Fact : State → Type 0) : Type 0 where
  pub past : List Event
  pub rest : List Event
  pub parts : later ≡ past ++ rest
  pub stood : Fact (state_after (before ++ past))

-- the index of the key had it, and it was valid, a key of this channel
pub record WasValid (s : SelNo) (key : LookedKey) (st : State) : Type 0 where
  pub valid : IsTrue (is_valid_key (st.key s.0 key.index) key.serial)
  pub channel : (st.key s.0 key.index).chan ≡ key.channel

-- the index of the key had it, with this interest set
pub record HadInterest (s : SelNo) (key : LookedKey) (st : State) : Type 0 where
  pub serial : (st.key s.0 key.index).serial ≡ key.serial
  pub interest : st.interest s.0 key.index ≡ key.interest

-- A looked key stood so after the selection had begun and before the call returned: at a moment it was valid, with this
-- serial and channel, and at one it had this interest set.
pub record StoodSo (s : SelNo) (before later : List Event) (key : LookedKey) : Type 0 where
  pub valid : StoodThen before later (WasValid s key)
  pub interest : StoodThen before later (HadInterest s key)

-- Each looked key stood so. So each change whose step stands before the beginning counts, whether its call has returned
-- or not. `start` is the history before the call; what the caller did after it is this call, which begins to look by
-- the `begin_look` that stands after `opening`.
abbrev pub ListedKeysStood : Type 0
ListedKeysStood =
    (l : Limits) (n : CallerNo) (start opening later : List Event) (s : SelNo) (mode : Mode) (known : List LookedKey)
    (found : GateWord) (selection : Selection)
    → let before = start ++ (opening ++ event_of n (BeginLook s found) ∷ []) in
    IsLegal l (before ++ later) → KnowsList l n start s known
    → Begins s mode (Some known) (mine n (opening ++ event_of n (BeginLook s found) ∷ later)) (Ok selection)
    → All (StoodSo s before later) selection.looked

-- When a `told` of a selection with the list marks an index, the index has the key of the list, however old its entry
-- is. `begun` is the beginning, `start` the history before it, `before` the history before the `told`, and `past` what
-- stands before the mark.
abbrev pub MarksListedKeys : Type 0
MarksListedKeys =
    (l : Limits) (n : CallerNo) (start between past later : List Event) (selection : Selection) (known : List LookedKey)
    (poll : Poll) (answer : ToldReply) (s : SelNo) (i told : ℕ) (from : KeyMark) (found : Result (Unit {0}) KeyMark)
    → let before = start ++ between in
    let call = past ++ event_of n (Mark s i from told found) ∷ later in
    IsLegal l (before ++ call) → KnowsList l n start selection.selector known
    → (begun : IsBegun (mine n before) selection) → begun.earlier ≡ mine n start → begun.known ≡ Some known
    → Tells selection poll (mine n call) answer
    → MarksLookedKey (state_after (before ++ past)) selection poll.pairs s i told

-- A key was published and cancelled before a beginning with the list that answers Ok, and its index is below the
-- selection's bound. Then the key is removed when the call returns, and it isn't among the looked keys. `before` is the
-- history before the call; what the caller did after it is this call.
abbrev pub CancelledListedKeysGo : Type 0
CancelledListedKeysGo =
    (l : Limits) (n : CallerNo) (before later : List Event) (s : SelNo) (mode : Mode) (known : List LookedKey)
    (selection : Selection) (i serial : ℕ)
    → IsLegal l (before ++ later) → KnowsList l n before s known
    → Begins s mode (Some known) (mine n later) (Ok selection)
    → IsTrue (was_published ((state_after before).key s.0 i) serial)
    → IsTrue (was_cancelled ((state_after before).key s.0 i) serial)
    → i < selection.bound
    → IsTrue (was_removed ((state_after (before ++ later)).key s.0 i) serial)
    × All (λ entry. ¬ ((entry.index ≡ i) × (entry.serial ≡ serial))) selection.looked

-- A key was published before a beginning with the list that answers Ok, its index is below the selection's bound, and it
-- is valid when the call returns, so it was valid all the while. Then it is among the looked keys. `before` is the
-- history before the call; what the caller did after it is this call.
abbrev pub ValidKeysAreListed : Type 0
ValidKeysAreListed =
    (l : Limits) (n : CallerNo) (before later : List Event) (s : SelNo) (mode : Mode) (known : List LookedKey)
    (selection : Selection) (i serial : ℕ)
    → IsLegal l (before ++ later) → KnowsList l n before s known
    → Begins s mode (Some known) (mine n later) (Ok selection)
    → IsTrue (was_published ((state_after before).key s.0 i) serial)
    → IsTrue (is_valid_key ((state_after (before ++ later)).key s.0 i) serial)
    → i < selection.bound
    → HasEntry selection.looked i serial

-- A `told` that ends a selection with the list looks at the selector's high-water mark. When it returns, each key that
-- was published and cancelled before that look, at an index below the high-water mark, is removed: also one that was
-- registered since the selection began. `before` is the history before the call; what the caller did after it is this
-- call, and `looked` is what stands before the look.
abbrev pub CancelledListedKeysGoAtEnd : Type 0
CancelledListedKeysGoAtEnd =
    (l : Limits) (n : CallerNo) (before looked later : List Event) (selection : Selection) (poll : Poll)
    (answer : Selected) (mark i serial : ℕ)
    → let s = selection.selector in
    let call = looked ++ event_of n (LookKeys s mark) ∷ later in
    IsLegal l (before ++ call) → IsBegun (mine n before) selection → IsTrue selection.listed
    → KnowsList l n before s selection.looked → Tells selection poll (mine n call) (done answer)
    → IsTrue (was_published ((state_after (before ++ looked)).key s.0 i) serial)
    → IsTrue (was_cancelled ((state_after (before ++ looked)).key s.0 i) serial)
    → i < mark
    → IsTrue (was_removed ((state_after (before ++ call)).key s.0 i) serial)

-- ---- the bound

-- it found that index k of selector s is touched
abbrev pub finds_touched : ℕ → ℕ → Act → Bool
finds_touched s k (LookTouched s' j found) = (s'.0 == s) && (j == k / 64) && has_bit found (k % 64)
finds_touched s k _ = false

-- how many indexes of the first words these acts took, and how many they found touched
abbrev pub count_taken : SelNo → ℕ → List Act → ℕ
count_taken s words acts = count_below (64 * words) (λ k. has (takes_bit s.0 k) acts)

abbrev pub count_touched : SelNo → ℕ → List Act → ℕ
count_touched s words acts = count_below (64 * words) (λ k. has (finds_touched s.0 k) acts)

-- how many looked keys the poller told something of
abbrev pub count_told : Selection → Poll → ℕ
count_told selection poll = count_by (λ entry. not (told_bits poll.pairs entry == 0)) selection.looked

-- The acts of a whole selection by the selector's list: `first` to `second` are its beginning, and `third` to `fourth`
-- the `told` that ends it. Between the two the caller doesn't give the turn back and removes no key.
pub record IsWholeListed (known : List LookedKey) (selection : Selection) (poll : Poll) (answer : Selected)
    (found : GateWord) (mark : ℕ) (first second between third fourth : List Act) : Type 0 where
  pub begins : Begins selection.selector selection.mode (Some known) (first ++ BeginLook selection.selector found ∷ second)
      (Ok selection)
  pub tells : Tells selection poll (third ++ LookKeys selection.selector mark ∷ fourth) (done answer)
  pub kept : has (gives_turn selection.selector.0) between ≡ false
  pub unremoved : has (removes_on selection.selector.0) between ≡ false

-- It makes at most 9 steps, two for each 64 indexes below its bound and one for each 64 below the mark at its end, 4 for
-- each index whose bit it took, 3 for each that it found touched at its end, 2 for each looked key that it was told of,
-- and one for each time that anybody takes a key out of the selected set between its first look at the gate with the
-- turn and its look at the mark. `start` is the history before the selection began, and `opening` what stands between
-- that and its first look at the gate with the turn.
abbrev pub ListedSelectionIsBounded : Type 0
ListedSelectionIsBounded =
    (l : Limits) (n : CallerNo) (start opening window rest : List Event) (known : List LookedKey)
    (selection : Selection) (poll : Poll) (answer : Selected) (found : GateWord) (mark : ℕ)
    (first second between third fourth : List Act)
    → let s = selection.selector in
    let past = start ++ opening in
    let words = words_below selection.bound in
    let words_at_end = words_below mark in
    IsLegal l (past ++ event_of n (BeginLook s found) ∷ (window ++ event_of n (LookKeys s mark) ∷ rest))
    → KnowsList l n start s known → mine n opening ≡ first → mine n window ≡ second ++ (between ++ third)
    → IsWholeListed known selection poll answer found mark first second between third fourth
    → length (first ++ BeginLook s found ∷ second) + length (third ++ LookKeys s mark ∷ fourth)
    ≤ 9 + 2 * words + words_at_end + 4 * count_taken s words second + 3 * count_touched s words_at_end fourth
    + 2 * count_told selection poll + count (unselects s.0 l.keys) (map (λ e. e.act) window)
