-- Laws of the plans: what holds after a call that made the steps of its plan.
use Rattle.std.specs.Prelude.{◌≡◌, ℕ, ◌==◌, ◌<◌, Bool, false, not, Option, Some, None, Result, Ok, List, ◌∷◌, ◌++◌}
use Rattle.std.specs.Prelude.{map, IsTrue, IsFalse}
use Rattle.std.specs.List.{All, AllPairs, Contains}
use Rattle.nio_base.specs.declared.limits.Limits.{Limits}
use Rattle.nio_base.specs.declared.numbers.CallerNo.{CallerNo}
use Rattle.nio_base.specs.declared.numbers.SelNo.{SelNo}
use Rattle.nio_history.specs.Conditions.{has_begun, is_closer}
use Rattle.nio_history.specs.Histories.{state_after, mine, event_of, IsLegal}
use Rattle.nio_history.specs.OwnEvents.{has, count, gives_turn}
use Rattle.nio_history.specs.Sets.{is_in_key_set, is_valid, is_valid_key, was_claimed, was_published, was_cancelled}
use Rattle.nio_history.specs.Sets.{was_removed}
use Rattle.nio_history.specs.State.{State}
use Rattle.nio_history.specs.Turns.{removes_on}
use Rattle.nio_history.specs.declared.act.Act.{Act}
use Rattle.nio_history.specs.declared.act.Act.TheVariants.{LookKey, LookInterest, LookKeys, Mark}
use Rattle.nio_history.specs.declared.event.Event.{Event}
use Rattle.nio_history.specs.declared.found.Mark.{Mark as KeyMark}
use Rattle.nio_history.specs.declared.found.Mode.{Mode}
use Rattle.nio_history.specs.declared.found.Stage.{Stage}
use Rattle.nio_steps.specs.Perform.{perform}
use Rattle.nio_steps.specs.Plan.{Plan}
use Rattle.nio_steps.specs.Runs.{Completes}
use Rattle.nio_steps.specs.SelectCalls.{Selection, Begins, Poll, Tells, ToldReply, done, again, told_bits, closed}
use Rattle.nio_steps.specs.SelectCalls.{try_finish_plan}
use Rattle.nio_steps.specs.Selections.{marks_on, IsBegun, IsClosing}
use Rattle.nio_steps.specs.TableCalls.{TableCall, row_of}
use Rattle.nio_steps.specs.declared.looked.LookedKey.{LookedKey}
use Rattle.nio_steps.specs.declared.selected.Selected.{Selected}

-- The caller makes all steps of a plan after a history, no other caller makes a step between them, and the whole is
-- legal. Then the answer, and the state after it, are those of `perform`, which carries the plan out on the state after
-- the history.
abbrev pub RunsArePerformed : Type 0 → Type 0
RunsArePerformed R =
    (l : Limits) (me : CallerNo) (plan : Plan R) (past : List Event) (acts : List Act) (answer : R)
    → IsLegal l (past ++ map (event_of me) acts) → Completes plan acts answer
    → perform me plan (state_after past) ≡ record {
      answer = answer;
      state = state_after (past ++ map (event_of me) acts);
    }

-- ---- selections

-- After a `try_begin` that answers Ok, the selection in its answer has begun.
abbrev pub BeginsSelection : Type 0
BeginsSelection =
    (s : SelNo) (mode : Mode) (known : Option (List LookedKey)) (own acts : List Act) (selection : Selection)
    → Begins s mode known acts (Ok selection) → IsBegun (own ++ acts) selection

-- The indexes of the looked keys rise, so none stands there twice, and each is below the bound.
pub record IsInOrder (selection : Selection) : Type 0 where
  pub rise : AllPairs (λ x y. x.index < y.index) selection.looked
  pub below : All (λ entry. entry.index < selection.bound) selection.looked

-- The looked list of a selection without the list is in this order when it has begun.
abbrev pub LooksInOrder : Type 0
LooksInOrder =
    (s : SelNo) (mode : Mode) (acts : List Act) (selection : Selection)
    → Begins s mode None acts (Ok selection) → IsInOrder selection

-- Among these acts are a look at the key's index that found the key valid, with the serial and the channel of the
-- entry, and a look that found the entry's interest set.
pub record IsLookedAt (s : SelNo) (acts : List Act) (entry : LookedKey) : Type 0 where
  pub stage : Stage
  pub look : Contains acts (LookKey s entry.index stage)
  pub valid : IsTrue (is_valid stage)
  pub serial : stage.serial ≡ entry.serial
  pub channel : stage.chan ≡ entry.channel
  pub interest : Contains acts (LookInterest s entry.index entry.interest)

-- The call that begins a selection without the list looked so at each of its looked keys.
abbrev pub LooksAtValidKeys : Type 0
LooksAtValidKeys =
    (s : SelNo) (mode : Mode) (acts : List Act) (selection : Selection)
    → Begins s mode None acts (Ok selection) → All (IsLookedAt s acts) selection.looked

-- A key was published and cancelled before a `try_begin` without the list that answers Ok, and its index is below the
-- selection's bound.
-- Then the key is removed when the call returns, and it isn't among the looked keys. `before` is the history before the
-- call; what the caller did after it is this call.
abbrev pub CancelledKeysGo : Type 0
CancelledKeysGo =
    (l : Limits) (n : CallerNo) (before later : List Event) (s : SelNo) (mode : Mode) (selection : Selection)
    (i serial : ℕ)
    → IsLegal l (before ++ later) → Begins s mode None (mine n later) (Ok selection)
    → IsTrue (was_published ((state_after before).key s.0 i) serial)
    → IsTrue (was_cancelled ((state_after before).key s.0 i) serial)
    → i < selection.bound
    → IsTrue (was_removed ((state_after (before ++ later)).key s.0 i) serial)
    × All (λ entry. ¬ ((entry.index ≡ i) × (entry.serial ≡ serial))) selection.looked

-- the list has an entry of the key
pub record HasEntry (list : List LookedKey) (i serial : ℕ) : Type 0 where
  pub entry : LookedKey
  pub there : Contains list entry
  pub index_is : entry.index ≡ i
  pub serial_is : entry.serial ≡ serial

-- A key was published before a `try_begin` without the list that answers Ok, its index is below the selection's bound,
-- and it is valid when the call returns, so it was valid all the while. Then it is among the looked keys. `before` is the
-- history before the call; what the caller did after it is this call.
abbrev pub ValidKeysAreLookedAt : Type 0
ValidKeysAreLookedAt =
    (l : Limits) (n : CallerNo) (before later : List Event) (s : SelNo) (mode : Mode) (selection : Selection)
    (i serial : ℕ)
    → IsLegal l (before ++ later) → Begins s mode None (mine n later) (Ok selection)
    → IsTrue (was_published ((state_after before).key s.0 i) serial)
    → IsTrue (is_valid_key ((state_after (before ++ later)).key s.0 i) serial)
    → i < selection.bound
    → HasEntry selection.looked i serial

-- The bits that index i of selector s is marked with are the told bits of a looked key at that index: those that the
-- poller told of the index and that are in the interest set which the selection found. There is at least one.
pub record MarksAsTold (selection : Selection) (pairs : List (ℕ × ℕ)) (s : SelNo) (i told : ℕ) : Type 0 where
  pub entry : LookedKey
  pub looked : Contains selection.looked entry
  pub on_selector : s ≡ selection.selector
  pub at_index : entry.index ≡ i
  pub bits : told ≡ told_bits pairs entry
  pub some : IsTrue (not (told == 0))

-- Each mark of a `told` is such a one: the poller told its bits in this call, the selection looked at the key, and they
-- are in the interest set that it found.
abbrev pub MarksOnlyAsTold : Type 0
MarksOnlyAsTold =
    (selection : Selection) (poll : Poll) (acts : List Act) (answer : ToldReply) → Tells selection poll acts answer
    → (s : SelNo) (i told : ℕ) (from : KeyMark) (found : Result (Unit {0}) KeyMark)
    → Contains acts (Mark s i from told found) → MarksAsTold selection poll.pairs s i told

-- Index i of selector s is marked as told, and still has the key that the selection looked at there: that key is in the
-- key set, with the serial and the channel of the looked key.
pub record MarksLookedKey (st : State) (selection : Selection) (pairs : List (ℕ × ℕ)) (s : SelNo)
    (i told : ℕ) : Type 0 where
  pub as_told : MarksAsTold selection pairs s i told
  pub in_set : IsTrue (is_in_key_set (st.key s.0 i) as_told.entry.serial)
  pub channel : (st.key s.0 i).chan ≡ as_told.entry.channel

-- In a legal history, when a `told` of a selection without the list marks an index, the index still has the key that the
-- selection looked at. `before`
-- is the history before the call; what the caller did after it is this `told`, and `past` is what stands before the
-- mark.
abbrev pub MarksLookedKeys : Type 0
MarksLookedKeys =
    (l : Limits) (n : CallerNo) (before past later : List Event) (selection : Selection) (poll : Poll)
    (answer : ToldReply)
    (s : SelNo) (i told : ℕ) (from : KeyMark) (found : Result (Unit {0}) KeyMark)
    → let call = past ++ event_of n (Mark s i from told found) ∷ later in
    IsLegal l (before ++ call) → IsBegun (mine n before) selection → IsFalse selection.listed
    → Tells selection poll (mine n call) answer
    → MarksLookedKey (state_after (before ++ past)) selection poll.pairs s i told

-- A `told` that answers Again has marked no key, and the selection in its answer is still in progress.
abbrev pub AgainGoesOn : Type 0
AgainGoesOn =
    (own : List Act) (selection next : Selection) (poll : Poll) (acts : List Act)
    → IsBegun own selection → Tells selection poll acts (again next) → IsBegun (own ++ acts) next

-- The count of a selection that is over is the number of its marks that succeeded.
abbrev pub CountsSelection : Type 0
CountsSelection =
    (own : List Act) (selection : Selection) (poll : Poll) (acts : List Act) (answer : Selected)
    → (begun : IsBegun own selection) → Tells selection poll acts (done answer)
    → answer.count ≡ count (marks_on selection.selector.0) (begun.since ++ acts)

-- A `told` that ends a selection without the list looks at the selector's high-water mark. When it returns, each key
-- that was published and cancelled before that look, at an index below the high-water mark, is removed: also one that was
-- registered since the selection began. `before` is the history before the call; what the caller did after it is this
-- call, and `looked` is what stands before the look.
abbrev pub CancelledKeysGoAtEnd : Type 0
CancelledKeysGoAtEnd =
    (l : Limits) (n : CallerNo) (before looked later : List Event) (selection : Selection) (poll : Poll)
    (answer : Selected) (mark i serial : ℕ)
    → let s = selection.selector in
    let call = looked ++ event_of n (LookKeys s mark) ∷ later in
    IsLegal l (before ++ call) → IsFalse selection.listed → Tells selection poll (mine n call) (done answer)
    → IsTrue (was_published ((state_after (before ++ looked)).key s.0 i) serial)
    → IsTrue (was_cancelled ((state_after (before ++ looked)).key s.0 i) serial)
    → i < mark
    → IsTrue (was_removed ((state_after (before ++ call)).key s.0 i) serial)

-- ---- what is in progress

-- In every legal history, where a caller's own acts began a selection and haven't given its turn back, the state says
-- that this caller has begun on that selector.
abbrev pub SelectionsStand : Type 0
SelectionsStand =
    (l : Limits) (n : CallerNo) (events : List Event) (selection : Selection)
    → IsLegal l events → IsBegun (mine n events) selection
    → IsTrue (has_begun (state_after events) n selection.selector)

-- In every legal history, where a caller's own acts shut a selector, the state says that this caller is its closer.
abbrev pub ClosingsStand : Type 0
ClosingsStand =
    (l : Limits) (n : CallerNo) (events : List Event) (s : SelNo)
    → IsLegal l events → IsClosing (mine n events) s → IsTrue (is_closer (state_after events) n s)

-- A `try_finish` that answers Closed looks at the selector's high-water mark. When it returns, each key that was
-- claimed before that look, at an index below the high-water mark, is removed. `before` is the history before the call;
-- what the caller did after it is this call, and `looked` is what stands before the look.
abbrev pub ClosedRemovesKeys : Type 0
ClosedRemovesKeys =
    (l : Limits) (n : CallerNo) (before looked later : List Event) (s : SelNo) (mark i serial : ℕ)
    → let call = looked ++ event_of n (LookKeys s mark) ∷ later in
    IsLegal l (before ++ call) → Completes (try_finish_plan s) (mine n call) closed
    → IsTrue (was_claimed ((state_after (before ++ looked)).key s.0 i) serial) → i < mark
    → IsTrue (was_removed ((state_after (before ++ call)).key s.0 i) serial)

-- ---- what a call works on

-- the acts give no turn of selector t back, and mark and remove no key of it
pub record LeavesSelector (t : ℕ) (acts : List Act) : Type 0 where
  pub gives : has (gives_turn t) acts ≡ false
  pub marks : has (marks_on t) acts ≡ false
  pub removes : has (removes_on t) acts ≡ false

abbrev pub is_selector : ℕ → Option SelNo → Bool
is_selector t None = false
is_selector t (Some s) = s.0 == t

-- A call that doesn't wait gives a turn back, marks keys and removes keys only on the selector that its row names.
abbrev pub WorksOnlyThere : Type 0
WorksOnlyThere =
    (l : Limits) (lacks : Bool) (call : TableCall) (acts : List Act) (answer : (row_of call).Reply) (t : ℕ)
    → Completes ((row_of call).plan l lacks) acts answer → IsFalse (is_selector t (row_of call).works_on)
    → LeavesSelector t acts
