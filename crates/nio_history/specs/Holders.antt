-- Laws of holders and of selections: what stays as it is while a caller holds a channel or selects, whatever
-- others do, and what the caller's own looks tell it meanwhile.
use Rattle.std.specs.Prelude.{◌≡◌, ℕ, ◌==◌, ◌&&◌, Bool, false, Option, Some, IsTrue, IsFalse, List, [], ◌∷◌, ◌++◌}
use Rattle.std.specs.Option.{ForSome}
use Rattle.nio_base.specs.Limits.{IsFit}
use Rattle.nio_base.specs.declared.limits.Limits.{Limits}
use Rattle.nio_base.specs.declared.numbers.CallerNo.{CallerNo}
use Rattle.nio_base.specs.declared.numbers.ChanNo.{ChanNo}
use Rattle.nio_base.specs.declared.numbers.KeyId.{KeyId}
use Rattle.nio_base.specs.declared.numbers.SelNo.{SelNo}
use Rattle.nio_history.specs.Conditions.{holds}
use Rattle.nio_history.specs.Histories.{state_after, mine, IsLegal}
use Rattle.nio_history.specs.Permanent.{OwnFact, a_selection, the_hold, is_had_by, gives_back}
use Rattle.nio_history.specs.OwnEvents.{has, last, sets_mode, enrols_key, publishes, enrolled_found, is_clear_by}
use Rattle.nio_history.specs.OwnEvents.{is_clear}
use Rattle.nio_history.specs.Pins.{removes}
use Rattle.nio_history.specs.Sets.{is_in_key_set}
use Rattle.nio_history.specs.Turns.{selects_on, ends_wakeup}
use Rattle.nio_history.specs.declared.act.Act.{Act}
use Rattle.nio_history.specs.declared.act.Act.TheVariants.{Mark}
use Rattle.nio_history.specs.declared.event.Event.{Event}
use Rattle.nio_history.specs.declared.found.Mark.{Mark as KeyMark}
use Rattle.nio_history.specs.OwnEvents.{reopens}
use Rattle.nio_history.specs.declared.found.Chan.{Chan}

-- the caller has it after `before`, and gives it back by none of its events of `later`
pub record Keeps (l : Limits) (n : CallerNo) (what : OwnFact) (before later : List Event) : Type 0 where
  pub legal : IsLegal l (before ++ later)
  pub has_it : IsTrue (is_had_by n what (state_after before))
  pub kept : IsFalse (has (gives_back what) (mine n later))

-- ---- while a caller holds a channel

-- The number keeps its channel where the caller doesn't give it to a new one.
abbrev pub ChannelStays : Type 0
ChannelStays = (l : Limits) (n : CallerNo) (c : ChanNo) (before later : List Event)
    → Keeps l n (the_hold c) before later
    → IsFalse (has (reopens c.0) (mine n later))
    → ((state_after (before ++ later)).chan c.0).serial ≡ ((state_after before).chan c.0).serial

-- a channel whose mode nobody sets: it doesn't become blocking, and it keeps its mode while it is open. A closing
-- that began at a non-blocking channel may leave it non-blocking.
pub record KeepsMode (was now : Chan) : Type 0 where
  pub non_blocking : IsFalse was.blocking → IsFalse now.blocking
  pub while_open : IsFalse now.closed → now.blocking ≡ was.blocking

-- the channel keeps its mode where the caller doesn't set it
abbrev pub ModeStays : Type 0
ModeStays = (l : Limits) (n : CallerNo) (c : ChanNo) (before later : List Event) → Keeps l n (the_hold c) before later
    → IsFalse (has (sets_mode c.0) (mine n later))
    → KeepsMode ((state_after before).chan c.0) ((state_after (before ++ later)).chan c.0)

-- the same key stays enrolled for the channel in a selector where the caller enrols none there
abbrev pub EnrolledStays : Type 0
EnrolledStays = (l : Limits) (n : CallerNo) (c : ChanNo) (before later : List Event)
    → Keeps l n (the_hold c) before later
    → (s : SelNo) → IsFalse (has (enrols_key c.0 s.0) (mine n later))
    → (state_after (before ++ later)).enrolled c.0 s.0 ≡ (state_after before).enrolled c.0 s.0

-- the key that the caller last found enrolled for the channel, or enrolled itself, is enrolled there
abbrev pub FoundEnrolledStays : Type 0
FoundEnrolledStays = (l : Limits) (n : CallerNo) (c : ChanNo) (before later : List Event)
    → Keeps l n (the_hold c) before later
    → (s : SelNo) (enrolled : Option KeyId) → last (enrolled_found c.0 s.0) (mine n later) ≡ Some enrolled
    → (state_after (before ++ later)).enrolled c.0 s.0 ≡ enrolled

-- A key that is outside the key set stays outside where the caller doesn't publish the key of its index,
-- unless it is by then a key of another channel: an index is claimed for a channel, and its key published,
-- only by a caller that holds the channel.
abbrev pub OutsideStays : Type 0
OutsideStays = (l : Limits) (n : CallerNo) (c : ChanNo) (before later : List Event) → IsFit l
    → Keeps l n (the_hold c) before later
    → (s : SelNo) (k : KeyId) → IsFalse (has (publishes s.0 k.index) (mine n later))
    → IsFalse (is_in_key_set ((state_after before).key s.0 k.index) k.serial)
    → ((state_after (before ++ later)).key s.0 k.index).chan ≡ c
    → IsFalse (is_in_key_set ((state_after (before ++ later)).key s.0 k.index) k.serial)

-- where the caller knows from its own acts meanwhile that no key of the key set is enrolled for the channel in a
-- selector, none is
abbrev pub FoundClearStays : Type 0
FoundClearStays = (l : Limits) (n : CallerNo) (c : ChanNo) (before later : List Event) → IsFit l
    → Keeps l n (the_hold c) before later
    → (s : SelNo) → IsTrue (is_clear_by c.0 s.0 (mine n later) (last (enrolled_found c.0 s.0) (mine n later)))
    → ForSome ((state_after (before ++ later)).enrolled c.0 s.0)
    (λ k. IsFalse (is_in_key_set ((state_after (before ++ later)).key s.0 k.index) k.serial))

-- Where `is_clear` is true of the caller's acts under its present hold, the key that is enrolled for the channel, if
-- any, isn't in the key set. `is_clear` is a condition of enrolling a key, of blocking mode and of giving the number
-- to a new channel.
abbrev pub ClearIsTrue : Type 0
ClearIsTrue = (l : Limits) (n : CallerNo) (c : ChanNo) (events : List Event) → IsFit l → IsLegal l events
    → IsTrue (holds (state_after events) n c)
    → (s : SelNo) → IsTrue (is_clear c.0 s.0 (mine n events))
    → ForSome ((state_after events).enrolled c.0 s.0)
    (λ k. IsFalse (is_in_key_set ((state_after events).key s.0 k.index) k.serial))

-- ---- while a caller selects

-- it made a `mark` of the key of index i, which succeeded or not
abbrev pub marks : ℕ → ℕ → Act → Bool
marks s i (Mark s' i' from told found) = (s'.0 == s) && (i' == i)
marks s i _ = false

-- all marks and removals of keys of the selector, all takings of its touched bits and all ends of its wakeup are the
-- caller's own
abbrev pub SelectsAlone : Type 0
SelectsAlone = (l : Limits) (n : CallerNo) (s : SelNo) (before between : List Event) (e : Event)
    → Keeps l n (a_selection s) before (between ++ e ∷ [])
    → IsTrue (selects_on s.0 e.act) → e.caller ≡ n

-- a key stays in the key set where the caller doesn't remove it
abbrev pub KeySetStays : Type 0
KeySetStays = (l : Limits) (n : CallerNo) (s : SelNo) (before later : List Event)
    → Keeps l n (a_selection s) before later
    → (k : KeyId) → IsFalse (has (removes s.0 k.index) (mine n later))
    → IsTrue (is_in_key_set ((state_after before).key s.0 k.index) k.serial)
    → IsTrue (is_in_key_set ((state_after (before ++ later)).key s.0 k.index) k.serial)

-- a mark to which nothing happened but that somebody took the key out of the selected set
pub record IsAtMostUnselected (was now : KeyMark) : Type 0 where
  pub ready : now.ready ≡ was.ready
  pub selected : IsTrue now.selected → IsTrue was.selected

-- no more than that happens to the mark of a key of the key set where the caller neither marks nor removes it
abbrev pub MarksStay : Type 0
MarksStay = (l : Limits) (n : CallerNo) (s : SelNo) (before later : List Event) → IsFit l
    → Keeps l n (a_selection s) before later
    → (k : KeyId) → IsFalse (has (removes s.0 k.index) (mine n later))
    → IsFalse (has (marks s.0 k.index) (mine n later))
    → IsTrue (is_in_key_set ((state_after before).key s.0 k.index) k.serial)
    → IsAtMostUnselected ((state_after before).mark s.0 k.index) ((state_after (before ++ later)).mark s.0 k.index)

-- a pending wakeup stays pending where the caller doesn't end it
abbrev pub WakeupStays : Type 0
WakeupStays = (l : Limits) (n : CallerNo) (s : SelNo) (before later : List Event)
    → Keeps l n (a_selection s) before later
    → IsFalse (has (ends_wakeup s.0) (mine n later))
    → IsTrue ((state_after before).gate s.0).woken → IsTrue ((state_after (before ++ later)).gate s.0).woken
