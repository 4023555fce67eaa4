-- Laws of passes, as a caller needs them: what was seen to stand, and what a caller has, stands in what
-- is seen later too, whatever others do in between. They follow from the laws of histories in `nio_history`.
use Rattle.std.specs.Prelude.{◌≡◌, ◌≢◌, ℕ, Bool, Option, Some, IsTrue, IsFalse, List, [], ◌∷◌, ◌++◌}
use Rattle.std.specs.Option.{ForSome}
use mathlib.Core.List.{IsPrefix}
use Rattle.nio_base.specs.declared.numbers.CallerNo.{CallerNo}
use Rattle.nio_base.specs.declared.numbers.ChanNo.{ChanNo}
use Rattle.nio_base.specs.declared.numbers.KeyId.{KeyId}
use Rattle.nio_base.specs.declared.numbers.SelNo.{SelNo}
use Rattle.nio_history.specs.Histories.{mine, HistoryClause}
use Rattle.nio_history.specs.Holders.{Keeps as KeepsHistory, KeepsMode, marks, IsAtMostUnselected}
use Rattle.nio_history.specs.Permanent.{PermanentFact, stands, OwnFact, a_selection, the_hold, a_pin, is_had_by}
use Rattle.nio_history.specs.Permanent.{gives_back}
use Rattle.nio_history.specs.OwnEvents.{has, last, reopens, sets_mode, enrols_key, publishes, enrolled_found}
use Rattle.nio_history.specs.OwnEvents.{is_clear_by}
use Rattle.nio_history.specs.Pins.{IsSameKey, IsKeptInSelection, removes}
use Rattle.nio_history.specs.Sets.{was_published, is_valid_key, is_in_key_set}
use Rattle.nio_history.specs.Turns.{ends_wakeup, selects_on}
use Rattle.nio_history.specs.declared.act.Act.{Act}
use Rattle.nio_history.specs.declared.event.Event.{Event}
use Rattle.nio_words.specs.Drawing.{Draws}
use Rattle.nio_words.specs.Passes.{seen, state_seen, acts_seen, Holds, IsPassOf, limits_of}
use Rattle.nio_words.specs.Sharing.{SeesSame, Joins}
use Rattle.nio_words.specs.declared.words.Pass.{Pass}
use Rattle.nio_words.specs.declared.words.Words.{Words}

-- ---- before and after

-- a pass of the table at two moments, or two of its passes: what the one had seen begins what the
-- other has seen
pub record IsLater (w : Words) (before after : Pass) : Type 0 where
  pub earlier_pass : IsPassOf w before
  pub later_pass : IsPassOf w after
  pub begins : IsPrefix (seen before) (seen after)

-- and in between the caller did these acts
pub record GoesOn (w : Words) (me : CallerNo) (acts : List Act) (before after : Pass) : Type 0 where
  pub later : IsLater w before after
  pub own : acts_seen after me ≡ acts_seen before me ++ acts

-- the caller has a turn, a selection, a hold, a pin or a taken index, and gives it back by none of these acts
pub record Keeps (w : Words) (me : CallerNo) (what : OwnFact) (acts : List Act) (before after : Pass) : Type 0 where
  pub goes_on : GoesOn w me acts before after
  pub has_it : IsTrue (is_had_by me what (state_seen before))
  pub kept : IsFalse (has (gives_back what) acts)

-- after each call the caller has gone on by the call's acts, and the other numbers of its pass by none
abbrev pub CallsGoOn : Type 0
CallsGoOn = (w : Words) (p q : Pass) (me : CallerNo) (acts : List Act) → IsPassOf w p → IsPassOf w q
    → HistoryClause (limits_of w) (Holds p) me acts (seen p) (seen q)
    → GoesOn w me acts p q × ((n : CallerNo) → Holds p n → n ≢ me → GoesOn w n [] p q)

-- so have they after a draw of a number that is none of theirs
abbrev pub DrawsGoOn : Type 0
DrawsGoOn = (w : Words) (p q : Pass) (number : CallerNo) (found : Bool) → IsPassOf w p → Draws w p q number found
    → (n : CallerNo) → Holds p n → n ≢ number → GoesOn w n [] p q

-- a pass that is split, or hands a number over, and the one that comes from it have both gone on by no act
abbrev pub SplitsGoOn : Type 0
SplitsGoOn = (w : Words) (before after given : Pass) → IsPassOf w before → SeesSame w before after given
    → (n : CallerNo) → GoesOn w n [] before after × GoesOn w n [] before given

-- after two passes are joined, each number of either has gone on by no act
abbrev pub JoinsGoOn : Type 0
JoinsGoOn = (w : Words) (before other after : Pass) → IsPassOf w before → IsPassOf w other → Joins w before other after
    → (n : CallerNo) → (Holds before n → GoesOn w n [] before after) × (Holds other n → GoesOn w n [] other after)

-- whoever went on by some acts, and then by more, went on by all of them
abbrev pub GoingOnChains : Type 0
GoingOnChains = (w : Words) (me : CallerNo) (acts more : List Act) (p q r : Pass) → GoesOn w me acts p q
    → GoesOn w me more q r
    → GoesOn w me (acts ++ more) p r

-- what was seen in between, and that the caller kept it there: so each law of histories about what a caller
-- keeps speaks of passes
pub record KeepsBetween (w : Words) (me : CallerNo) (what : OwnFact) (acts : List Act)
    (before after : Pass) : Type 0 where
  pub later : List Event
  pub parts : seen before ++ later ≡ seen after
  pub own : mine me later ≡ acts
  pub keeps : KeepsHistory (limits_of w) me what (seen before) later

abbrev pub HistoriesGoOn : Type 0
HistoriesGoOn = (w : Words) (me : CallerNo) (what : OwnFact) (acts : List Act) (before after : Pass)
    → Keeps w me what acts before after
    → KeepsBetween w me what acts before after

-- ---- what is permanent

-- it stands in what any later pass has seen
abbrev pub FactsStand : Type 0
FactsStand = (w : Words) (before after : Pass) → IsLater w before after
    → (f : PermanentFact) → IsTrue (stands f (state_seen before)) → IsTrue (stands f (state_seen after))

-- a published key that isn't valid isn't valid in what any later pass has seen
abbrev pub InvalidKeysStand : Type 0
InvalidKeysStand = (w : Words) (before after : Pass) → IsLater w before after → (s : SelNo) (k : KeyId)
    → IsTrue (was_published ((state_seen before).key s.0 k.index) k.serial)
    → IsFalse (is_valid_key ((state_seen before).key s.0 k.index) k.serial)
    → IsFalse (is_valid_key ((state_seen after).key s.0 k.index) k.serial)

-- ---- what a caller has

-- a turn, a selection, a hold, a pin and a taken index stand until the caller gives them back itself
abbrev pub OwnStands : Type 0
OwnStands = (w : Words) (me : CallerNo) (what : OwnFact) (acts : List Act) (before after : Pass)
    → Keeps w me what acts before after
    → IsTrue (is_had_by me what (state_seen after))

-- an index keeps its key while the caller has a pin on it
abbrev pub PinnedKeysStand : Type 0
PinnedKeysStand = (w : Words) (me : CallerNo) (s : SelNo) (i : ℕ) (acts : List Act) (before after : Pass)
    → Keeps w me (a_pin s i) acts before after
    → IsSameKey ((state_seen before).key s.0 i) ((state_seen after).key s.0 i)

-- ---- what stands under a hold

-- a number keeps its channel while a caller holds it and doesn't give it to a new one itself
abbrev pub ChannelStands : Type 0
ChannelStands = (w : Words) (me : CallerNo) (c : ChanNo) (acts : List Act) (before after : Pass)
    → Keeps w me (the_hold c) acts before after
    → IsFalse (has (reopens c.0) acts)
    → ((state_seen after).chan c.0).serial ≡ ((state_seen before).chan c.0).serial

-- the channel doesn't become blocking, and keeps its mode while it is open, while a caller holds it and doesn't set
-- it itself
abbrev pub ModeStands : Type 0
ModeStands = (w : Words) (me : CallerNo) (c : ChanNo) (acts : List Act) (before after : Pass)
    → Keeps w me (the_hold c) acts before after
    → IsFalse (has (sets_mode c.0) acts)
    → KeepsMode ((state_seen before).chan c.0) ((state_seen after).chan c.0)

-- which key is enrolled for a channel stays while a caller holds it and enrols none itself
abbrev pub EnrolledStands : Type 0
EnrolledStands = (w : Words) (me : CallerNo) (c : ChanNo) (acts : List Act) (before after : Pass)
    → Keeps w me (the_hold c) acts before after
    → (s : SelNo) → IsFalse (has (enrols_key c.0 s.0) acts)
    → (state_seen after).enrolled c.0 s.0 ≡ (state_seen before).enrolled c.0 s.0

-- what a caller last found enrolled for a channel, or enrolled itself, while it held the channel is enrolled there
abbrev pub FoundEnrolledStands : Type 0
FoundEnrolledStands = (w : Words) (me : CallerNo) (c : ChanNo) (acts : List Act) (before after : Pass)
    → Keeps w me (the_hold c) acts before after
    → (s : SelNo) (enrolled : Option KeyId) → last (enrolled_found c.0 s.0) acts ≡ Some enrolled
    → (state_seen after).enrolled c.0 s.0 ≡ enrolled

-- a key that is outside the key set stays outside while a caller holds its channel and doesn't publish the key
-- of its index
abbrev pub OutsideStands : Type 0
OutsideStands = (w : Words) (me : CallerNo) (c : ChanNo) (acts : List Act) (before after : Pass)
    → Keeps w me (the_hold c) acts before after
    → (s : SelNo) (k : KeyId) → IsFalse (has (publishes s.0 k.index) acts)
    → IsFalse (is_in_key_set ((state_seen before).key s.0 k.index) k.serial)
    → ((state_seen after).key s.0 k.index).chan ≡ c
    → IsFalse (is_in_key_set ((state_seen after).key s.0 k.index) k.serial)

-- where a caller knows from its acts while it held a channel that no key of the key set is enrolled for it in a
-- selector, none is
abbrev pub FoundClearStands : Type 0
FoundClearStands = (w : Words) (me : CallerNo) (c : ChanNo) (acts : List Act) (before after : Pass)
    → Keeps w me (the_hold c) acts before after
    → (s : SelNo) → IsTrue (is_clear_by c.0 s.0 acts (last (enrolled_found c.0 s.0) acts))
    → ForSome ((state_seen after).enrolled c.0 s.0)
    (λ k. IsFalse (is_in_key_set ((state_seen after).key s.0 k.index) k.serial))

-- ---- what stands during a selection

-- of what is seen while a caller selects, all marks and removals of keys of that selector, all takings of its touched
-- bits and all ends of its wakeup are its own
abbrev pub SelectsAlone : Type 0
SelectsAlone = (w : Words) (me : CallerNo) (s : SelNo) (acts : List Act) (before after : Pass)
    → Keeps w me (a_selection s) acts before after
    → (between : List Event) (e : Event) (rest : List Event) → seen after ≡ seen before ++ (between ++ e ∷ rest)
    → IsTrue (selects_on s.0 e.act) → e.caller ≡ me

-- a key stays in the key set while a caller selects and doesn't remove it itself
abbrev pub KeySetStands : Type 0
KeySetStands = (w : Words) (me : CallerNo) (s : SelNo) (acts : List Act) (before after : Pass)
    → Keeps w me (a_selection s) acts before after
    → (k : KeyId) → IsFalse (has (removes s.0 k.index) acts)
    → IsTrue (is_in_key_set ((state_seen before).key s.0 k.index) k.serial)
    → IsTrue (is_in_key_set ((state_seen after).key s.0 k.index) k.serial)

-- an index whose key isn't removed keeps the key while a caller selects and doesn't remove it itself, and
-- doesn't become free
abbrev pub SelectedKeysStand : Type 0
SelectedKeysStand = (w : Words) (me : CallerNo) (s : SelNo) (acts : List Act) (before after : Pass)
    → Keeps w me (a_selection s) acts before after
    → (i : ℕ) → IsFalse (has (removes s.0 i) acts) → IsFalse ((state_seen before).key s.0 i).removed
    → IsKeptInSelection ((state_seen before).key s.0 i) ((state_seen after).key s.0 i)
    × IsFalse ((state_seen after).free s.0 i)

-- to the mark of a key of the key set no more happens than that somebody takes the key out of the selected
-- set, while a caller selects and neither marks nor removes it itself
abbrev pub MarksStand : Type 0
MarksStand = (w : Words) (me : CallerNo) (s : SelNo) (acts : List Act) (before after : Pass)
    → Keeps w me (a_selection s) acts before after
    → (k : KeyId) → IsFalse (has (removes s.0 k.index) acts) → IsFalse (has (marks s.0 k.index) acts)
    → IsTrue (is_in_key_set ((state_seen before).key s.0 k.index) k.serial)
    → IsAtMostUnselected ((state_seen before).mark s.0 k.index) ((state_seen after).mark s.0 k.index)

-- a pending wakeup stays pending while a caller selects and doesn't end it itself
abbrev pub WakeupStands : Type 0
WakeupStands = (w : Words) (me : CallerNo) (s : SelNo) (acts : List Act) (before after : Pass)
    → Keeps w me (a_selection s) acts before after
    → IsFalse (has (ends_wakeup s.0) acts)
    → IsTrue ((state_seen before).gate s.0).woken → IsTrue ((state_seen after).gate s.0).woken
