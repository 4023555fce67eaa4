-- The laws of the states that documented calls leave, among which are reopenings: what nio_plain's laws say of scripts.
use Rattle.std.specs.Prelude.{◌≡◌, Ok}
use Rattle.nio_base.specs.declared.limits.Limits.{Limits}
use Rattle.nio_base.specs.declared.numbers.CallerNo.{CallerNo}
use Rattle.nio_base.specs.declared.numbers.ChanId.{ChanId}
use Rattle.nio_base.specs.declared.numbers.SelNo.{SelNo}
use Rattle.nio_group.specs.Group.{IsLawful}
use Rattle.nio_language.specs.declared.call.Call.TheVariants as call
use Rattle.nio_language.specs.declared.call.ScriptCall.{ScriptCall}
use Rattle.nio_plain.specs.ReachedLaws.{AreWithinKeySet, EmptiesClosed, FindsKeysOfChannels, HasKeysBelowHigh}
use Rattle.nio_plain.specs.ReachedLaws.{HasLookedInKeySet, HasNoKeyAtFree, HasNoValidKeyOfClosed, HasOneKeyOfAChannel}
use Rattle.nio_plain.specs.ReachedLaws.{HasRegisteredInKeySets, HasRegisteredNonBlocking, IsLeftByARun, IsNew}
use Rattle.nio_plain.specs.ReachedLaws.{KeepsChannelsOfKeys, KeepsClosed, KeepsInvalid, KeepsKinds, KeepsOpened}
use Rattle.nio_plain.specs.ReachedLaws.{KeepsPublished, MakesNewChannels, MakesNewKeys, MakesOtherKeys}
use Rattle.nio_plain.specs.ScriptState.{ScriptState}
use Rattle.nio_plain.specs.Seq.{seq}
use Rattle.nio_plain.specs.declared.rules.Rules.TheVariants.{Now}
use Rattle.nio_serial.specs.Between.{IsLeft, LeadsTo}
use Rattle.nio_serial.specs.Reopening.{reopen_call}

-- ---- the sets

abbrev pub LeftAreWithinKeySet : Type 0
LeftAreWithinKeySet = (l : Limits) (st : ScriptState) → IsLeft l st → AreWithinKeySet st.shared

abbrev pub LeftHasKeysBelowHigh : Type 0
LeftHasKeysBelowHigh = (l : Limits) (st : ScriptState) → IsLeft l st → HasKeysBelowHigh st.shared

abbrev pub LeftHasLookedInKeySet : Type 0
LeftHasLookedInKeySet = (l : Limits) (st : ScriptState) → IsLeft l st → HasLookedInKeySet st

-- ---- keys and free indexes

abbrev pub LeadingKeepsPublished : Type 0
LeadingKeepsPublished =
    (l : Limits) (st later : ScriptState) → IsLeft l st → LeadsTo l st later → KeepsPublished st.shared later.shared

abbrev pub LeadingKeepsInvalid : Type 0
LeadingKeepsInvalid =
    (l : Limits) (st later : ScriptState) → IsLeft l st → LeadsTo l st later → KeepsInvalid st.shared later.shared

abbrev pub LeftHasNoKeyAtFree : Type 0
LeftHasNoKeyAtFree = (l : Limits) (st : ScriptState) → IsLeft l st → HasNoKeyAtFree st.shared

abbrev pub LeftMakesNewKeys : Type 0
LeftMakesNewKeys = (l : Limits) (st : ScriptState) → IsLeft l st → MakesNewKeys Now l st

-- the second key is made in a state to which calls lead from the first call on
abbrev pub LeadingMakesOtherKeys : Type 0
LeadingMakesOtherKeys = (l : Limits) (st : ScriptState) (first : ScriptCall) (later : ScriptState)
    → IsLeft l st → LeadsTo l (seq Now l st first.caller first.call).left later → MakesOtherKeys Now l st first later

-- ---- channels

abbrev pub LeadingKeepsOpened : Type 0
LeadingKeepsOpened =
    (l : Limits) (st later : ScriptState) → IsLeft l st → LeadsTo l st later → KeepsOpened st.shared later.shared

abbrev pub LeadingKeepsClosed : Type 0
LeadingKeepsClosed =
    (l : Limits) (st later : ScriptState) → IsLeft l st → LeadsTo l st later → KeepsClosed st.shared later.shared

abbrev pub LeadingKeepsKinds : Type 0
LeadingKeepsKinds =
    (l : Limits) (st later : ScriptState) → IsLeft l st → LeadsTo l st later → KeepsKinds st.shared later.shared

abbrev pub LeftMakesNewChannels : Type 0
LeftMakesNewChannels = (l : Limits) (st : ScriptState) → IsLeft l st → MakesNewChannels Now l st

-- and so is the channel that a reopening answers with
abbrev pub ReopenedIsNew : Type 0
ReopenedIsNew = (l : Limits) (st : ScriptState) (c new : ChanId)
    → IsLeft l st → (reopen_call l st c).answer ≡ Ok new → IsNew st.shared (reopen_call l st c).left.shared new

abbrev pub LeadingKeepsChannelsOfKeys : Type 0
LeadingKeepsChannelsOfKeys = (l : Limits) (st later : ScriptState)
    → IsLeft l st → LeadsTo l st later → KeepsChannelsOfKeys st.shared later.shared

abbrev pub LeftFindsKeysOfChannels : Type 0
LeftFindsKeysOfChannels = (l : Limits) (st : ScriptState) → IsLeft l st → FindsKeysOfChannels st.shared

abbrev pub LeftHasOneKeyOfAChannel : Type 0
LeftHasOneKeyOfAChannel = (l : Limits) (st : ScriptState) → IsLeft l st → HasOneKeyOfAChannel st.shared

abbrev pub LeftHasRegisteredInKeySets : Type 0
LeftHasRegisteredInKeySets = (l : Limits) (st : ScriptState) → IsLeft l st → HasRegisteredInKeySets l st.shared

abbrev pub LeftHasRegisteredNonBlocking : Type 0
LeftHasRegisteredNonBlocking = (l : Limits) (st : ScriptState) → IsLeft l st → HasRegisteredNonBlocking st.shared

abbrev pub LeftHasNoValidKeyOfClosed : Type 0
LeftHasNoValidKeyOfClosed = (l : Limits) (st : ScriptState) → IsLeft l st → HasNoValidKeyOfClosed st.shared

-- ---- a closed selector

-- calls lead on from a `close-end`
abbrev pub LeadingEmptiesClosed : Type 0
LeadingEmptiesClosed = (l : Limits) (st : ScriptState) (me : CallerNo) (s : SelNo) (later : ScriptState)
    → IsLeft l st → LeadsTo l (seq Now l st me (call.CloseEnd s)).left later → EmptiesClosed Now l st me s later

-- ---- the group

abbrev pub LeftGroupIsLeftByARun : Type 0
LeftGroupIsLeftByARun = (l : Limits) (st : ScriptState) → IsLeft l st → IsLeftByARun st.group

abbrev pub LeftGroupIsLawful : Type 0
LeftGroupIsLawful = (l : Limits) (st : ScriptState) → IsLeft l st → IsLawful st.group
