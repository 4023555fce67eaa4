-- Laws of the documented system, by either of the rules, over every list of calls from the opening state:
-- what holds of the sets of a selector, of keys and free indexes, of channels, of what is closed, and of the
-- group. What a law says of one state, or of an earlier and a later one, has a name of its own before the law.
use Rattle.std.specs.Prelude.{◌≡◌, ◌≢◌, ℕ, ◌<◌, IsTrue, IsFalse, ◌↔◌, Option, Some, None, List, ◌∷◌, ◌++◌}
use Rattle.nio_base.specs.declared.kind.Kind.{Kind}
use Rattle.nio_base.specs.declared.limits.Limits.{Limits}
use Rattle.nio_base.specs.declared.numbers.CallerNo.{CallerNo}
use Rattle.nio_base.specs.declared.numbers.ChanId.{ChanId}
use Rattle.nio_base.specs.declared.numbers.KeyId.{KeyId}
use Rattle.nio_base.specs.declared.numbers.SelNo.{SelNo}
use Rattle.nio_group.specs.Group.{Group, IsLawful, empty_group, channel_at}
use Rattle.nio_group.specs.Run as step
use Rattle.nio_group.specs.Run.{IsRunOf, left_by}
use Rattle.nio_history.specs.Sets.{in_key_set, in_cancelled_set, in_selected_set, is_valid, was_published}
use Rattle.nio_history.specs.Sets.{is_in_key_set, is_open_channel, was_closed, was_opened}
use Rattle.nio_history.specs.Sets.{is_valid_key, IsRegistered}
use Rattle.nio_history.specs.State.{State}
use Rattle.nio_language.specs.declared.call.Call.{Call}
use Rattle.nio_language.specs.declared.call.Call.TheVariants as call
use Rattle.nio_language.specs.declared.call.ScriptCall.{ScriptCall}
use Rattle.nio_language.specs.declared.reply.Reply.{Reply}
use Rattle.nio_language.specs.declared.reply.Reply.TheVariants as reply
use Rattle.nio_plain.specs.Answer.{left_by_script}
use Rattle.nio_plain.specs.Seq.{seq}
use Rattle.nio_plain.specs.ScriptState.{ScriptState, Selection, group_limits}
use Rattle.nio_plain.specs.Seq.Modes.{key_of, is_registered}
use Rattle.nio_plain.specs.Seq.Names.{key_at}
use Rattle.nio_plain.specs.Seq.Selections.{is_looked}
use Rattle.nio_plain.specs.declared.rules.Rules.{Rules}
use Rattle.nio_plain.specs.declared.rules.Rules.TheVariants.{First}

-- THE SETS

-- what is cancelled, and what is marked as selected, is in the key set
pub record AreWithinKeySet (st : State) : Type 0 where
  pub cancelled : (s i : ℕ) → IsTrue (st.key s i).cancelled → IsTrue (in_key_set (st.key s i))
  pub selected : (s i : ℕ) → IsTrue (st.mark s i).selected → IsTrue (in_key_set (st.key s i))

-- the cancelled set and the selected set are within the key set, and nothing outside it is marked so
abbrev pub SetsAreWithinKeySet : Type 0
SetsAreWithinKeySet = (rules : Rules) (l : Limits) (calls : List ScriptCall)
    → AreWithinKeySet (left_by_script rules l calls).shared

-- each key of a key set is below its selector's high-water mark, so that a selection that begins looks at all keys
-- of the key set
abbrev pub HasKeysBelowHigh : State → Type 0
HasKeysBelowHigh st = (s i : ℕ) → IsTrue (in_key_set (st.key s i)) → i < st.keys_high s

abbrev pub KeysAreBelowHigh : Type 0
KeysAreBelowHigh = (rules : Rules) (l : Limits) (calls : List ScriptCall)
    → HasKeysBelowHigh (left_by_script rules l calls).shared

-- the keys that a selection in progress looks at are in the key set
abbrev pub HasLookedInKeySet : ScriptState → Type 0
HasLookedInKeySet st = (s : ℕ) (selection : Selection) (k : KeyId)
    → st.selection s ≡ Some selection → IsTrue (is_looked selection.looked k)
    → IsTrue (is_in_key_set (st.shared.key s k.index) k.serial)

abbrev pub LookedAreInKeySet : Type 0
LookedAreInKeySet = (rules : Rules) (l : Limits) (calls : List ScriptCall)
    → HasLookedInKeySet (left_by_script rules l calls)

-- KEYS AND FREE INDEXES

-- a key that was published stays so, and one that isn't valid stays so, whatever is called
abbrev pub KeepsPublished : State → State → Type 0
KeepsPublished before after = (s : ℕ) (k : KeyId)
    → IsTrue (was_published (before.key s k.index) k.serial) → IsTrue (was_published (after.key s k.index) k.serial)

abbrev pub PublishedStays : Type 0
PublishedStays = (rules : Rules) (l : Limits) (calls more : List ScriptCall)
    → KeepsPublished (left_by_script rules l calls).shared (left_by_script rules l (calls ++ more)).shared

abbrev pub KeepsInvalid : State → State → Type 0
KeepsInvalid before after = (s : ℕ) (k : KeyId)
    → IsTrue (was_published (before.key s k.index) k.serial) → IsFalse (is_valid_key (before.key s k.index) k.serial)
    → IsFalse (is_valid_key (after.key s k.index) k.serial)

abbrev pub InvalidKeysStayInvalid : Type 0
InvalidKeysStayInvalid = (rules : Rules) (l : Limits) (calls more : List ScriptCall)
    → KeepsInvalid (left_by_script rules l calls).shared (left_by_script rules l (calls ++ more)).shared

-- no key of the index is in a set, and none is valid
pub record HasNoKey (st : State) (s i : ℕ) : Type 0 where
  pub in_key_set : IsFalse (in_key_set (st.key s i))
  pub in_selected_set : IsFalse (in_selected_set st s i)
  pub in_cancelled_set : IsFalse (in_cancelled_set (st.key s i))
  pub valid : (serial : ℕ) → IsFalse (is_valid_key (st.key s i) serial)

-- a free index has no key in a set, and no valid one
abbrev pub HasNoKeyAtFree : State → Type 0
HasNoKeyAtFree st = (s i : ℕ) → IsTrue (st.free s i) → HasNoKey st s i

abbrev pub FreeIndexHasNoKey : Type 0
FreeIndexHasNoKey = (rules : Rules) (l : Limits) (calls : List ScriptCall)
    → HasNoKeyAtFree (left_by_script rules l calls).shared

-- by the first rules no index is free, so that no registration takes one
abbrev pub FirstRulesFreeNone : Type 0
FirstRulesFreeNone = (l : Limits) (calls : List ScriptCall) (s i : ℕ)
    → IsFalse ((left_by_script First l calls).shared.free s i)

-- by the first rules a `told` removes the cancelled keys below the number of indexes that were claimed when
-- the selection began: they are the looked keys that are cancelled
abbrev pub FirstRulesRemoveBelowTheBound : Type 0
FirstRulesRemoveBelowTheBound = (l : Limits) (calls : List ScriptCall) (s : ℕ) (selection : Selection) (i : ℕ)
    → let st = left_by_script First l calls in
    st.selection s ≡ Some selection → IsTrue (in_cancelled_set (st.shared.key s i))
    → IsTrue (is_looked selection.looked (key_at st.shared s i)) ↔ (i < selection.bound)

-- the call registers a channel that has no key in the selector, and is replied with the key
pub record IsNewKey (rules : Rules) (l : Limits) (st : ScriptState) (c : ScriptCall) (s : ℕ) (k : KeyId) : Type 0 where
  pub name : SelNo
  pub chan : ChanId
  pub ops : ℕ
  pub att : Option ℕ
  pub called : c.call ≡ call.Register name chan ops att
  pub there : name.0 ≡ s
  pub none : key_of st.shared chan.number.0 s ≡ None
  pub replied : (seq rules l st c.caller c.call).reply ≡ reply.Key k

-- a new key wasn't published before, so its serial is one that no earlier key of its index had; and it is
-- valid
abbrev pub MakesNewKeys : Rules → Limits → ScriptState → Type 0
MakesNewKeys rules l st = (c : ScriptCall) (s : ℕ) (k : KeyId)
    → IsNewKey rules l st c s k
    → IsFalse (was_published (st.shared.key s k.index) k.serial)
    × IsTrue (is_valid_key ((seq rules l st c.caller c.call).left.shared.key s k.index) k.serial)

abbrev pub NewKeyIsNew : Type 0
NewKeyIsNew = (rules : Rules) (l : Limits) (calls : List ScriptCall)
    → MakesNewKeys rules l (left_by_script rules l calls)

-- two keys of a selector have different names: those of one index have different serials
abbrev pub MakesOtherKeys : Rules → Limits → ScriptState → ScriptCall → ScriptState → Type 0
MakesOtherKeys rules l before first after = (second : ScriptCall) (s : ℕ) (k m : KeyId)
    → IsNewKey rules l before first s k → IsNewKey rules l after second s m → k ≢ m

abbrev pub NewKeysDiffer : Type 0
NewKeysDiffer = (rules : Rules) (l : Limits) (calls more : List ScriptCall) (first : ScriptCall)
    → MakesOtherKeys rules l (left_by_script rules l calls) first (left_by_script rules l (calls ++ first ∷ more))

-- CHANNELS

-- a channel that was opened stays so, and one that was closed stays so, also where its number is given to a later one;
-- a number that is made keeps its kind
abbrev pub KeepsOpened : State → State → Type 0
KeepsOpened before after = (c : ChanId)
    → IsTrue (was_opened (before.chan c.number.0) c.serial) → IsTrue (was_opened (after.chan c.number.0) c.serial)

abbrev pub OpenedStays : Type 0
OpenedStays = (rules : Rules) (l : Limits) (calls more : List ScriptCall)
    → KeepsOpened (left_by_script rules l calls).shared (left_by_script rules l (calls ++ more)).shared

abbrev pub KeepsClosed : State → State → Type 0
KeepsClosed before after = (c : ChanId)
    → IsTrue (was_closed (before.chan c.number.0) c.serial) → IsTrue (was_closed (after.chan c.number.0) c.serial)

abbrev pub ClosedStays : Type 0
ClosedStays = (rules : Rules) (l : Limits) (calls more : List ScriptCall)
    → KeepsClosed (left_by_script rules l calls).shared (left_by_script rules l (calls ++ more)).shared

abbrev pub KeepsKinds : State → State → Type 0
KeepsKinds before after = (c : ℕ) → IsTrue (before.chan c).made → (after.chan c).kind ≡ (before.chan c).kind

abbrev pub KindStays : Type 0
KindStays = (rules : Rules) (l : Limits) (calls more : List ScriptCall)
    → KeepsKinds (left_by_script rules l calls).shared (left_by_script rules l (calls ++ more)).shared

-- the call opens a channel, alone or as an end of a pipe, and is replied with it
pub data IsNewChannel (c : Call) (said : Reply) (new : ChanId) : Type 0 where
  alone : (kind : Kind) → c ≡ call.Channel kind → said ≡ reply.Channel new → IsNewChannel c said new
  as_source : (target : CallerNo) (sink : ChanId) → c ≡ call.Pipe target → said ≡ reply.Ends new sink
      → IsNewChannel c said new
  as_sink : (target : CallerNo) (source : ChanId) → c ≡ call.Pipe target → said ≡ reply.Ends source new
      → IsNewChannel c said new

-- The channel wasn't opened before, so its serial is one that no earlier channel of its number had; it is open and in
-- blocking mode, and no key of its number is in a key set.
pub record IsNew (before after : State) (new : ChanId) : Type 0 where
  pub not_yet : IsFalse (was_opened (before.chan new.number.0) new.serial)
  pub is_open : IsTrue (is_open_channel (after.chan new.number.0) new.serial)
  pub blocking : IsTrue (after.chan new.number.0).blocking
  pub no_key : (s i : ℕ) → IsTrue (in_key_set (after.key s i)) → (after.key s i).chan ≢ new.number

-- each channel that a call opens is new
abbrev pub MakesNewChannels : Rules → Limits → ScriptState → Type 0
MakesNewChannels rules l st = (c : ScriptCall) (new : ChanId)
    → let done = seq rules l st c.caller c.call in
    IsNewChannel c.call done.reply new → IsNew st.shared done.left.shared new

abbrev pub NewChannelIsNew : Type 0
NewChannelIsNew = (rules : Rules) (l : Limits) (calls : List ScriptCall)
    → MakesNewChannels rules l (left_by_script rules l calls)

-- as long as a key is in a key set its number has the same channel
abbrev pub KeepsChannelsOfKeys : State → State → Type 0
KeepsChannelsOfKeys before after = (s : ℕ) (k : KeyId)
    → let c = (before.key s k.index).chan in
    IsTrue (is_in_key_set (before.key s k.index) k.serial) → IsTrue (is_in_key_set (after.key s k.index) k.serial)
    → ((after.key s k.index).chan ≡ c) × ((after.chan c.0).serial ≡ (before.chan c.0).serial)

abbrev pub KeyKeepsItsChannel : Type 0
KeyKeepsItsChannel = (rules : Rules) (l : Limits) (calls more : List ScriptCall)
    → KeepsChannelsOfKeys (left_by_script rules l calls).shared (left_by_script rules l (calls ++ more)).shared

-- by the first rules each channel has the serial 0
abbrev pub FirstRulesReopenNone : Type 0
FirstRulesReopenNone = (l : Limits) (calls : List ScriptCall) (c : ℕ)
    → ((left_by_script First l calls).shared.chan c).serial ≡ 0

-- and so has each channel of the group
abbrev pub FirstRulesReopenNoneOfTheGroup : Type 0
FirstRulesReopenNoneOfTheGroup = (l : Limits) (calls : List ScriptCall) (c : ℕ)
    → (channel_at (left_by_script First l calls).group c).serial ≡ 0

-- the key of a number's channel in a selector, as the calls find it, is the one of the key set that has the number
abbrev pub FindsKeysOfChannels : State → Type 0
FindsKeysOfChannels st = (c s : ℕ) (k : KeyId)
    → (key_of st c s ≡ Some k) ↔ (IsTrue (is_in_key_set (st.key s k.index) k.serial) × ((st.key s k.index).chan.0 ≡ c))

abbrev pub KeyOfAChannelIsFound : Type 0
KeyOfAChannelIsFound = (rules : Rules) (l : Limits) (calls : List ScriptCall)
    → FindsKeysOfChannels (left_by_script rules l calls).shared

-- a number has at most one key in a selector's key set
abbrev pub HasOneKeyOfAChannel : State → Type 0
HasOneKeyOfAChannel st = (s i j : ℕ)
    → IsTrue (in_key_set (st.key s i)) → IsTrue (in_key_set (st.key s j)) → (st.key s i).chan ≡ (st.key s j).chan → i ≡ j

abbrev pub OneKeyOfAChannel : Type 0
OneKeyOfAChannel = (rules : Rules) (l : Limits) (calls : List ScriptCall)
    → HasOneKeyOfAChannel (left_by_script rules l calls).shared

-- a channel counts as registered exactly where a key of it is in a key set
abbrev pub HasRegisteredInKeySets : Limits → State → Type 0
HasRegisteredInKeySets l st = (c : ChanId) → IsTrue (is_registered l st c) ↔ IsRegistered st c

abbrev pub RegisteredIsInAKeySet : Type 0
RegisteredIsInAKeySet = (rules : Rules) (l : Limits) (calls : List ScriptCall)
    → HasRegisteredInKeySets l (left_by_script rules l calls).shared

-- a registered channel isn't in blocking mode
abbrev pub HasRegisteredNonBlocking : State → Type 0
HasRegisteredNonBlocking st = (c : ChanId) → IsRegistered st c → IsFalse (st.chan c.number.0).blocking

abbrev pub RegisteredIsNonBlocking : Type 0
RegisteredIsNonBlocking = (rules : Rules) (l : Limits) (calls : List ScriptCall)
    → HasRegisteredNonBlocking (left_by_script rules l calls).shared

-- no key of a closed channel is valid
abbrev pub HasNoValidKeyOfClosed : State → Type 0
HasNoValidKeyOfClosed st = (s i : ℕ) → IsTrue (st.chan (st.key s i).chan.0).closed → IsFalse (is_valid (st.key s i))

abbrev pub ClosedChannelHasNoValidKey : Type 0
ClosedChannelHasNoValidKey = (rules : Rules) (l : Limits) (calls : List ScriptCall)
    → HasNoValidKeyOfClosed (left_by_script rules l calls).shared

-- A CLOSED SELECTOR

-- a selector has no key in its key set, so no valid one, and no number has a key there
pub record IsEmptied (st : State) (s : ℕ) : Type 0 where
  pub no_key : (i : ℕ) → IsFalse (in_key_set (st.key s i))
  pub no_valid_key : (i : ℕ) → IsFalse (is_valid (st.key s i))
  pub no_channel : (c : ℕ) → key_of st c s ≡ None

-- once the closing of a selector has ended, the selector is and stays empty, whatever is called
abbrev pub EmptiesClosed : Rules → Limits → ScriptState → CallerNo → SelNo → ScriptState → Type 0
EmptiesClosed rules l before me s after =
    (seq rules l before me (call.CloseEnd s)).reply ≡ reply.Closed → IsEmptied after.shared s.0

abbrev pub ClosedSelectorIsEmpty : Type 0
ClosedSelectorIsEmpty = (rules : Rules) (l : Limits) (calls more : List ScriptCall) (me : CallerNo) (s : SelNo)
    → EmptiesClosed rules l (left_by_script rules l calls) me s
    (left_by_script rules l (calls ++ record { caller = me; call = call.CloseEnd s } ∷ more))

-- THE GROUP

-- a run of the group, from the empty one on, leaves this one
pub record IsLeftByARun (g : Group) : Type 0 where
  pub steps : List step.Call
  pub run : IsRunOf (empty_group group_limits) steps
  pub leaves : g ≡ left_by (empty_group group_limits) steps

-- the group that a script leaves is left by a run of the group, so that what holds of runs holds of it
abbrev pub GroupIsLeftByARun : Type 0
GroupIsLeftByARun = (rules : Rules) (l : Limits) (calls : List ScriptCall)
    → IsLeftByARun (left_by_script rules l calls).group

-- and it is lawful
abbrev pub GroupIsLawful : Type 0
GroupIsLawful = (rules : Rules) (l : Limits) (calls : List ScriptCall) → IsLawful (left_by_script rules l calls).group
