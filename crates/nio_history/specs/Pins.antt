-- Laws of indexes that come back: a pinned index keeps its key; an index is claimed again only after its key
-- was removed, and only while nobody has a pin on it; while a caller selects, keys that it doesn't remove
-- stay.
use Rattle.std.specs.Prelude.{◌≡◌, ◌↔◌, ℕ, ◌==◌, ◌&&◌, Bool, false, Some, IsTrue, IsFalse, List, ◌∷◌, ◌++◌}
use Rattle.nio_base.specs.Limits.{IsFit}
use Rattle.nio_base.specs.declared.limits.Limits.{Limits}
use Rattle.nio_base.specs.declared.numbers.CallerNo.{CallerNo}
use Rattle.nio_base.specs.declared.numbers.ChanNo.{ChanNo}
use Rattle.nio_base.specs.declared.numbers.KeyId.{KeyId}
use Rattle.nio_base.specs.declared.numbers.SelNo.{SelNo}
use Rattle.nio_history.specs.Conditions.{has_pin, has_taken, has_begun, is_amid, has_list}
use Rattle.nio_history.specs.Histories.{state_after, event_of, mine, IsLegal}
use Rattle.nio_history.specs.OwnEvents.{OwnClaim, has, own_claim, is_unpublished, keeps_pin, keeps_taken, unpins}
use Rattle.nio_history.specs.OwnEvents.{gives_turn, keeps_touch, takes_list}
use Rattle.nio_history.specs.Sets.{was_claimed, can_come_back}
use Rattle.nio_history.specs.declared.act.Act.{Act}
use Rattle.nio_history.specs.declared.act.Act.TheVariants.{ClaimAgain, Remove}
use Rattle.nio_history.specs.declared.event.Event.{Event}
use Rattle.nio_history.specs.declared.found.Stage.{Stage}

-- the index is claimed for the same key: its serial and its channel are the same
pub record IsSameKey (was now : Stage) : Type 0 where
  pub claimed : IsTrue now.claimed
  pub serial : now.serial ≡ was.serial
  pub channel : now.chan ≡ was.chan

-- a caller has a pin on an index where it pinned or claimed it, and didn't take the pin off since
abbrev pub PinsAreOwn : Type 0
PinsAreOwn = (l : Limits) (n : CallerNo) (s : SelNo) (i : ℕ) (events : List Event) → IsLegal l events
    → has_pin (state_after events) n s i ≡ keeps_pin s.0 i (mine n events)

-- a caller has taken an index where it took it when it was free, and neither put it back nor claimed it since
abbrev pub TakenIsOwn : Type 0
TakenIsOwn = (l : Limits) (n : CallerNo) (s : SelNo) (i : ℕ) (events : List Event) → IsLegal l events
    → has_taken (state_after events) n s i ≡ keeps_taken s.0 i (mine n events)

-- a caller is amid a change of an index where it has a pin on it, and touched it since it pinned it
abbrev pub ChangesAreOwn : Type 0
ChangesAreOwn = (l : Limits) (n : CallerNo) (s : SelNo) (i : ℕ) (events : List Event) → IsFit l → IsLegal l events
    → is_amid (state_after events) n s i ≡ keeps_touch s.0 i (mine n events)

-- a caller has the list of a selector where it took it
abbrev pub ListsAreOwn : Type 0
ListsAreOwn = (l : Limits) (n : CallerNo) (s : SelNo) (events : List Event) → IsLegal l events
    → has_list (state_after events) n s ≡ has (takes_list s.0) (mine n events)

-- from a pin until the same caller takes it off the index keeps its key, whatever others do
abbrev pub PinnedKeysStay : Type 0
PinnedKeysStay = (l : Limits) (n : CallerNo) (s : SelNo) (i : ℕ) (before later : List Event) → IsFit l
    → IsLegal l (before ++ later)
    → IsTrue (has_pin (state_after before) n s i) → IsFalse (has (unpins s.0 i) (mine n later))
    → IsSameKey ((state_after before).key s.0 i) ((state_after (before ++ later)).key s.0 i)

-- an index is claimed again exactly where nobody has a pin on it
abbrev pub ClaimsAgainWhereUnpinned : Type 0
ClaimsAgainWhereUnpinned =
    (l : Limits) (me : CallerNo) (s : SelNo) (i : ℕ) (c : ChanNo) (from : Stage) (found : Bool)
    (past later : List Event) → IsFit l
    → IsLegal l (past ++ event_of me (ClaimAgain s i c from found) ∷ later)
    → found ≡ false ↔ ((n : CallerNo) → IsFalse (has_pin (state_after past) n s i))

-- the stage from which it is claimed again is the one that it has; its key was published, cancelled and removed
abbrev pub ClaimsAgainTheRemoved : Type 0
ClaimsAgainTheRemoved =
    (l : Limits) (me : CallerNo) (s : SelNo) (i : ℕ) (c : ChanNo) (from : Stage) (found : Bool)
    (past later : List Event)
    → IsLegal l (past ++ event_of me (ClaimAgain s i c from found) ∷ later)
    → ((state_after past).key s.0 i ≡ from) × IsTrue (can_come_back from)

-- a key is the one that a caller claimed the index for
pub record IsOfClaim (claim : OwnClaim) (k : Stage) : Type 0 where
  pub claimed : IsTrue k.claimed
  pub serial : k.serial ≡ claim.serial
  pub channel : k.chan ≡ claim.channel

-- while a caller has the pin of its claim, the index has the key that it claimed
abbrev pub OwnClaimsStand : Type 0
OwnClaimsStand = (l : Limits) (n : CallerNo) (s : SelNo) (i : ℕ) (claim : OwnClaim) (events : List Event) → IsFit l
    → IsLegal l events
    → own_claim s.0 i (mine n events) ≡ Some claim
    → IsTrue (has_pin (state_after events) n s i) × IsOfClaim claim ((state_after events).key s.0 i)

-- a key that its caller claimed and hasn't published since isn't published: nobody else publishes it
abbrev pub UnpublishedKeysStay : Type 0
UnpublishedKeysStay = (l : Limits) (n : CallerNo) (s : SelNo) (i : ℕ) (events : List Event) → IsFit l → IsLegal l events
    → IsTrue (is_unpublished s.0 i (mine n events)) → IsFalse ((state_after events).key s.0 i).published

-- a key that is enrolled for a channel was claimed for it; while the index has this key, it is of this channel
abbrev pub EnrolledKeysAreClaimed : Type 0
EnrolledKeysAreClaimed = (l : Limits) (c : ChanNo) (s : SelNo) (k : KeyId) (events : List Event) → IsFit l
    → IsLegal l events
    → (state_after events).enrolled c.0 s.0 ≡ Some k
    → IsTrue (was_claimed ((state_after events).key s.0 k.index) k.serial)
    × (((state_after events).key s.0 k.index).serial ≡ k.serial → ((state_after events).key s.0 k.index).chan ≡ c)

-- it removed the key of index i
abbrev pub removes : ℕ → ℕ → Act → Bool
removes s i (Remove s' i' found) = (s'.0 == s) && (i' == i)
removes s i _ = false

-- what a selection that goes on finds of an index that it didn't remove
pub record IsKeptInSelection (was now : Stage) : Type 0 where
  pub serial : now.serial ≡ was.serial
  pub removed : IsFalse now.removed
  pub published : IsTrue was.published → IsTrue now.published

-- a key that isn't removed stays and keeps its index while a caller selects and doesn't remove it itself; nor
-- does its index become free
abbrev pub SelectionsKeepKeys : Type 0
SelectionsKeepKeys = (l : Limits) (n : CallerNo) (s : SelNo) (i : ℕ) (before later : List Event)
    → IsLegal l (before ++ later)
    → IsTrue (has_begun (state_after before) n s) → IsFalse (has (gives_turn s.0) (mine n later))
    → IsFalse (has (removes s.0 i) (mine n later))
    → IsFalse ((state_after before).key s.0 i).removed
    → IsKeptInSelection ((state_after before).key s.0 i) ((state_after (before ++ later)).key s.0 i)
    × IsFalse ((state_after (before ++ later)).free s.0 i)
