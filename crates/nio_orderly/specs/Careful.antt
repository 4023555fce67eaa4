-- Careful histories: how a caller publishes a key so that no cancellation is lost.
--
-- Each publish keeps three rules. Under its hold of the key's channel the caller enrols this key, and no other
-- for the channel. Under this hold it doesn't set the channel's mode, nor give its number to a new channel. And after
-- its claim of the index it looks at the gate, and finds it not shut, once it has found the keys' high-water mark
-- above the index or raised it above.
use Rattle.std.specs.Prelude.{◌≡◌, ◌↔◌, ℕ, ◌==◌, nat_lt, Bool, false, not, ◌&&◌, if◌then◌else◌, Some, IsTrue, IsFalse, List}
use Rattle.std.specs.Prelude.{[], ◌∷◌, ◌++◌}
use mathlib.Core.List.{IsPrefix}
use Rattle.nio_base.specs.declared.numbers.CallerNo.{CallerNo}
use Rattle.nio_base.specs.declared.numbers.SelNo.{SelNo}
use Rattle.nio_history.specs.Histories.{mine}
use Rattle.nio_history.specs.OwnEvents.{OwnClaim, has, count, since_from, since_first, under, sets_mode, releases}
use Rattle.nio_history.specs.OwnEvents.{own_claim}
use Rattle.nio_history.specs.declared.act.Act.{Act}
use Rattle.nio_history.specs.declared.act.Act.TheVariants.{LookGate, Claim, RaiseKeys, LookKeys, Publish, Enrol}
use Rattle.nio_history.specs.declared.act.Act.TheVariants.{ClaimAgain}
use Rattle.nio_history.specs.declared.event.Event.{Event}
use Rattle.nio_history.specs.declared.found.Stage.{Stage}

-- ---- tests of one act

-- it enrolled a key for channel c, in whichever selector
abbrev pub enrols_for : ℕ → Act → Bool
enrols_for c (Enrol c' s i serial found) = c'.0 == c
enrols_for c _ = false

-- it enrolled the key of index i with this serial for channel c in selector s
abbrev pub enrols_this_key : ℕ → ℕ → ℕ → ℕ → Act → Bool
enrols_this_key c s i q (Enrol c' s' i' serial found) = (c'.0 == c) && (s'.0 == s) && (i' == i) && (serial == q)
enrols_this_key c s i q _ = false

-- it claimed index i of selector s, for its first key or again
abbrev pub claims : ℕ → ℕ → Act → Bool
claims s i (Claim s' i' c false) = (s'.0 == s) && (i' == i)
claims s i (ClaimAgain s' i' c from false) = (s'.0 == s) && (i' == i)
claims s i _ = false

-- it found the keys' high-water mark of selector s above index i, or raised it above i
abbrev pub leaves_below : ℕ → ℕ → Act → Bool
leaves_below s i (LookKeys s' found) = (s'.0 == s) && nat_lt i found
leaves_below s i (RaiseKeys s' n found) = (s'.0 == s) && nat_lt i n
leaves_below s i _ = false

-- it found the gate of selector s not shut
abbrev pub finds_open : ℕ → Act → Bool
finds_open s (LookGate s' found) = (s'.0 == s) && not found.shut
finds_open s _ = false

-- ---- the three rules

-- what it did until it gave back the hold of channel c
abbrev pub until_released : ℕ → List Act → List Act
until_released c [] = []
until_released c (act ∷ later) = if releases c act then [] else act ∷ until_released c later

-- What it did under its hold of channel c, from the taking of the hold to the release: `before` is what it did
-- before a moment at which it had the hold, and `later` what it did from then on.
abbrev pub its_hold : ℕ → List Act → List Act → List Act
its_hold c before later = under c before ++ until_released c later

-- it found the gate of selector s not shut, after it claimed index i last, and after it had found the keys' high-water
-- mark above i or raised it above i
abbrev pub is_prepared : ℕ → ℕ → List Act → Bool
is_prepared s i own = has (finds_open s) (since_from (claims s i) (since_first (leaves_below s i) own))

-- The same with the acts before and after: it found the gate of selector s not shut, before that it had found the keys'
-- high-water mark above i or raised it above i, and since then it didn't claim the index.
pub record IsPrepared (s i : ℕ) (own : List Act) : Type 0 where
  pub before : List Act
  pub act : Act
  pub after : List Act
  pub parts : own ≡ before ++ act ∷ after
  pub open_gate : IsTrue (finds_open s act)
  pub below : IsTrue (has (leaves_below s i) before)
  pub unclaimed : IsFalse (has (claims s i) after)

abbrev pub PreparedIsSaid : Type 0
PreparedIsSaid = (s i : ℕ) (own : List Act) → IsTrue (is_prepared s i own) ↔ IsPrepared s i own

-- the rules of a publish of index i of selector s, by what its caller did before and later; the key is that of the
-- caller's claim of the index
pub record KeepsRules (s i : ℕ) (claim : OwnClaim) (before later : List Act) : Type 0 where
  -- under the hold it enrolled the key before, and no other key for the channel before or later
  pub enrolled : IsTrue (has (enrols_this_key claim.channel.0 s i claim.serial) (under claim.channel.0 before))
  pub enrolled_alone : count (enrols_for claim.channel.0) (its_hold claim.channel.0 before later) ≡ 1
  -- under the hold it didn't set the mode, nor give the number to a new channel
  pub mode : IsFalse (has (sets_mode claim.channel.0) (its_hold claim.channel.0 before later))
  pub prepared : IsTrue (is_prepared s i before)

-- each publish in the history keeps the rules
abbrev pub IsCareful : List Event → Type 0
IsCareful events = (n : CallerNo) (before : List Act) (s : SelNo) (i : ℕ) (found : Stage) (later : List Act)
    → mine n events ≡ before ++ Publish s i found ∷ later
    → (claim : OwnClaim) → own_claim s.0 i before ≡ Some claim → KeepsRules s.0 i claim before later

-- a beginning of a careful history is careful
abbrev pub BeginningsAreCareful : Type 0
BeginningsAreCareful = (before after : List Event) → IsPrefix before after → IsCareful after → IsCareful before
