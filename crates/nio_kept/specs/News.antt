-- What is kept of the channels, which keys of a list are ready by it, and which list the news know.
use Rattle.std.specs.Prelude.{◌≡◌, ◌≢◌, ℕ, ◌<◌, ◌==◌, ◌&&◌, ◌||◌, Bool, false, not, Option, Some, None, IsTrue}
use Rattle.std.specs.Prelude.{IsSome, List, length, map, bit_and, slice_index}
use Rattle.std.specs.List.{All, AllPairs, Contains, filter}
use Rattle.nio_steps.specs.declared.looked.LookedKey.{LookedKey}
use Rattle.nio_select.specs.Asked.{Changes, IsRising, Looked}
use Rattle.nio_select.specs.InHand.{next_number}
use Rattle.nio_select.specs.declared.stamp.Stamp.{Stamp}

-- The bits that are kept of each channel, by its number; the index that its key had where it was seen last, by the
-- channel's number too; the indexes of the keys that may be ready; and the stamp of the list that was seen last, where
-- the news know that list.
pub record Heard : Type 0 where
  pub kept : List ℕ
  pub keys : List ℕ
  pub candidates : List ℕ
  pub seen : Option Stamp

-- ---- which keys are ready

-- what is kept of a key's channel, as far as the key is interested in it
abbrev pub ready_for : List ℕ → LookedKey → ℕ
ready_for kept key = bit_and (slice_index kept key.channel.0) key.interest

-- there is a key, and it is ready for something
abbrev pub is_ready : List ℕ → Option LookedKey → Bool
is_ready kept None = false
is_ready kept (Some key) = not (ready_for kept key == 0)

-- the indexes of the keys that are ready for something, each with what for, in the order of the list
abbrev pub ready_keys : List ℕ → List LookedKey → List (ℕ × ℕ)
ready_keys kept keys = filter (λ pair. not (pair.1 == 0)) (map (λ key. (key.index, ready_for kept key)) keys)

-- no channel stands twice in the list
abbrev pub AreApart : List LookedKey → Type 0
AreApart keys = AllPairs (λ x y. x.channel ≢ y.channel) keys

-- ---- which list the news know

-- each key that is ready for something has its index among these
abbrev pub AreFound : List ℕ → List LookedKey → List ℕ → Type 0
AreFound kept keys candidates = All (λ key. ready_for kept key ≢ 0 → Contains candidates key.index) keys

-- the index of each key is noted for its channel, where there is a place for it
abbrev pub AreNoted : Heard → List LookedKey → Type 0
AreNoted news keys =
    All (λ key. key.channel.0 < length news.keys → slice_index news.keys key.channel.0 ≡ key.index) keys

-- the index of each key is noted, and those of the keys that are ready are candidates
abbrev pub Knows : Heard → List LookedKey → Type 0
Knows news keys = AreNoted news keys × AreFound news.kept keys news.candidates

-- where the news have a stamp, it is that of this list, and they know the list
abbrev pub Remembers : Heard → Looked → Type 0
Remembers news list = IsSome news.seen → (news.seen ≡ list.stamp) × Knows news list.keys

-- what was known is known still
abbrev pub StillKnows : Heard → Heard → Type 0
StillKnows old new = (list : Looked) → Remembers old list → Remembers new list

-- ---- how a list follows on an earlier one

-- one beginning made both
abbrev pub is_same : Option Stamp → Option Stamp → Bool
is_same None now = false
is_same (Some before) None = false
is_same (Some before) (Some now) = (before.selector.0 == now.selector.0) && (before.number == now.number)

-- the selector's next beginning made the second
abbrev pub is_next : Option Stamp → Option Stamp → Bool
is_next None now = false
is_next (Some before) None = false
is_next (Some before) (Some now) =
    (before.selector.0 == now.selector.0) && (next_number before.number == now.number)

-- A list that the same beginning made has the same keys. One that the next beginning made has, outside the indexes that
-- changed, the keys of the one before. The keys of both rise. Of any other list nothing is asked.
pub record Follows (before now : Looked) : Type 0 where
  pub same : IsTrue (is_same before.stamp now.stamp) → IsRising now.keys × (now.keys ≡ before.keys)
  pub next : IsTrue (is_next before.stamp now.stamp) → IsRising now.keys × Changes before.keys now.keys now.changed

-- The list has no channel twice. Where its stamp is the one that the news have, or the next, it follows on a list that
-- they remember.
pub record Continues (news : Heard) (asked : Looked) : Type 0 where
  pub before : Looked
  pub follows : Follows before asked
  pub remembered : IsTrue (is_same news.seen asked.stamp || is_next news.seen asked.stamp) → Remembers news before
  pub apart : AreApart asked.keys
