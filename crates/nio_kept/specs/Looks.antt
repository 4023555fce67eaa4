-- One look at a key, and what is known while the keys of a list are looked at.
use Rattle.std.specs.Prelude.{◌≡◌, ◌≢◌, ℕ, ◌<◌, ◌++◌, if◌then◌else◌, Option, Some, None, List, [], ◌∷◌, length, slice_index, slice_set}
use Rattle.std.specs.List.{All, Contains}
use Rattle.nio_steps.specs.declared.looked.LookedKey.{LookedKey}
use Rattle.nio_kept.specs.News.{Heard, is_ready, ready_for}

-- a key's index is noted for its channel
abbrev pub noted : Option LookedKey → List ℕ → List ℕ
noted None keys = keys
noted (Some key) keys = slice_set keys key.channel.0 key.index

-- after a look at the key of an index: its index is noted, and it is a candidate where it is ready
abbrev pub looked_at : Heard → ℕ → Option LookedKey → Heard
looked_at news index key = record news {
  keys = noted key news.keys;
  candidates = if is_ready news.kept key then news.candidates ++ index ∷ [] else news.candidates;
}

-- of the keys with such indexes, the index is noted, and it is a candidate where the key is ready
abbrev pub KnowsAt : (ℕ → Type 0) → Heard → List LookedKey → Type 0
KnowsAt there news keys =
    All (λ key. there key.index → (key.channel.0 < length news.keys → slice_index news.keys key.channel.0 ≡ key.index)
    × (ready_for news.kept key ≢ 0 → Contains news.candidates key.index)) keys

-- what was a candidate is one still, and where a key of this channel is ready, its index is one
pub record AreListed (kept : List ℕ) (keys : List LookedKey) (c : ℕ) (old new : List ℕ) : Type 0 where
  pub still : (i : ℕ) → Contains old i → Contains new i
  pub this : All (λ key. key.channel.0 ≡ c → ready_for kept key ≢ 0 → Contains new key.index) keys
