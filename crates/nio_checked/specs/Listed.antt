-- What a poll told, by channels.
use Rattle.std.specs.Prelude.{◌≡◌, ℕ, ◌==◌, if◌then◌else◌, IsTrue, List, [], ◌∷◌, map}
use Rattle.std.specs.List.{All, Any}
use Rattle.nio_base.specs.declared.numbers.ChanNo.{ChanNo}
use Rattle.nio_base.specs.Ops.{is_within}
use Rattle.nio_steps.specs.SelectCalls.{told_bits}
use Rattle.nio_steps.specs.declared.looked.LookedKey.{LookedKey}

-- of each key that was asked for, in order: its channel, and what was told of it and asked for
abbrev pub listed : List (ℕ × ℕ) → List LookedKey → List (ChanNo × ℕ)
listed pairs [] = []
listed pairs (key ∷ later) = (key.channel, told_bits pairs key) ∷ listed pairs later

-- the list tells of the channel that it is ready for this operation
abbrev pub IsTold : List (ChanNo × ℕ) → ChanNo → ℕ → Type 0
IsTold told c op = Any (λ x. (x.0 ≡ c) × IsTrue (is_within op x.1)) told

-- what is listed with a channel, after a change of what the channel c is ready for
abbrev pub changed_at : ChanNo → (ℕ → ℕ) → ChanNo × ℕ → ChanNo × ℕ
changed_at c change (chan, ops) = (chan, if chan.0 == c.0 then change ops else ops)

-- the list after a call that changes what the channel c is ready for
abbrev pub told_after : ChanNo → (ℕ → ℕ) → List (ChanNo × ℕ) → List (ChanNo × ℕ)
told_after c change told = map (changed_at c change) told

-- each listed channel is ready for all that is listed with it
abbrev pub AreReady : (ChanNo → ℕ) → List (ChanNo × ℕ) → Type 0
AreReady ready told = All (λ x. IsTrue (is_within x.1 (ready x.0))) told
