-- Why a call of a source or a sink fails: its count of faults rises.
use Rattle.std.specs.Prelude.{◌≡◌, ℕ, ◌+◌, ◌-◌, ◌^◌, ◌<◌, ◌≤◌, ◌⊎◌, min, Result, OnOk, OnErr}

-- A count of faults rose, or is the greatest `u64`, where it stops.
abbrev pub Rose : ℕ → ℕ → Type 0
Rose before now = (before < now) ⊎ (now ≡ 2 ^ 64 - 1)

-- A call fails only where the count rose, and succeeds only where it didn't.
pub record HasCause {T E : Type 0} (before now : ℕ) (result : Result T E) : Type 0 where
  pub later : before ≤ now
  pub still : OnOk result (now ≡ before)
  pub failed : OnErr result (Rose before now)

-- one more, where a count stops at the greatest `u64`
abbrev pub count_after : ℕ → ℕ
count_after n = min (n + 1) (2 ^ 64 - 1)
