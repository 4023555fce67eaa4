-- Counts over several calls, and what a call that didn't fail says.
use Rattle.std.proofs.Common.{◌≡◌, ℕ, ◌≤◌, inl, inr, false, Result, Ok, Err, OnOk, is_err, subst, sym, arith}
use Rattle.nio_base.specs.declared.numbers.ChanId.{ChanId}
use Rattle.nio_bytes.specs.Cause.{Rose}
use Rattle.nio_link.proofs.Channels.{channel_is_or_not}
use Rattle.nio_link.specs.Links.{IsSameBut}

-- a count that rose since, rose since an earlier time
pub rose_from : (before mid now : ℕ) → before ≤ mid → Rose mid now → Rose before now
rose_from before mid now later (inl rose) = inl (omega arith)
rose_from before mid now later (inr most) = inr most

-- no count fell, where only this channel's can have changed
pub later_all : (before now : ChanId → ℕ) (own : ChanId) → before own ≤ now own → IsSameBut own before now
    → (c : ChanId) → before c ≤ now c
later_all before now own here others c = elim (channel_is_or_not c own) [
  | inl same ↦ subst (λ x. before x ≤ now x) (sym same) here
  | inr other ↦ let at : now c ≡ before c = others c other in omega arith
]

pub where_done : {T E P : Type 0} (result : Result T E) → is_err result ≡ false → OnOk result P → P
where_done (Ok value) done holds = holds
where_done (Err error) done holds = absurd (cc)
