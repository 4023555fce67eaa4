-- What a poll promises.
use Rattle.std.specs.Prelude.{◌≡◌, ◌≢◌, ℕ, ◌≤◌, ◌==◌, if◌then◌else◌, Option, Some, None, Result, Ok, Err, List, [], ◌∷◌}
use Rattle.std.specs.Prelude.{◌++◌, fold, bit_or}
use Rattle.nio_base.specs.declared.numbers.ChanNo.{ChanNo}
use Rattle.nio_bytes.specs.Cause.{Rose}
use Rattle.nio_history.specs.declared.found.Mode.{Mode}
use Rattle.nio_select.specs.InProgress.{poll_of}
use Rattle.nio_select.specs.declared.told.Told.{Told}
use Rattle.nio_steps.specs.SelectCalls.{told_at}
use Rattle.nio_steps.specs.declared.looked.LookedKey.{LookedKey}
use Rattle.nio_poller.specs.Polled.{Polled}
use Rattle.nio_poller.specs.declared.poller.PollError.{PollError}

-- What was told of a channel: of the keys that were asked for, what was told of those of this channel. Of a channel
-- that has none of these keys nothing was told.
abbrev pub told_of_channel : List LookedKey → List (ℕ × ℕ) → ChanNo → ℕ
told_of_channel asked pairs c =
    fold (λ bits entry. if entry.channel.0 == c.0 then bit_or bits (told_at pairs entry.index) else bits) 0 asked

-- A count of faults rises where a call fails with this error, and else stays.
pub record CountsFaults {T E : Type 0} (fault : E) (before now : ℕ) (result : Result T E) : Type 0 where
  pub later : before ≤ now
  pub still : result ≢ Err fault → now ≡ before
  pub failed : result ≡ Err fault → Rose before now

-- Where the poller shows its polls, one that answers is added at their end, and one that doesn't adds nothing.
abbrev pub AddsPoll : Option (List Polled) → Option (List Polled) → List LookedKey → Mode → Result Told PollError
    → Type 0
AddsPoll None now asked mode (Ok told) = now ≡ None
AddsPoll None now asked mode (Err error) = now ≡ None
AddsPoll (Some before) now asked mode (Ok told) =
    now ≡ Some (before ++ record { asked = asked; mode = mode; answer = poll_of told } ∷ [])
AddsPoll (Some before) now asked mode (Err error) = now ≡ Some before
