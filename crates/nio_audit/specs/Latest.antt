-- The place of a caller's latest act that passes a test.
use Rattle.std.specs.Prelude.{ℕ, ◌+◌, Bool, ◌&&◌, if◌then◌else◌, List, fold}
use Rattle.nio_base.specs.declared.numbers.CallerNo.{CallerNo}
use Rattle.nio_history.specs.Histories.{is_by}
use Rattle.nio_history.specs.declared.act.Act.{Act}
use Rattle.nio_history.specs.declared.event.Event.{Event}

-- how many events there are, and the place of the latest
abbrev pub counted : CallerNo → (Act → Bool) → List Event → ℕ × ℕ
counted n p events =
    fold (λ (t : ℕ × ℕ) (e : Event). (t.0 + 1, if is_by n e && p e.act then t.0 + 1 else t.1)) (0, 0) events

-- the place of the caller's last act that passes the test, counted from 1; 0 where none does
unfoldable pub latest : CallerNo → (Act → Bool) → List Event → ℕ
latest n p events = (counted n p events).1
