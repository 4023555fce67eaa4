-- The polls that a net answered, and what its numbers are ready for: what the last poll told, as far as it still holds.
use Rattle.std.specs.Prelude.{ℕ, ◌==◌, if◌then◌else◌, List, fold}
use Rattle.nio_base.specs.declared.numbers.ChanNo.{ChanNo}
use Rattle.nio_kept.specs.declared.readiness.Readiness.{Readiness}
use Rattle.nio_link.specs.Readiness.{without}
use Rattle.nio_poller.specs.Polled.{Polled}
use Rattle.nio_poller.specs.Scripts.{last_told}

-- those that answered, the oldest first
abbrev pub polls_of : Readiness → List Polled
polls_of r = r.polls

-- without what was taken of this channel
abbrev pub left_of : ChanNo → ℕ → List (ChanNo × ℕ) → ℕ
left_of c bits taken = fold (λ left one. if one.0.0 == c.0 then without one.1 left else left) bits taken

abbrev pub ready_of : Readiness → ChanNo → ℕ
ready_of r c = left_of c (last_told r.last c) r.taken
