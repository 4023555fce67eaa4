-- How often calls on a channel have failed.
use Rattle.std.specs.Prelude.{ℕ, count_by}
use Rattle.nio_base.specs.declared.numbers.ChanId.{ChanId}
use Rattle.nio_link.specs.Places.{is_same_channel}
use Rattle.nio_kept.specs.declared.counts.Counts.{Counts}

-- by the list of their failures
abbrev pub count_of : Counts → ChanId → ℕ
count_of counts c = count_by (λ (k : ChanId). is_same_channel k c) counts.failed
