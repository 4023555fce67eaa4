-- A net of sockets that was just made.
use Rattle.std.specs.Prelude.{◌≡◌, []}
use Rattle.nio_base.specs.declared.numbers.ChanId.{ChanId}
use Rattle.nio_base.specs.declared.numbers.ChanNo.{ChanNo}
use Rattle.nio_link.specs.Places.{places_after, never_asked}
use Rattle.nio_kept.specs.Counts.{count_of}
use Rattle.nio_kept.specs.Readiness.{polls_of, ready_of}
use Rattle.nio_mio.specs.declared.net.MioNet.{MioNet}

-- no channel was asked to be anything
abbrev pub IsUnasked : {S : Type 0} → MioNet S → Type 0
IsUnasked net = (c : ChanId) → places_after net.log.changes c ≡ never_asked

-- no poll has failed, and no call on a channel
pub record IsFaultless {S : Type 0} (net : MioNet S) : Type 0 where
  pub polls : net.poll_faults ≡ 0
  pub calls : (c : ChanId) → count_of net.counts c ≡ 0

-- no poll has answered, and no channel is ready for anything
pub record IsUnpolled {S : Type 0} (net : MioNet S) : Type 0 where
  pub polls : polls_of net.readiness ≡ []
  pub unready : (c : ChanNo) → ready_of net.readiness c ≡ 0
