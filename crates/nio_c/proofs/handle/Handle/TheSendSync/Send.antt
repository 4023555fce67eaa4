-- A handle may go to another thread, since what is behind it may.
use mathlib.Core.Bool.{Bool, true, false}
use mir.Raw.{raw}
use base.Shift.{Keyless}
use denote.Memory.{lone}
use denote.Param.Send.{IsSend}
use denote.RawPtr.{Ptr}
use Rattle.libc.specs.Heap.{chunk-Keyless}
use Rattle.std_alloc.proofs.SendSync.{lies}
use Rattle.nio_c.proofs.kept.Kept.TheSendSync as kept
use Rattle.nio_c.specs.Holding.{Holding}
use Rattle.nio_c.specs.Owned.{handle_owns, holder_row}
use Rattle.nio_c.specs.contracts.handle.Handle.{the_row}

owned_keyless : (full : Bool) (at : Ptr) (holding : Holding) → Keyless (handle_owns full at holding)
owned_keyless true at holding = (lies holder_row kept.the_send at holding, chunk-Keyless (raw (lone holder_row.mir)) at)
owned_keyless false at holding = tt

pub send : IsSend the_row
send = record {
  owned = λ h vs. ((λ vss. (tt, (tt, (tt, tt)))), owned_keyless h.full h.at h.holder);
  leaving = λ k h vs. tt;
}
