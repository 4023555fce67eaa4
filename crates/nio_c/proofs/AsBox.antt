-- The parts of a box own what the box owns.
use mir.Syntax.{impl, tnil, dnil}
use mathlib.Core.List.{[]}
use denote.Param.Laws.{Laws}
use denote.Signature.{Slot, plain}
use Rattle.std_alloc.proofs.BoxSteps.Form.{Bx}
use Rattle.std_heap.specs.contracts.Global as Heap
use Rattle.std_heap.specs.contracts.GlobalAllocator.TheImpl.{ghosts, dict}
use Rattle.std_heap.proofs.Global.TheLaws as heap
use Rattle.nio_c.proofs.kept.Kept.TheLaws as kept
use Rattle.nio_c.specs.Owned.{holder_row}
use Rattle.nio_c.specs.contracts.parts.Parts as Parts

pub holder_laws : Laws holder_row
holder_laws = kept.the_row_laws

abbrev pub E : Bx
E = record {
  row = holder_row;
  laws = holder_laws;
  al = record { row = Heap.the_row; laws = heap.the_row_laws; g = ghosts; d = dict; drops = impl [] tnil dnil };
}

abbrev pub FromParts : Slot 0
FromParts = plain (λ _. Parts.the_row holder_row Heap.the_row ghosts)
