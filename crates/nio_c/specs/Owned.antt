-- What a handle owns: a caller on the heap, as a `Box` does, or nothing.
use Rattle.std.specs.Prelude.{Bool, true, false}
use base.Fml.{Fml, ftrue}
use base.Stored.{Coded}
use denote.RattleType.{RattleType}
use denote.RawPtr.{Ptr}
use Rattle.libc.specs.Heap.{chunk}
use Rattle.std.specs.Box.Ownership.{box_owns}
use Rattle.nio_c.specs.Holding.{Holding}
use Rattle.nio_c.specs.contracts.kept.Kept as Kept

-- what is on the heap, as the logic has it
abbrev pub holder_row : RattleType
holder_row = Kept.the_row

abbrev pub holder_coded : Coded Holding
holder_coded = holder_row.coded

abbrev pub handle_owns : Bool → Ptr → Holding → Fml
handle_owns true at holding = box_owns chunk holder_row at holding
handle_owns false at holding = ftrue
