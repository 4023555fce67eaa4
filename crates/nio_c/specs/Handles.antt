-- What contracts see of a handle.
use Rattle.std.specs.Prelude.{◌≡◌, true, false}
use Rattle.nio_c.specs.Holding.{Holding}
use Rattle.nio_c.specs.declared.handle.Handle.{Handle}

-- this is behind the handle
pub record Has (handle : Handle) (holding : Holding) : Type 0 where
  pub full : handle.full ≡ true
  pub its : handle.holder ≡ holding

-- no caller is in the handle
abbrev pub IsEmpty : Handle → Type 0
IsEmpty handle = handle.full ≡ false
