-- What links have carried.
use Rattle.std.specs.Prelude.{◌≡◌, ◌≢◌, ℕ, ◌≤◌, Bool, true, false, Option, option_map, IfSome, Result, Ok, Err, List}
use Rattle.std.specs.Prelude.{[], ◌++◌, length, take}
use Rattle.nio_link.specs.declared.net.Failed.{Failed}
use Rattle.nio_link.specs.declared.net.Got.{Got}
use Rattle.nio_link.specs.declared.net.Got.TheVariants as got
use Rattle.nio_link.specs.declared.net.Put.{Put}
use Rattle.nio_link.specs.declared.net.Put.TheVariants as put

-- What a link has carried, each part where the net shows it: the bytes that reads gave, in order, and whether a read
-- has told their end; the bytes that writes took, in order, and whether that side was shut.
pub record Link : Type 0 where
  pub got : Option (List ℕ)
  pub ended : Option Bool
  pub put : Option (List ℕ)
  pub shut : Option Bool

-- nothing was carried, as far as the net shows it
pub record IsUnused (l : Link) : Type 0 where
  pub got : IfSome l.got (λ bytes. bytes ≡ [])
  pub ended : IfSome l.ended (λ x. x ≡ false)
  pub put : IfSome l.put (λ bytes. bytes ≡ [])
  pub shut : IfSome l.shut (λ x. x ≡ false)

-- each name but this one has the same
abbrev pub IsSameBut : {K A : Type 0} → K → (K → A) → (K → A) → Type 0
IsSameBut {K = K} c before now = (k : K) → k ≢ c → now k ≡ before k

-- ---- reading

-- A read gives at least one byte, and no more than its buffer has room for. It puts them at the buffer's front, and may
-- change what lies behind them.
abbrev pub IsGot : List ℕ → Got → Type 0
IsGot buffer (got.Bytes n) = (1 ≤ n) × (n ≤ length buffer)
IsGot buffer got.End = Unit {0}
IsGot buffer got.NotYet = Unit {0}

-- after a read that left the buffer so
abbrev pub after_read : Result Got Failed → List ℕ → Link → Link
after_read (Ok (got.Bytes n)) buffer l = record l { got = option_map (λ bytes. bytes ++ take n buffer) l.got }
after_read (Ok got.End) buffer l = record l { ended = option_map (λ _. true) l.ended }
after_read (Ok got.NotYet) buffer l = l
after_read (Err failed) buffer l = l

-- ---- writing

abbrev pub IsPut : List ℕ → Put → Type 0
IsPut bytes (put.Bytes n) = (1 ≤ n) × (n ≤ length bytes)
IsPut bytes put.NotYet = Unit {0}

-- after a write of these bytes
abbrev pub after_write : Result Put Failed → List ℕ → Link → Link
after_write (Ok (put.Bytes n)) bytes l = record l { put = option_map (λ before. before ++ take n bytes) l.put }
after_write (Ok put.NotYet) bytes l = l
after_write (Err failed) bytes l = l

-- after shutting the side on which bytes are written
abbrev pub after_shut : Result (Unit {0}) Failed → Link → Link
after_shut (Ok done) l = record l { shut = option_map (λ _. true) l.shut }
after_shut (Err failed) l = l
