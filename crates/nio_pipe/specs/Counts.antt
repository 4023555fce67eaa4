-- How the source of a pipe knows where its bytes end. The seal is the number of all bytes that the sink sent. Both
-- ends count modulo 2 ^ 64, which tells as much, since at most 65,536 bytes are on their way.
use Rattle.std.specs.Prelude.{◌≡◌, ℕ, suc, ◌+◌, ◌-◌, ◌%◌, ◌^◌, ◌≤◌, List, [], ◌∷◌, length, take, Bool, true, false}
use Rattle.std.specs.Prelude.{Option}
use Rattle.std.specs.Prelude.{Some, None}

-- how many bytes these are, modulo 2 ^ 64
abbrev pub count_of : List ℕ → ℕ
count_of bytes = length bytes % 2 ^ 64

-- the seals that a sink has left: at most one
abbrev pub seals_left : Bool → ℕ → List ℕ
seals_left false count = []
seals_left true count = count ∷ []

-- the seals that a source has taken: at most one
abbrev pub seals_taken : Option ℕ → List ℕ
seals_taken None = []
seals_taken (Some seal) = seal ∷ []

-- how many bytes are left up to this seal, where so many were counted
abbrev pub left_to : ℕ → ℕ → ℕ
left_to seal count = (seal + (2 ^ 64 - count)) % 2 ^ 64

-- the bytes that a source knows to wait, of those that it has seen in the ring: up to the seal, once it knows
-- how far that is
abbrev pub known_of : Option ℕ → List ℕ → List ℕ
known_of None items = items
known_of (Some to_end) items = take to_end items

-- how much a source knows: the bytes that it knows to wait, and the seal, once it knows how far that is
abbrev pub count_known : Option ℕ → List ℕ → ℕ
count_known None items = length items
count_known (Some to_end) items = suc (length (take to_end items))

-- a seal tells the number of bytes that were received and of those up to the end, all of which were seen
pub record IsReached (received items : List ℕ) (seal to_end : Option ℕ) : Type 0 where
  pub seen : (n : ℕ) → to_end ≡ Some n → n ≤ length items
  pub told : (n : ℕ) → to_end ≡ Some n → seal ≡ Some ((length received + n) % 2 ^ 64)
