-- The pieces in which the bytes of a link in memory come.
use Rattle.std.specs.Prelude.{ℕ, ◌+◌, min, List, [], ◌∷◌, ◌++◌, length, take, drop}
use Rattle.nio_link.specs.declared.net.Got.{Got}
use Rattle.nio_link.specs.declared.net.Got.TheVariants as got

-- what is left of the piece that was begun, if anything, and the later pieces
abbrev pub pieces_left : List ℕ → List (List ℕ) → List (List ℕ)
pieces_left [] later = later
pieces_left (byte ∷ rest) later = (byte ∷ rest) ∷ later

-- what a read answers that has room for so many bytes: it gives at most one piece
abbrev pub got_of : List (List ℕ) → ℕ → Got
got_of [] room = got.End
got_of ([] ∷ later) room = got.NotYet
got_of ((byte ∷ rest) ∷ later) room = got.Bytes (min room (length (byte ∷ rest)))

-- the pieces after it
abbrev pub pieces_after : List (List ℕ) → ℕ → List (List ℕ)
pieces_after [] room = []
pieces_after ([] ∷ later) room = later
pieces_after ((byte ∷ rest) ∷ later) room = pieces_left (drop room (byte ∷ rest)) later

-- what the piece puts at the front of the buffer, and what stays behind it
abbrev pub filled_by : List ℕ → List ℕ → List ℕ
filled_by piece buffer = take (length buffer) piece ++ drop (length piece) buffer

-- the buffer after the read
abbrev pub buffer_after : List (List ℕ) → List ℕ → List ℕ
buffer_after [] buffer = buffer
buffer_after (piece ∷ later) buffer = filled_by piece buffer

-- how many bytes the pieces have
abbrev pub total : List (List ℕ) → ℕ
total [] = 0
total (piece ∷ later) = length piece + total later

-- how many bytes a read gave
abbrev pub count_of : Got → ℕ
count_of (got.Bytes n) = n
count_of got.End = 0
count_of got.NotYet = 0

-- the piece of which the next read gives bytes
abbrev pub first_piece : List (List ℕ) → List ℕ
first_piece [] = []
first_piece (piece ∷ later) = piece

-- the bytes that a read into this buffer gives
abbrev pub given : List (List ℕ) → List ℕ → List ℕ
given pieces buffer = take (count_of (got_of pieces (length buffer))) (buffer_after pieces buffer)
