-- A link in memory, as the net in memory sees it.
use Rattle.std.specs.Prelude.{◌≡◌, ℕ, ◌-◌, ◌==◌, nat_lt, min, Bool, true, false, if◌then◌else◌, Some, Result, Ok, Err}
use Rattle.std.specs.Prelude.{List}
use Rattle.std.specs.Prelude.{[], ◌∷◌, ◌++◌, length, take, bit_or}
use Rattle.nio_link.specs.Links.{Link}
use Rattle.nio_link.specs.Places.{is_same_channel}
use Rattle.nio_link.specs.Pieces.{got_of, pieces_after, buffer_after}
use Rattle.nio_link.specs.declared.memory.peer_no.PeerNo.{PeerNo}
use Rattle.nio_link.specs.declared.memory.peer_no.PeerNo.TheVariants as peer
use Rattle.nio_link.specs.declared.net.Failed.{Failed}
use Rattle.nio_link.specs.declared.net.Got.{Got}
use Rattle.nio_link.specs.declared.net.Got.TheVariants as got
use Rattle.nio_link.specs.declared.net.Put.{Put}
use Rattle.nio_link.specs.declared.net.Put.TheVariants as put

pub record LinkState : Type 0 where
  -- the peer whose end it is
  pub peer : PeerNo
  -- the pieces that reads are still to give, before the end
  pub pieces : List (List ℕ)
  -- what reads gave, and whether one told the end
  pub got : List ℕ
  pub ended : Bool
  -- what writes took, and whether this side was shut
  pub put : List ℕ
  pub shut : Bool
  -- how many bytes a write takes at most
  pub most : ℕ
  -- how many bytes writes take in all; the write after that fails
  pub limit : ℕ
  -- whether connecting fails
  pub fail_connect : Bool

-- what it has carried
abbrev pub carried : LinkState → Link
carried l = record { got = Some l.got; ended = Some l.ended; put = Some l.put; shut = Some l.shut }

-- nothing was carried
pub record IsFresh (l : LinkState) : Type 0 where
  pub got : l.got ≡ []
  pub ended : l.ended ≡ false
  pub put : l.put ≡ []
  pub shut : l.shut ≡ false

abbrev pub is_same_peer : PeerNo → PeerNo → Bool
is_same_peer (peer.Planned m) (peer.Planned n) = m == n
is_same_peer (peer.Planned m) (peer.PutIn c) = false
is_same_peer (peer.PutIn c) (peer.Planned n) = false
is_same_peer (peer.PutIn c) (peer.PutIn d) = is_same_channel c d

-- which operations a connected link is ready for
abbrev pub link_ready : Bool → Bool → ℕ
link_ready ended shut = bit_or (if ended then 0 else 1) (if shut then 0 else 4)

-- ---- reading

-- the bytes that reads gave, after a read that left the buffer so
abbrev pub got_after : Got → List ℕ → List ℕ → List ℕ
got_after (got.Bytes n) buffer before = before ++ take n buffer
got_after got.End buffer before = before
got_after got.NotYet buffer before = before

abbrev pub ended_after : Got → Bool → Bool
ended_after (got.Bytes n) before = before
ended_after got.End before = true
ended_after got.NotYet before = before

-- after a read into this buffer
abbrev pub link_after_read : LinkState → List ℕ → LinkState
link_after_read l buffer = record l {
  pieces = pieces_after l.pieces (length buffer);
  got = got_after (got_of l.pieces (length buffer)) (buffer_after l.pieces buffer) l.got;
  ended = ended_after (got_of l.pieces (length buffer)) l.ended;
}

-- ---- writing

-- what a write of so many bytes answers
abbrev pub put_of : LinkState → ℕ → Result Put Failed
put_of l count =
    if nat_lt (length l.put) l.limit then Ok (put.Bytes (min count (min l.most (l.limit - length l.put))))
    else Err (record {})

abbrev pub put_after : Result Put Failed → List ℕ → List ℕ → List ℕ
put_after (Ok (put.Bytes n)) bytes before = before ++ take n bytes
put_after (Ok put.NotYet) bytes before = before
put_after (Err failed) bytes before = before

-- after a write of these bytes
abbrev pub link_after_write : LinkState → List ℕ → LinkState
link_after_write l bytes = record l { put = put_after (put_of l (length bytes)) bytes l.put }

-- after writes of these bytes, one after the other
abbrev pub written : LinkState → List (List ℕ) → LinkState
written l [] = l
written l (bytes ∷ later) = written (link_after_write l bytes) later

-- ---- connecting

-- what finishing the connection answers
abbrev pub connect_answer : Bool → Result Bool Failed
connect_answer true = Err (record {})
connect_answer false = Ok true
