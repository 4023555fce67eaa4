-- What work on one direction of a connection does to a net.
use Rattle.std.specs.Prelude.{◌≡◌, ◌⊎◌, ℕ, ◌+◌, ◌*◌, ◌/◌, IsTrue, Result, Ok, Err, List, take}
use Rattle.nio_base.specs.declared.numbers.ChanId.{ChanId}
use Rattle.nio_base.specs.declared.numbers.ChanNo.{ChanNo}
use Rattle.nio_bytes.specs.Cause.{Rose}
use Rattle.nio_link.specs.Nets.{Members}
use Rattle.nio_link.specs.declared.net.Failed.{Failed}
use Rattle.nio_link.specs.declared.net.Got.{Got}
use Rattle.nio_link.specs.declared.net.Got.TheVariants as got
use Rattle.nio_link.specs.declared.net.Put.{Put}
use Rattle.nio_link.specs.declared.net.Put.TheVariants as put
use Rattle.nio_relay.specs.Flow.{Flow, ends, takes}
use Rattle.nio_base.specs.Ops.{is_within}
use Rattle.nio_serve.specs.Nets.{Works}
use Rattle.nio_serve.specs.declared.link.Told.{Told}
use Rattle.nio_serve.specs.Relaying.{KeepsSink, KeepsSource}

-- A direction that takes from the link a and writes to the link b has gone from f to g, and the net from x to y. What
-- the links have carried and what the direction has taken and written agree as before. The links stand as they did.
-- If a was ready for writing, it still is, and so is b for reading.
pub record Passes {N : Type 0} (n : Members N) (a b : ChanId) (f g : Flow) (x y : N) : Type 0 where
  pub work : Works n a b x y
  pub source : KeepsSource f g (n.link x a) (n.place x a) (n.link y a) (n.place y a)
  pub sink : KeepsSink f g (n.link x b) (n.place x b) (n.link y b) (n.place y b)
  pub places : (c : ChanId) → n.place y c ≡ n.place x c
  pub shut : g.shut ≡ f.shut
  pub write : IsTrue (is_within 4 (n.ready x a.number)) → IsTrue (is_within 4 (n.ready y a.number))
  pub read : IsTrue (is_within 1 (n.ready x b.number)) → IsTrue (is_within 1 (n.ready y b.number))

-- a direction that was told of a read into this buffer
abbrev pub flow_after_read : Result Got Failed → List ℕ → Flow → Flow
flow_after_read (Ok (got.Bytes n)) buffer f = takes f (take n buffer)
flow_after_read (Ok got.End) buffer f = ends f
flow_after_read (Ok got.NotYet) buffer f = f
flow_after_read (Err failed) buffer f = f

-- a read that gave bytes leaves a link as ready as it was
abbrev pub ReadyAfterGot : Got → ℕ → ℕ → Type 0
ReadyAfterGot (got.Bytes n) before now = now ≡ before
ReadyAfterGot got.End before now = Unit {0}
ReadyAfterGot got.NotYet before now = Unit {0}

-- so does a write that took bytes
abbrev pub ReadyAfterPut : Put → ℕ → ℕ → Type 0
ReadyAfterPut (put.Bytes n) before now = now ≡ before
ReadyAfterPut put.NotYet before now = Unit {0}

-- the two links of a connection are ready for what they were told
pub record AreToldReady (ready : ChanNo → ℕ) (told : Told) : Type 0 where
  pub client : IsTrue (is_within told.ops.client (ready told.links.client.number))
  pub target : IsTrue (is_within told.ops.target (ready told.links.target.number))

-- the count of faults of one of two links rose
abbrev pub OneRose : (ChanId → ℕ) → (ChanId → ℕ) → ChanId → ChanId → Type 0
OneRose before now a b = Rose (before a) (now a) ⊎ Rose (before b) (now b)

-- the counts of faults of two links are as they were
pub record BothSame (before now : ChanId → ℕ) (a b : ChanId) : Type 0 where
  pub first : now a ≡ before a
  pub second : now b ≡ before b

-- the first number after those of the slot to which this one belongs; after the listener's the first of all
abbrev pub number_after : ChanNo → ℕ
number_after c = 2 * ((c.0 + 1) / 2) + 1
