-- What contracts see of the two ends of a pipe.
use Rattle.std.specs.Prelude.{◌≡◌, ℕ, ◌≤◌, List, [], ◌++◌, length, take, drop, Bool, if◌then◌else◌, is_some, IsTrue}
use Rattle.std.specs.Prelude.{IsFalse, ◌<◌, ◌≢◌, ◌∷◌, Result, OnErr, is_ok, replicate}
use mathlib.Core.List.{IsPrefix}
use Rattle.rtrb.specs.Ring.{known_free, known_items, IsPair, SameConsumer, SameProducer}
use Rattle.rtrb.specs.Ring.{sent as pushed, received as popped}
use Rattle.nio_base.specs.declared.numbers.ChanId.{ChanId}
use Rattle.nio_steps.specs.declared.refusal.PipeError.{PipeError}
use Rattle.nio_pipe.specs.Counts.{count_known, known_of}
use Rattle.nio_pipe.specs.Pipe.{Pipe}
use Rattle.nio_pipe.specs.declared.answers.PipeRead.{PipeRead}
use Rattle.nio_pipe.specs.declared.answers.PipeWrite.{PipeWrite}
use Rattle.nio_pipe.specs.declared.sink.PipeSink.{PipeSink}
use Rattle.nio_pipe.specs.declared.source.PipeSource.{PipeSource}

-- ---- the source

-- its channel
abbrev pub source_chan : PipeSource → ChanId
source_chan source = source.chan

-- all bytes that were read from it, in order
abbrev pub received : PipeSource → List ℕ
received source = popped source.bytes

-- the bytes that it knows to wait: the next reads give them
abbrev pub known : PipeSource → List ℕ
known source = known_of source.to_end (known_items source.bytes)

-- it knows of the seal: no byte comes after the known ones
abbrev pub knows_end : PipeSource → Bool
knows_end source = is_some source.to_end

-- it knows of no waiting byte and of no seal
pub record KnowsNothing (source : PipeSource) : Type 0 where
  pub no_byte : known source ≡ []
  pub no_seal : IsFalse (knows_end source)

-- it knows of the seal, and has received every byte
pub record IsAtEnd (source : PipeSource) : Type 0 where
  pub sealed : IsTrue (knows_end source)
  pub no_byte : known source ≡ []

-- how much it knew after each of its tries to read, in their order; 0 is nothing
abbrev pub tries_to_read : PipeSource → List ℕ
tries_to_read source = source.tries

-- A read had to wait: its slice isn't empty, and the source knew nothing at the call's start. A refused one found
-- nothing while it waited.
pub record HadNoByte (old new : PipeSource) (slice : List ℕ) (answer : Result PipeRead PipeError) : Type 0 where
  pub room : 0 < length slice
  pub before : KnowsNothing old
  pub after : OnErr answer (KnowsNothing new)

-- A read of so many tries before the last, each of which left the source knowing nothing. Where the last one isn't
-- refused it is a try too.
pub record HasTriedToRead (old new : PipeSource) (slice : List ℕ) (answer : Result PipeRead PipeError)
    (before : ℕ) : Type 0 where
  pub had : before ≢ 0 → HadNoByte old new slice answer
  pub told : tries_to_read new ≡ tries_to_read old ++ (replicate before 0
      ++ (if is_ok answer then count_known new.to_end (known_items new.bytes) ∷ [] else []))

-- the same end of the same pipe
pub record IsSameSource (old new : PipeSource) : Type 0 where
  pub bytes : SameConsumer old.bytes new.bytes
  pub seals : SameConsumer old.seals new.seals
  pub channel : new.chan ≡ old.chan

-- the source has looked: it may know of more, unless it knew of the seal
pub record SourceLooks (old new : PipeSource) : Type 0 where
  pub same : IsSameSource old new
  pub received : received new ≡ received old
  pub end_stays : IsTrue (knows_end old) → IsTrue (knows_end new)
  pub no_more : IsTrue (knows_end old) → known new ≡ known old
  pub known : IsPrefix (known old) (known new)

-- a read that gave so many bytes: the next ones that wait, which now stand at the front of the slice. Where the
-- source knew of the seal they are of those that it knew, and the others stay known
pub record GivesBytes (old new : PipeSource) (before after : List ℕ) (given : ℕ) : Type 0 where
  pub fit : given ≤ length before
  pub received : received new ≡ received old ++ take given after
  pub rest : drop given after ≡ drop given before
  pub end_stays : IsTrue (knows_end old) → IsTrue (knows_end new)
  pub no_more : IsTrue (knows_end old) → known old ≡ take given after ++ known new
  pub known : IsPrefix (known old) (take given after ++ known new)

-- ---- the sink

-- its channel, and that of the source, at which it looks too
abbrev pub sink_chan : PipeSink → ChanId
sink_chan sink = sink.chan

abbrev pub other_chan : PipeSink → ChanId
other_chan sink = sink.source

-- all bytes that were written into it, in order
abbrev pub sent : PipeSink → List ℕ
sent sink = pushed sink.bytes

-- it has left its seal
abbrev pub is_sealed : PipeSink → Bool
is_sealed sink = sink.sealed

-- the places that it knows to be free in the ring: leaving its seal changes nothing of them
abbrev pub places : PipeSink → ℕ
places sink = known_free sink.bytes

-- those that it fills; none once it has left its seal, since it takes no more bytes then
abbrev pub free : PipeSink → ℕ
free sink = if is_sealed sink then 0 else places sink

-- how many places to fill it knew of after each of its tries to write, in their order
abbrev pub tries_to_write : PipeSink → List ℕ
tries_to_write sink = sink.tries

-- A write had to wait: its slice isn't empty, and the sink knew of no place to fill at the call's start. Where it is
-- refused then, also with its seal left, the sink knows of no free place in the ring.
pub record HadNoPlace (old new : PipeSink) (slice : List ℕ) (answer : Result PipeWrite PipeError) : Type 0 where
  pub bytes : 0 < length slice
  pub before : free old ≡ 0
  pub after : OnErr answer (IsFalse (is_sealed old) → places new ≡ 0)

-- A write of so many tries before the last, each of which left the sink with no place to fill. Where the last one
-- isn't refused it is a try too.
pub record HasTriedToWrite (old new : PipeSink) (slice : List ℕ) (answer : Result PipeWrite PipeError)
    (before : ℕ) : Type 0 where
  pub had : before ≢ 0 → HadNoPlace old new slice answer
  pub told : tries_to_write new ≡ tries_to_write old ++ (replicate before 0
      ++ (if is_ok answer then free new ∷ [] else []))

-- the same end of the same pipe
pub record IsSameSink (old new : PipeSink) : Type 0 where
  pub bytes : SameProducer old.bytes new.bytes
  pub seals : SameProducer old.seals new.seals
  pub channel : new.chan ≡ old.chan
  pub other : new.source ≡ old.source

-- the sink looked at the ring, or was looked at beside the source: it may know of more free places
pub record SinkLooks (old new : PipeSink) : Type 0 where
  pub same : IsSameSink old new
  pub sent : sent new ≡ sent old
  pub places : places old ≤ places new
  pub free : free old ≤ free new
  pub seal : is_sealed new ≡ is_sealed old

-- a write that took so many bytes from the front of the slice; none once the seal was left
pub record TakesBytes (old new : PipeSink) (slice : List ℕ) (taken : ℕ) : Type 0 where
  pub fit : taken ≤ length slice
  pub sent : sent new ≡ sent old ++ take taken slice
  pub ended : IsTrue (is_sealed old) → taken ≡ 0

-- ---- both

-- the two ends of one pipe
pub record AreEnds (source : PipeSource) (sink : PipeSink) : Type 0 where
  pub bytes : IsPair sink.bytes source.bytes
  pub seals : IsPair sink.seals source.seals
  pub channel : sink.source ≡ source.chan

-- the pipe, for a hand that has both ends
abbrev pub pipe_of : PipeSource → PipeSink → Pipe
pipe_of source sink =
    record {
      source = source.chan;
      sink = sink.chan;
      sent = sent sink;
      received = received source;
      sealed = is_sealed sink;
    }
