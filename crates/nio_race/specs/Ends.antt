-- The ends of pipes that callers own behind `go`: from the parting of the pipes to the bringing together of their ends.
use Rattle.std.specs.Prelude.{◌≡◌, ◌≢◌, ℕ, ◌<◌, ◌≤◌, ◌+◌, ◌==◌, ◌++◌, ◌||◌, IsTrue, if◌then◌else◌, List, [], ◌∷◌}
use Rattle.std.specs.Prelude.{length, map, filter, All, AllPairs}
use Rattle.std.specs.List.{slice_index_or}
use mathlib.Core.List.{IsPrefix}
use Rattle.nio_base.specs.declared.limits.Limits.{Limits}
use Rattle.nio_base.specs.declared.numbers.CallerNo.{CallerNo}
use Rattle.nio_history.specs.PassViews.{HasChannel}
use Rattle.nio_language.specs.declared.reply.Reply.{Reply}
use Rattle.nio_pipe.specs.Calls.{HasEnds}
use Rattle.nio_pipe.specs.Ends.{AreEnds, IsAtEnd, IsSameSink, IsSameSource, is_sealed, other_chan, received, sent}
use Rattle.nio_pipe.specs.Ends.{sink_chan, source_chan, free, known, knows_end}
use Rattle.nio_pipe.specs.Making.{AreParts}
use Rattle.nio_pipe.specs.declared.sink.PipeSink.{PipeSink}
use Rattle.nio_pipe.specs.declared.source.PipeSource.{PipeSource}
use Rattle.nio_plain.specs.ScriptState.{Pipe}
use Rattle.nio_race_text.specs.declared.call.RaceCall.{RaceCall}
use Rattle.nio_sole.specs.declared.desk.Desk.{Desk}
use Rattle.nio_sole.specs.declared.desk.OwnedPipe.{OwnedPipe}
use Rattle.nio_steps.specs.PipeCalls.{PipeEnds}
use Rattle.nio_words.specs.Views.{view}
use Rattle.nio_words.specs.declared.words.Words.{Words}
use Rattle.nio_race.specs.PipeBytes.{TellsEnd, all_read, all_written, leave_seal}
use Rattle.nio_race.specs.PipeFinds.{Awaited, LinesFind, LinesTake, awaited_at_go, room_at_go}
use Rattle.nio_race.specs.Piping.{OwnedEnds}
use Rattle.nio_race.specs.declared.ends.OwnEnds.{OwnEnds}
use Rattle.nio_race.specs.declared.ends.Owners.{Owners}
use Rattle.nio_race.specs.declared.racer.Racer.{Racer}

-- ---- of one caller

abbrev pub ends_of_sink : PipeSink → PipeEnds
ends_of_sink sink = record { source = other_chan sink; sink = sink_chan sink }

-- which ends these are
abbrev pub ends_of : OwnEnds → OwnedEnds
ends_of ends = record { sources = map source_chan ends.sources.items; sinks = map ends_of_sink ends.sinks.items }

-- Their channels are made, as far as the desk's pass has seen, and no two of them have the same.
pub record HasMadeEnds (w : Words) (d : Desk) (ends : OwnEnds) : Type 0 where
  pub sources : All (λ source. HasChannel (view w d.pass) (source_chan source)) ends.sources.items
  pub sinks : All (λ sink. HasEnds (view w d.pass) (other_chan sink) (sink_chan sink)) ends.sinks.items
  pub sources_differ : AllPairs (λ a b. source_chan a ≢ source_chan b) ends.sources.items
  pub sinks_differ : AllPairs (λ a b. sink_chan a ≢ sink_chan b) ends.sinks.items

-- the source knows at least so much
pub record KnowsAwaited (source : PipeSource) (x : Awaited) : Type 0 where
  pub bytes : IsPrefix x.bytes (known source)
  pub sealed : IsTrue x.sealed → IsTrue (knows_end source)
  pub ended : IsTrue x.ended → IsAtEnd source

-- What lines with these replies do to a source that their caller owns. Once it is at its end it stays there.
pub record SourceGoesOn (lines : List (RaceCall × Reply)) (old new : PipeSource) : Type 0 where
  pub same : IsSameSource old new
  pub received : received new ≡ received old ++ all_read (source_chan old) lines
  pub tells_end : TellsEnd (source_chan old) lines → IsAtEnd new
  pub stays : IsAtEnd old → IsAtEnd new
  pub finds : (x : Awaited) → KnowsAwaited old x
      → (y : Awaited) × (LinesFind (source_chan old) lines x y × KnowsAwaited new y)

-- The same of a sink, which leaves its seal where the lines say so. Nothing is written behind the seal.
pub record SinkGoesOn (lines : List (RaceCall × Reply)) (old new : PipeSink) : Type 0 where
  pub same : IsSameSink old new
  pub sent : sent new ≡ sent old ++ all_written (sink_chan old) lines
  pub seal : is_sealed new ≡ (is_sealed old || leave_seal (sink_chan old) lines)
  pub ended : IsTrue (is_sealed old) → all_written (sink_chan old) lines ≡ []
  pub takes : (room : ℕ) → room ≤ free old
      → (left : ℕ) × (LinesTake (sink_chan old) lines room left × (left ≤ free new))

-- the relation holds of each two elements at one place, and the lists are as long
pub record AreEach {A B : Type 0} (R : A → B → Type 0) (xs : List A) (ys : List B) : Type 0 where
  pub count : length ys ≡ length xs
  pub each : (k : ℕ) (x : A) (y : B) → k < length xs → slice_index_or xs k x ≡ x → slice_index_or ys k y ≡ y → R x y

pub record EndsGoOn (lines : List (RaceCall × Reply)) (old new : OwnEnds) : Type 0 where
  pub sources : AreEach (SourceGoesOn lines) old.sources.items new.sources.items
  pub sinks : AreEach (SinkGoesOn lines) old.sinks.items new.sinks.items

-- ---- of all callers

-- a pipe in two hands: its owners and its ends
pub record PartedPipe : Type 0 where
  pub owners : Owners
  pub source : PipeSource
  pub sink : PipeSink

-- the racer has no end
pub record HasNoEnds (r : Racer) : Type 0 where
  pub sources : r.ends.sources.items ≡ []
  pub sinks : r.ends.sinks.items ≡ []

-- the racers are the same but for the ends that they have
abbrev pub AreSameButEnds : List Racer → List Racer → Type 0
AreSameButEnds before after = AreEach {A = Racer} {B = Racer} (λ r r'. r' ≡ record r { ends = r'.ends }) before after

-- what the caller's racer has
abbrev pub sources_at : List Racer → CallerNo → List PipeSource
sources_at racers n = slice_index_or (map (λ r. r.ends.sources.items) racers) n.0 []

abbrev pub sinks_at : List Racer → CallerNo → List PipeSink
sinks_at racers n = slice_index_or (map (λ r. r.ends.sinks.items) racers) n.0 []

-- The caller's racer has these sources too, behind those that it had. No other racer's ends change, and no sink.
pub record HaveSources (before after : List Racer) (caller : CallerNo) (more : List PipeSource) : Type 0 where
  pub sources : (n : CallerNo) → sources_at after n
      ≡ sources_at before n ++ (if caller.0 == n.0 then more else [])
  pub sinks : (n : CallerNo) → sinks_at after n ≡ sinks_at before n

-- the same of sinks
pub record HaveSinks (before after : List Racer) (caller : CallerNo) (more : List PipeSink) : Type 0 where
  pub sources : (n : CallerNo) → sources_at after n ≡ sources_at before n
  pub sinks : (n : CallerNo) → sinks_at after n
      ≡ sinks_at before n ++ (if caller.0 == n.0 then more else [])

-- Each racer has the ends that its caller owns of these pipes, in the order of the pipes, and no others.
pub record HaveEnds (racers : List Racer) (parted : List PartedPipe) : Type 0 where
  pub sources : (n : CallerNo)
      → sources_at racers n ≡ map (λ x. x.source) (filter (λ x. x.owners.reader.0 == n.0) parted)
  pub sinks : (n : CallerNo)
      → sinks_at racers n ≡ map (λ x. x.sink) (filter (λ x. x.owners.writer.0 == n.0) parted)
  pub pairs : All (λ x. AreEnds x.source x.sink) parted

abbrev pub owners_of : List PartedPipe → List Owners
owners_of parted = map (λ x. x.owners) parted

-- The pipes with these owners are parted, and the racers have their ends.
pub record ArePartedAmong (racers : List Racer) (owners : List Owners) : Type 0 where
  pub parted : List PartedPipe
  pub owners_are : owners ≡ owners_of parted
  pub has_ends : HaveEnds racers parted

-- ---- at `go`

-- The owners of each pipe are callers, and no two pipes have an end in common.
pub record ArePipes (l : Limits) (pipes : List Pipe) : Type 0 where
  pub owners : All (λ p. (p.reader.0 < l.callers) × (p.writer.0 < l.callers)) pipes
  pub sources_differ : AllPairs (λ p q. p.source ≢ q.source) pipes
  pub sinks_differ : AllPairs (λ p q. p.sink ≢ q.sink) pipes

-- The pipe was parted with the bytes that waited and with its seal. They count as sent, and none was read.
pub record IsPartedAs (p : Pipe) (x : PartedPipe) : Type 0 where
  pub reader : x.owners.reader ≡ p.reader
  pub writer : x.owners.writer ≡ p.writer
  pub source : source_chan x.source ≡ p.source
  pub sink : sink_chan x.sink ≡ p.sink
  pub none_received : received x.source ≡ []
  pub waiting : sent x.sink ≡ p.waiting
  pub seal : is_sealed x.sink ≡ p.sealed
  pub known : KnowsAwaited x.source (awaited_at_go p)
  pub room : room_at_go p ≤ free x.sink

-- A pipe was parted, and its ends came behind those that its owners' racers had.
pub record AddsParted (pipe : OwnedPipe) (before after : List Racer) (owners : Owners) : Type 0 where
  pub reader : owners.reader ≡ pipe.reader
  pub writer : owners.writer ≡ pipe.writer
  pub source : PipeSource
  pub sink : PipeSink
  pub parts : AreParts pipe.pipe source sink
  pub sources : (n : CallerNo) → sources_at after n
      ≡ sources_at before n ++ (if pipe.reader.0 == n.0 then source ∷ [] else [])
  pub sinks : (n : CallerNo) → sinks_at after n
      ≡ sinks_at before n ++ (if pipe.writer.0 == n.0 then sink ∷ [] else [])

-- each owner has a racer
pub record HasRacers (racers : List Racer) (pipe : OwnedPipe) : Type 0 where
  pub reader : pipe.reader.0 < length racers
  pub writer : pipe.writer.0 < length racers

-- the pipes of the setup were parted, in their order
pub record HaveParted (racers : List Racer) (owners : List Owners) (pipes : List Pipe) : Type 0 where
  pub among : ArePartedAmong racers owners
  pub each : AreEach IsPartedAs pipes among.parted

-- ---- at the end

-- The ends of a pipe met again. What was read begins what was written, and at most 65,536 bytes wait. Where the source
-- is at its end, all was read, and the sink has left its seal.
pub record HasMet (x : PartedPipe) : Type 0 where
  pub in_order : IsPrefix (received x.source) (sent x.sink)
  pub few : length (sent x.sink) ≤ length (received x.source) + 65536
  pub whole : IsAtEnd x.source → received x.source ≡ sent x.sink
  pub ended : IsAtEnd x.source → IsTrue (is_sealed x.sink)

-- These owners' pipe is the last one whose ends the racers have.
pub record HaveLast (racers : List Racer) (owners : Owners) : Type 0 where
  pub earlier : List PartedPipe
  pub last : PartedPipe
  pub owners_are : owners ≡ last.owners
  pub has_ends : HaveEnds racers (earlier ++ last ∷ [])

-- Its ends met, and the racers have those of the earlier ones.
abbrev pub MeetsLast : List Racer → List Racer → Owners → Type 0
MeetsLast before after owners =
    (earlier : List PartedPipe) (last : PartedPipe)
    → owners ≡ last.owners → HaveEnds before (earlier ++ last ∷ []) → HaveEnds after earlier × HasMet last

-- so it is with each pipe whose ends these racers have
abbrev pub HaveMet : List Racer → List Owners → Type 0
HaveMet racers owners =
    (parted : List PartedPipe) → owners ≡ owners_of parted → HaveEnds racers parted → All HasMet parted
