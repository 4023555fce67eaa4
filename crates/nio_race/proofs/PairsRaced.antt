-- The pipes of a race after its threads: the ends of each went on by the lines of its owners, and they are still parted
-- among the racers.
use Rattle.std.proofs.Common.{◌≡◌, ℕ, ◌==◌, List, [], ◌∷◌, map, All, refl, sym, ap, ◌∙◌, subst, arith}
use Rattle.std.specs.Prelude.{filter}
use Rattle.nio_base.specs.declared.numbers.CallerNo.{CallerNo}
use Rattle.nio_language.specs.declared.reply.Reply.{Reply}
use Rattle.nio_pipe.proofs.Idle.{pair_read, pair_written}
use Rattle.nio_pipe.specs.Ends.{AreEnds}
use Rattle.nio_pipe.specs.declared.sink.PipeSink.{PipeSink}
use Rattle.nio_pipe.specs.declared.source.PipeSource.{PipeSource}
use Rattle.nio_race_text.specs.declared.call.RaceCall.{RaceCall}
use Rattle.nio_race.proofs.PairsLists.{each-nil, each-cons, each-same, each-all, front_if}
use Rattle.nio_race.proofs.PairsLists.{IsStep, map-front, step}
use Rattle.nio_race.specs.Ends.{AreEach, PartedPipe, SinkGoesOn, SourceGoesOn, owners_of}

-- the ends of these pipes that a caller owns
abbrev pub sources_of : CallerNo → List PartedPipe → List PipeSource
sources_of n parted = map (λ x. x.source) (filter (λ x. x.owners.reader.0 == n.0) parted)

abbrev pub sinks_of : CallerNo → List PartedPipe → List PipeSink
sinks_of n parted = map (λ x. x.sink) (filter (λ x. x.owners.writer.0 == n.0) parted)

-- Both ends of a pipe went on by the lines of their owners.
pub record PipeGoesOn (lines : CallerNo → List (RaceCall × Reply)) (x y : PartedPipe) : Type 0 where
  pub owners : y.owners ≡ x.owners
  pub source : SourceGoesOn (lines x.owners.reader) x.source y.source
  pub sink : SinkGoesOn (lines x.owners.writer) x.sink y.sink

-- Each pipe went on, and each caller has the ends that it owns.
pub record HaveGoneOn (lines : CallerNo → List (RaceCall × Reply)) (parted : List PartedPipe)
    (sources : CallerNo → List PipeSource) (sinks : CallerNo → List PipeSink) : Type 0 where
  pub after : List PartedPipe
  pub each : AreEach (PipeGoesOn lines) parted after
  pub sources_are : (n : CallerNo) → sources n ≡ sources_of n after
  pub sinks_are : (n : CallerNo) → sinks n ≡ sinks_of n after

none_left : {A B : Type 0} (R : A → B → Type 0) (ys : List B) → AreEach R [] ys → ys ≡ []
none_left R [] are = refl
none_left R (y ∷ ys) are = absurd (omega (arith, are.count))

abbrev at : ℕ → CallerNo
at k = record { 0 = k }

-- of the pipe x and others: its source, and what each caller has behind it
abbrev SourceStep : (CallerNo → List (RaceCall × Reply)) → PartedPipe → List PartedPipe → (CallerNo → List PipeSource)
    → Type 0
SourceStep lines x parted sources =
    IsStep (λ k. SourceGoesOn (lines (at k))) x.owners.reader.0 x.source (λ k. sources_of (at k) parted)
    (λ k. sources (at k))

abbrev SinkStep : (CallerNo → List (RaceCall × Reply)) → PartedPipe → List PartedPipe → (CallerNo → List PipeSink)
    → Type 0
SinkStep lines x parted sinks =
    IsStep (λ k. SinkGoesOn (lines (at k))) x.owners.writer.0 x.sink (λ k. sinks_of (at k) parted) (λ k. sinks (at k))

source_step : (lines : CallerNo → List (RaceCall × Reply)) (x : PartedPipe) (parted : List PartedPipe)
    (sources : CallerNo → List PipeSource)
    → ((n : CallerNo) → AreEach (SourceGoesOn (lines n)) (sources_of n (x ∷ parted)) (sources n))
    → SourceStep lines x parted sources
source_step lines x parted sources each =
    step (λ (k : ℕ). SourceGoesOn (lines (at k))) x.owners.reader.0 x.source (λ (k : ℕ). sources_of (at k) parted)
    (λ (k : ℕ). sources (at k))
    (λ (k : ℕ). subst (λ (xs : List PipeSource). AreEach (SourceGoesOn (lines (at k))) xs (sources (at k)))
    (map-front (λ (p : PartedPipe). p.source) (x.owners.reader.0 == k) x
    (filter (λ (p : PartedPipe). p.owners.reader.0 == k) parted)) (each (at k)))

sink_step : (lines : CallerNo → List (RaceCall × Reply)) (x : PartedPipe) (parted : List PartedPipe)
    (sinks : CallerNo → List PipeSink)
    → ((n : CallerNo) → AreEach (SinkGoesOn (lines n)) (sinks_of n (x ∷ parted)) (sinks n))
    → SinkStep lines x parted sinks
sink_step lines x parted sinks each =
    step (λ (k : ℕ). SinkGoesOn (lines (at k))) x.owners.writer.0 x.sink (λ (k : ℕ). sinks_of (at k) parted)
    (λ (k : ℕ). sinks (at k))
    (λ (k : ℕ). subst (λ (xs : List PipeSink). AreEach (SinkGoesOn (lines (at k))) xs (sinks (at k)))
    (map-front (λ (p : PartedPipe). p.sink) (x.owners.writer.0 == k) x
    (filter (λ (p : PartedPipe). p.owners.writer.0 == k) parted)) (each (at k)))

-- One pipe went on, and the others did.
one_more : (lines : CallerNo → List (RaceCall × Reply)) (x : PartedPipe) (parted : List PartedPipe)
    (sources : CallerNo → List PipeSource) (sinks : CallerNo → List PipeSink)
    (read : SourceStep lines x parted sources) (written : SinkStep lines x parted sinks)
    → HaveGoneOn lines parted (λ n. read.tails n.0) (λ n. written.tails n.0)
    → HaveGoneOn lines (x ∷ parted) sources sinks
one_more lines x parted sources sinks read written rest =
    let y : PartedPipe = record { owners = x.owners; source = read.head; sink = written.head } in
    record {
      after = y ∷ rest.after;
      each = each-cons (PipeGoesOn lines) x parted y rest.after
          (record { owners = refl; source = read.related; sink = written.related }) rest.each;
      sources_are = λ n.
          read.news_are n.0
          ∙ (ap (front_if (x.owners.reader.0 == n.0) read.head) (rest.sources_are n)
          ∙ sym (map-front (λ (p : PartedPipe). p.source) (x.owners.reader.0 == n.0) y
          (filter (λ (p : PartedPipe). p.owners.reader.0 == n.0) rest.after)));
      sinks_are = λ n.
          written.news_are n.0
          ∙ (ap (front_if (x.owners.writer.0 == n.0) written.head) (rest.sinks_are n)
          ∙ sym (map-front (λ (p : PartedPipe). p.sink) (x.owners.writer.0 == n.0) y
          (filter (λ (p : PartedPipe). p.owners.writer.0 == n.0) rest.after)));
    }

-- Where each caller's ends went on one by one, each pipe went on.
pub have_gone_on : (lines : CallerNo → List (RaceCall × Reply)) (parted : List PartedPipe)
    (sources : CallerNo → List PipeSource) (sinks : CallerNo → List PipeSink)
    → ((n : CallerNo) → AreEach (SourceGoesOn (lines n)) (sources_of n parted) (sources n))
    → ((n : CallerNo) → AreEach (SinkGoesOn (lines n)) (sinks_of n parted) (sinks n))
    → HaveGoneOn lines parted sources sinks
have_gone_on lines [] sources sinks each_source each_sink = record {
  after = [];
  each = each-nil (PipeGoesOn lines);
  sources_are = λ n. none_left (SourceGoesOn (lines n)) (sources n) (each_source n);
  sinks_are = λ n. none_left (SinkGoesOn (lines n)) (sinks n) (each_sink n);
}
have_gone_on lines (x ∷ parted) sources sinks each_source each_sink =
    let read = source_step lines x parted sources each_source in
    let written = sink_step lines x parted sinks each_sink in
    one_more lines x parted sources sinks read written
    (have_gone_on lines parted (λ (n : CallerNo). read.tails n.0) (λ (n : CallerNo). written.tails n.0)
    (λ (n : CallerNo). read.each n.0) (λ (n : CallerNo). written.each n.0))

-- the owners are the same
pub same_owners : (lines : CallerNo → List (RaceCall × Reply)) (parted after : List PartedPipe)
    → AreEach (PipeGoesOn lines) parted after → owners_of after ≡ owners_of parted
same_owners lines parted after each =
    each-same (PipeGoesOn lines) (λ (x : PartedPipe). x.owners) (λ (y : PartedPipe). y.owners) parted after
    (λ x y here. here.owners) each

-- two ends of one pipe stay those
pub still_pairs : (lines : CallerNo → List (RaceCall × Reply)) (parted after : List PartedPipe)
    → AreEach (PipeGoesOn lines) parted after → All (λ x. AreEnds x.source x.sink) parted
    → All (λ x. AreEnds x.source x.sink) after
still_pairs lines parted after each pairs =
    each-all (PipeGoesOn lines) (λ (x : PartedPipe). AreEnds x.source x.sink)
    (λ (y : PartedPipe). AreEnds y.source y.sink) parted after
    (λ x y pair here. pair_written here.sink.same (pair_read here.source.same pair)) each pairs
