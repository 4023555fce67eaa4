-- What `go` leaves, once the racers have their ends of pipes.
use Rattle.std.proofs.Common.{◌≡◌, ◌≢◌, ℕ, ◌<◌, ◌==◌, List, length, All, get_or, map}
use Rattle.std.proofs.Common.{sym, ap, ◌∙◌, subst}
use Rattle.std.specs.Prelude.{AllPairs, filter}
use Rattle.std.specs.List.{AllZip}
use Rattle.std.proofs.lemmas.List.{get_or_default}
use Rattle.std.proofs.lemmas.List.Elements.{All-filter, All-map, All-weaker}
use Rattle.std.proofs.lemmas.List.Kept.{AllPairs-filter}
use Rattle.std.proofs.lemmas.Simd.{map-map}
use Rattle.nio_base.specs.declared.numbers.CallerNo.{CallerNo}
use Rattle.nio_base.specs.declared.numbers.ChanId.{ChanId}
use Rattle.nio_history.specs.PassViews.{HasChannel}
use Rattle.nio_history.specs.declared.event.Event.{Event}
use Rattle.nio_pipe.specs.Calls.{HasEnds}
use Rattle.nio_pipe.specs.Ends.{source_chan}
use Rattle.nio_plain.specs.ScriptState.{Pipe}
use Rattle.nio_serial.specs.Documented.{Progress}
use Rattle.nio_sole.proofs.Desks.{made_for}
use Rattle.nio_sole.specs.Stands.{AreMade, Stands, pipe_of, pipes_of, progress_of}
use Rattle.nio_sole.specs.declared.desk.Desk.{Desk}
use Rattle.nio_sole.specs.declared.desk.OwnedPipe.{OwnedPipe}
use Rattle.nio_steps.specs.PipeCalls.{PipeEnds}
use Rattle.nio_words.specs.Passes.{IsPassOf, limits_of, seen}
use Rattle.nio_words.specs.Views.{view}
use Rattle.nio_words.specs.declared.words.Words.{Words}
use Rattle.nio_race.proofs.HaveEach.{had_by}
use Rattle.nio_race.proofs.LineEnds.{map-none}
use Rattle.nio_race.proofs.PartKept.{all_of_map, each_to_zip, pairs_map, pairs_of_map, sinks_kept}
use Rattle.nio_race.proofs.PartKept.{sources_kept, zip_whole}
use Rattle.nio_race.specs.Ends.{ArePipes, AreSameButEnds, HasMadeEnds, HasNoEnds, HasRacers, HaveParted, HaveEnds}
use Rattle.nio_race.specs.Ends.{IsPartedAs, PartedPipe, ends_of, ends_of_sink}
use Rattle.nio_race.specs.Piping.{OwnedEnds, ends_of_pipe, own_ends}
use Rattle.nio_race.specs.SetOff.{AreRacers, AreSetOff, AreSetOffWithout, IsSetOffAt, IsSetOffWithout}
use Rattle.nio_race.specs.declared.ends.OwnEnds.{OwnEnds}
use Rattle.nio_race.specs.declared.ends.Owners.{Owners}
use Rattle.nio_race.specs.declared.racer.Racer.{Racer}

-- ---- before the pipes are parted

pub all_endless : (w : Words) (go : List Event) (now : Progress) (count : ℕ) (racers : List Racer)
    → AreSetOffWithout w go now count racers → All HasNoEnds racers
all_endless w go now count racers set_off k d below =
    (set_off.each k (get_or racers k d) (subst (λ (m : ℕ). k < m) set_off.count_is below)
    (get_or_default racers k (get_or racers k d) d below)).endless

pub all_have_racers : (w : Words) (go : List Event) (now : Progress) (racers : List Racer) (pipes : List OwnedPipe)
    → AreSetOffWithout w go now (limits_of w).callers racers → ArePipes (limits_of w) (pipes_of pipes)
    → All (HasRacers racers) pipes
all_have_racers w go now racers pipes set_off are =
    All-weaker (λ (x : OwnedPipe). (x.reader.0 < (limits_of w).callers) × (x.writer.0 < (limits_of w).callers))
    (HasRacers racers)
    (λ x below. record {
      reader = subst (λ (m : ℕ). x.reader.0 < m) (sym set_off.count_is) below.0;
      writer = subst (λ (m : ℕ). x.writer.0 < m) (sym set_off.count_is) below.1;
    }) pipes
    (all_of_map (λ (p : Pipe). (p.reader.0 < (limits_of w).callers) × (p.writer.0 < (limits_of w).callers)) pipe_of
    pipes are.owners)

-- ---- what a racer has

module _ (n : CallerNo) (ends : OwnEnds) (pipes : List Pipe) (parted : List PartedPipe)
    (zip : AllZip IsPartedAs pipes parted) (racers : List Racer) (has_ends : HaveEnds racers parted)
    (sources_are : ends.sources.items
    ≡ map (λ x. x.source) (filter (λ x. x.owners.reader.0 == n.0) parted))
    (sinks_are : ends.sinks.items ≡ map (λ x. x.sink) (filter (λ x. x.owners.writer.0 == n.0) parted)) where
  pub source_chans : map source_chan ends.sources.items ≡ (own_ends n pipes).sources
  source_chans =
      ap (map source_chan) sources_are
      ∙ (map-map source_chan (λ (x : PartedPipe). x.source)
      (filter (λ (x : PartedPipe). x.owners.reader.0 == n.0) parted)
      ∙ sources_kept n pipes parted zip)

  pub sink_chans : map ends_of_sink ends.sinks.items ≡ (own_ends n pipes).sinks
  sink_chans =
      ap (map ends_of_sink) sinks_are
      ∙ (map-map ends_of_sink (λ (x : PartedPipe). x.sink)
      (filter (λ (x : PartedPipe). x.owners.writer.0 == n.0) parted)
      ∙ sinks_kept n pipes parted (zip_whole pipes parted zip has_ends.pairs))

  pub ends_are : ends_of ends ≡ own_ends n pipes
  ends_are =
      ap {B = OwnedEnds} (λ (cs : List ChanId). record { sources = cs; sinks = map ends_of_sink ends.sinks.items })
      source_chans
      ∙ ap {B = OwnedEnds} (λ (es : List PipeEnds). record { sources = (own_ends n pipes).sources; sinks = es })
      sink_chans

  pub ends_made : (w : Words) (d : Desk) → All (λ p. HasEnds (view w d.pass) p.source p.sink) pipes
      → ArePipes (limits_of w) pipes → HasMadeEnds w d ends
  ends_made w d made are = record {
    sources = all_of_map (HasChannel (view w d.pass)) source_chan ends.sources.items
        (subst (λ (cs : List ChanId). All (HasChannel (view w d.pass)) cs) (sym source_chans)
        (All-map (HasChannel (view w d.pass)) (λ (p : Pipe). p.source) (filter (λ (p : Pipe). p.reader.0 == n.0) pipes)
        (All-filter (λ (p : Pipe). p.reader.0 == n.0) (λ (p : Pipe). HasChannel (view w d.pass) p.source) pipes
        (All-weaker (λ (p : Pipe). HasEnds (view w d.pass) p.source p.sink)
        (λ (p : Pipe). HasChannel (view w d.pass) p.source) (λ p has. has.source) pipes made))));
    sinks = all_of_map (λ (e : PipeEnds). HasEnds (view w d.pass) e.source e.sink) ends_of_sink ends.sinks.items
        (subst (λ (es : List PipeEnds). All (λ (e : PipeEnds). HasEnds (view w d.pass) e.source e.sink) es)
        (sym sink_chans)
        (All-map (λ (e : PipeEnds). HasEnds (view w d.pass) e.source e.sink) ends_of_pipe
        (filter (λ (p : Pipe). p.writer.0 == n.0) pipes)
        (All-filter (λ (p : Pipe). p.writer.0 == n.0) (λ (p : Pipe). HasEnds (view w d.pass) p.source p.sink) pipes
        made)));
    sources_differ = pairs_of_map (λ (a b : ChanId). a ≢ b) source_chan ends.sources.items
        (subst (λ (cs : List ChanId). AllPairs (λ (a b : ChanId). a ≢ b) cs) (sym source_chans)
        (pairs_map (λ (a b : ChanId). a ≢ b) (λ (p : Pipe). p.source)
        (filter (λ (p : Pipe). p.reader.0 == n.0) pipes)
        (AllPairs-filter (λ (p q : Pipe). p.source ≢ q.source) (λ (p : Pipe). p.reader.0 == n.0) pipes
        are.sources_differ)));
    sinks_differ = pairs_of_map (λ (a b : PipeEnds). a.sink ≢ b.sink) ends_of_sink ends.sinks.items
        (subst (λ (es : List PipeEnds). AllPairs (λ (a b : PipeEnds). a.sink ≢ b.sink) es) (sym sink_chans)
        (pairs_map (λ (a b : PipeEnds). a.sink ≢ b.sink) ends_of_pipe
        (filter (λ (p : Pipe). p.writer.0 == n.0) pipes)
        (AllPairs-filter (λ (p q : Pipe). p.sink ≢ q.sink) (λ (p : Pipe). p.writer.0 == n.0) pipes
        are.sinks_differ)));
  }

-- ---- once they are parted

set_off_with : (w : Words) (go : List Event) (now : Progress) (k : ℕ) (r : Racer) (ends : OwnEnds)
    → IsSetOffWithout w go now k r → HasMadeEnds w r.desk ends
    → ends_of ends ≡ own_ends (record { 0 = k }) now.pipes → IsSetOffAt w go now k (record r { ends = ends })
set_off_with w go now k r ends at made are = record {
  number = at.number;
  set_off = record {
    stands = record {
      stands = at.stands;
      made_ends = made;
      pipeless = map-none pipe_of r.desk.pipes.items (ap (λ (p : Progress). p.pipes) at.progress);
    };
    unanswered = at.unanswered;
    in_memory = at.in_memory;
  };
  sight = at.sight;
  progress = at.progress;
  ends = are;
}

pub all_set_off_with : (w : Words) (d : Desk) (racers racers' : List Racer) (owners : List Owners) → Stands w d
    → ArePipes (limits_of w) (progress_of d).pipes
    → AreSetOffWithout w (seen d.pass) (progress_of d) (limits_of w).callers racers
    → AreSameButEnds racers racers' → HaveParted racers' owners (progress_of d).pipes
    → AreSetOff w (seen d.pass) (progress_of d) (limits_of w).callers racers'
all_set_off_with w d racers racers' owners stands are set_off same parted = record {
  count_is = same.count ∙ set_off.count_is;
  each = λ k r' below is.
      let n : CallerNo = record { 0 = k } in
      let first : k < length racers = subst (λ (m : ℕ). k < m) (sym set_off.count_is) below in
      let there : k < length racers' = subst (λ (m : ℕ). k < m) (sym same.count) first in
      let r : Racer = get_or racers k r' in
      let r_is : get_or racers k r ≡ r = get_or_default racers k r r' first in
      let at : IsSetOffWithout w (seen d.pass) (progress_of d) k r = set_off.each k r below r_is in
      let pipes = (progress_of d).pipes in
      let has_ends = parted.among.has_ends in
      let zip : AllZip IsPartedAs pipes parted.among.parted =
      each_to_zip IsPartedAs pipes parted.among.parted parted.each in
      let sources = sym (had_by (λ (x : Racer). x.ends.sources.items) racers' k r' there (sym is))
      ∙ has_ends.sources n in
      let sinks = sym (had_by (λ (x : Racer). x.ends.sinks.items) racers' k r' there (sym is)) ∙ has_ends.sinks n in
      let made : AreMade (view w r.desk.pass) d.pipes.items =
      made_for w d.pass r.desk.pass d.pipes.items at.sight stands.places.pipes in
      subst (λ (x : Racer). IsSetOffAt w (seen d.pass) (progress_of d) k x)
      (sym (same.each k r r' first r_is is))
      (set_off_with w (seen d.pass) (progress_of d) k r r'.ends at
      (ends_made n r'.ends pipes parted.among.parted zip racers' has_ends sources sinks w r.desk
      (All-map (λ (p : Pipe). HasEnds (view w r.desk.pass) p.source p.sink) pipe_of d.pipes.items made) are)
      (ends_are n r'.ends pipes parted.among.parted zip racers' has_ends sources sinks));
}

-- their passes are as they were
pub passes_stay : (w : Words) (racers racers' : List Racer) → AreSameButEnds racers racers' → AreRacers w racers
    → AreRacers w racers'
passes_stay w racers racers' same are k d below =
    let first : k < length racers = subst (λ (m : ℕ). k < m) same.count below in
    let r : Racer = get_or racers k d in
    let r' : Racer = get_or racers' k d in
    subst (λ (x : Racer). IsPassOf w x.desk.pass)
    (sym (same.each k r r' first (get_or_default racers k r d first) (get_or_default racers' k r' d below)))
    (are k d first)
