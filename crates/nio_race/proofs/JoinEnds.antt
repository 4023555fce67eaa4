-- The ends of the last pipe are taken from the racers and meet.
use Rattle.std.proofs.Common.{◌≡◌, ℕ, ◌<◌, ◌≤◌, ◌==◌, Bool, true, false, if◌then◌else◌, List, [], ◌∷◌, ◌++◌, length}
use Rattle.std.proofs.Common.{map}
use Rattle.std.specs.Prelude.{filter}
use Rattle.std.specs.List.{slice_index_or}
use Rattle.std.proofs.Common.{All, IsTrue, Some, refl, sym, ap, ◌∙◌, subst, ⊎_elim, append_assoc, eq-eqb, arith}
use Rattle.std.proofs.lemmas.Bool.{cases_lt}
use Rattle.std.proofs.lemmas.List.{append-nil, get_or_past, length-drop, length-map, map-append, same_from_push}
use Rattle.std.proofs.lemmas.List.Elements.{All-cons, All-nil, All-pop, filter-append}
use mathlib.Core.List.{IsPrefix}
use Rattle.nio_pipe.specs.Ends.{AreEnds, IsAtEnd, SinkLooks, SourceLooks, is_sealed, pipe_of, received, sent}
use Rattle.nio_pipe.specs.Pipe.{IsAtEnd as IsPipeAtEnd, IsLawful}
use Rattle.nio_pipe.specs.declared.sink.PipeSink.{PipeSink}
use Rattle.nio_pipe.specs.declared.source.PipeSource.{PipeSource}
use Rattle.nio_race.proofs.HaveEach.{same_later, same_self}
use Rattle.nio_race.specs.Ends.{ArePartedAmong, AreSameButEnds, HasMet, HaveMet, HaveEnds, HaveLast, HaveSinks}
use Rattle.nio_race.specs.Ends.{HaveSources, MeetsLast, PartedPipe, owners_of, sinks_at, sources_at}
use Rattle.nio_race.specs.declared.ends.Owners.{Owners}
use Rattle.nio_race.specs.declared.racer.Racer.{Racer}

-- ---- the last that is kept

pub kept_push : {X Y : Type 0} (test : X → Bool) (f : X → Y) (xs : List X) (x : X)
    → map f (filter test (xs ++ x ∷ [])) ≡ map f (filter test xs) ++ (if test x then f x ∷ [] else [])
kept_push {X = X} {Y = Y} test f xs x =
    ap (map f) (filter-append test xs (x ∷ []))
    ∙ (map-append f (filter test xs) (filter test (x ∷ []))
    ∙ ap (λ (ys : List Y). map f (filter test xs) ++ ys) (one (test x)))
  where
    one : (b : Bool) → map f (if b then x ∷ [] else []) ≡ (if b then f x ∷ [] else [])
    one true = refl
    one false = refl

popped : {Y : Type 0} (b : Bool) (old new xs : List Y) (s y : Y) → old ≡ new ++ (if b then s ∷ [] else [])
    → old ≡ xs ++ (if b then y ∷ [] else []) → new ≡ xs
popped true old new xs s y a b = (same_from_push new xs s y (sym a ∙ b)).0
popped false old new xs s y a b = sym (append-nil new) ∙ (sym a ∙ (b ∙ append-nil xs))

not_empty : {Y : Type 0} (xs : List Y) (y : Y) → [] ≡ xs ++ y ∷ [] → ⊥
not_empty [] y is = cc
not_empty (x ∷ xs) y is = cc

-- the owner's last end is this pipe's
last_source : (racers : List Racer) (earlier : List PartedPipe) (last : PartedPipe)
    → HaveEnds racers (earlier ++ last ∷ []) → sources_at racers last.owners.reader
    ≡ map (λ x. x.source) (filter (λ x. x.owners.reader.0 == last.owners.reader.0) earlier) ++ last.source ∷ []
last_source racers earlier last has_ends =
    let n = last.owners.reader in
    let before = map (λ (x : PartedPipe). x.source) (filter (λ (x : PartedPipe). x.owners.reader.0 == n.0) earlier) in
    has_ends.sources n
    ∙ (kept_push (λ (x : PartedPipe). x.owners.reader.0 == n.0) (λ (x : PartedPipe). x.source) earlier last
    ∙ ap (λ b. before ++ (if b then last.source ∷ [] else [])) (eq-eqb n.0 n.0 refl))

last_sink : (racers : List Racer) (earlier : List PartedPipe) (last : PartedPipe)
    → HaveEnds racers (earlier ++ last ∷ []) → sinks_at racers last.owners.writer
    ≡ map (λ x. x.sink) (filter (λ x. x.owners.writer.0 == last.owners.writer.0) earlier) ++ last.sink ∷ []
last_sink racers earlier last has_ends =
    let n = last.owners.writer in
    let before = map (λ (x : PartedPipe). x.sink) (filter (λ (x : PartedPipe). x.owners.writer.0 == n.0) earlier) in
    has_ends.sinks n
    ∙ (kept_push (λ (x : PartedPipe). x.owners.writer.0 == n.0) (λ (x : PartedPipe). x.sink) earlier last
    ∙ ap (λ b. before ++ (if b then last.sink ∷ [] else [])) (eq-eqb n.0 n.0 refl))

-- who has something is a racer
owner_races : {Y : Type 0} (f : Racer → List Y) (racers : List Racer) (n : ℕ) (xs : List Y) (y : Y)
    → slice_index_or (map f racers) n [] ≡ xs ++ y ∷ [] → n < length racers
owner_races f racers n xs y is = ⊎_elim
    (λ (below : n < length racers). below)
    (λ (past : length racers ≤ n). absurd (not_empty xs y
    (sym (get_or_past (map f racers) n [] (subst (λ (m : ℕ). m ≤ n) (sym (length-map racers f)) past)) ∙ is)))
    (cases_lt n (length racers))

pub reader_races : (racers : List Racer) (owners : Owners) → HaveLast racers owners
    → owners.reader.0 < length racers
reader_races racers owners at =
    subst (λ (o : Owners). o.reader.0 < length racers) (sym at.owners_are)
    (owner_races (λ (r : Racer). r.ends.sources.items) racers at.last.owners.reader.0 _ at.last.source
    (last_source racers at.earlier at.last at.has_ends))

pub writer_races : (racers : List Racer) (owners : Owners) → HaveLast racers owners
    → owners.writer.0 < length racers
writer_races racers owners at =
    subst (λ (o : Owners). o.writer.0 < length racers) (sym at.owners_are)
    (owner_races (λ (r : Racer). r.ends.sinks.items) racers at.last.owners.writer.0 _ at.last.sink
    (last_sink racers at.earlier at.last at.has_ends))

pub sink_there : (racers : List Racer) (owners : Owners) → HaveLast racers owners
    → sinks_at racers owners.writer ≡ [] → ⊥
sink_there racers owners at none =
    not_empty _ at.last.sink
    (sym (subst (λ (o : Owners). sinks_at racers o.writer ≡ []) at.owners_are none)
    ∙ last_sink racers at.earlier at.last at.has_ends)

-- ---- both are taken

module _ (racers mid after : List Racer) (source : PipeSource) (sink : PipeSink) (earlier : List PartedPipe)
    (last : PartedPipe) (has_ends : HaveEnds racers (earlier ++ last ∷ []))
    (first : HaveSources mid racers last.owners.reader (source ∷ []))
    (second : HaveSinks after mid last.owners.writer (sink ∷ [])) where
  source_is : last.source ≡ source
  source_is =
      let n = last.owners.reader in
      (same_from_push _ (sources_at mid n) last.source source
      (sym (last_source racers earlier last has_ends)
      ∙ (first.sources n ∙ ap (λ b. sources_at mid n ++ (if b then source ∷ [] else [])) (eq-eqb n.0 n.0 refl)))).1

  sink_is : last.sink ≡ sink
  sink_is =
      let n = last.owners.writer in
      (same_from_push _ (sinks_at after n) last.sink sink
      (sym (last_sink racers earlier last has_ends)
      ∙ (first.sinks n ∙ (second.sinks n
      ∙ ap (λ b. sinks_at after n ++ (if b then sink ∷ [] else [])) (eq-eqb n.0 n.0 refl))))).1

  pairs : All (λ x. AreEnds x.source x.sink) earlier × AreEnds last.source last.sink
  pairs =
      All-pop (λ (x : PartedPipe). AreEnds x.source x.sink) (earlier ++ last ∷ []) earlier (Some last) refl
      has_ends.pairs

  pub ends_of_last : AreEnds source sink
  ends_of_last =
      subst (λ (s : PipeSource). AreEnds s sink) source_is
      (subst (λ (k : PipeSink). AreEnds last.source k) sink_is pairs.1)

  pub have_earlier : HaveEnds after earlier
  have_earlier = record {
    sources = λ n. sym (second.sources n)
        ∙ popped (last.owners.reader.0 == n.0) (sources_at racers n) (sources_at mid n) _ source last.source
        (first.sources n)
        (has_ends.sources n
        ∙ kept_push (λ (x : PartedPipe). x.owners.reader.0 == n.0) (λ (x : PartedPipe). x.source) earlier last);
    sinks = λ n. popped (last.owners.writer.0 == n.0) (sinks_at mid n) (sinks_at after n) _ sink last.sink
        (second.sinks n)
        (sym (first.sinks n) ∙ (has_ends.sinks n
        ∙ kept_push (λ (x : PartedPipe). x.owners.writer.0 == n.0) (λ (x : PartedPipe). x.sink) earlier last));
    pairs = pairs.0;
  }

  -- they were looked at beside each other
  pub has_met : (source' : PipeSource) (sink' : PipeSink) → SourceLooks source source' → SinkLooks sink sink'
      → IsLawful (pipe_of source' sink') → (IsAtEnd source → IsPipeAtEnd (pipe_of source' sink')) → HasMet last
  has_met source' sink' source_looks sink_looks lawful told =
      let got : received source' ≡ received last.source =
      source_looks.received ∙ ap (λ (s : PipeSource). received s) (sym source_is) in
      let put : sent sink' ≡ sent last.sink = sink_looks.sent ∙ ap (λ (k : PipeSink). sent k) (sym sink_is) in
      let seal : is_sealed sink' ≡ is_sealed last.sink =
      sink_looks.seal ∙ ap (λ (k : PipeSink). is_sealed k) (sym sink_is) in
      record {
        in_order = subst (λ (xs : List ℕ). IsPrefix xs (sent last.sink)) got
            (subst (λ (xs : List ℕ). IsPrefix (received source') xs) put lawful.in_order);
        few = omega (
          arith,
          lawful.few_waiting,
          length-drop (length (received source')) (sent sink'),
          ap (λ (xs : List ℕ). length xs) got,
          ap (λ (xs : List ℕ). length xs) put,
        );
        whole = λ at. sym got ∙ ((told (subst IsAtEnd source_is at)).whole ∙ put);
        ended = λ at. subst (λ (b : Bool). IsTrue b) seal (told (subst IsAtEnd source_is at)).sealed;
      }

pub ends_meet : (racers mid after : List Racer) (owners : Owners) (source : PipeSource) (sink : PipeSink)
    → HaveLast racers owners → HaveSources mid racers owners.reader (source ∷ [])
    → HaveSinks after mid owners.writer (sink ∷ []) → AreEnds source sink
ends_meet racers mid after owners source sink at first second =
    ends_of_last racers mid after source sink at.earlier at.last at.has_ends
    (subst (λ (o : Owners). HaveSources mid racers o.reader (source ∷ [])) at.owners_are first)
    (subst (λ (o : Owners). HaveSinks after mid o.writer (sink ∷ [])) at.owners_are second)

pub meets_last : (racers mid after : List Racer) (owners : Owners) (source source' : PipeSource) (sink sink' : PipeSink)
    → HaveSources mid racers owners.reader (source ∷ [])
    → HaveSinks after mid owners.writer (sink ∷ [])
    → SourceLooks source source' → SinkLooks sink sink'
    → IsLawful (pipe_of source' sink') → (IsAtEnd source → IsPipeAtEnd (pipe_of source' sink'))
    → MeetsLast racers after owners
meets_last racers mid after owners source source' sink sink' first second source_looks sink_looks lawful told earlier
    last is has_ends =
    let first' = subst (λ (o : Owners). HaveSources mid racers o.reader (source ∷ [])) is first in
    let second' = subst (λ (o : Owners). HaveSinks after mid o.writer (sink ∷ [])) is second in (
      have_earlier racers mid after source sink earlier last has_ends first' second',
      has_met racers mid after source sink earlier last has_ends first' second' source' sink' source_looks
          sink_looks lawful
          told,
    )

-- no pipe is the last where an end is missing
pub none_to_meet : (racers after : List Racer) (owners : Owners)
    → (HaveLast racers owners → ⊥) → MeetsLast racers after owners
none_to_meet racers after owners none earlier last is has_ends =
    absurd (none (record { earlier = earlier; last = last; owners_are = is; has_ends = has_ends }))

-- ---- one pipe after the other, from the last

record IsSplit (front : List Owners) (o : Owners) (left : List PartedPipe) : Type 0 where
  pub earlier : List PartedPipe
  pub last : PartedPipe
  pub parts : left ≡ earlier ++ last ∷ []
  pub owner : o ≡ last.owners
  pub owners_are : front ≡ owners_of earlier

split_owners : (front : List Owners) (o : Owners) (left : List PartedPipe) → front ++ o ∷ [] ≡ owners_of left
    → IsSplit front o left
split_owners front o [] is = absurd (not_empty front o (sym is))
split_owners [] o (x ∷ []) is = record { earlier = []; last = x; parts = refl; owner = cc; owners_are = refl }
split_owners [] o (x ∷ y ∷ ys) is = absurd cc
split_owners (f ∷ front) o (x ∷ xs) is =
    let later : front ++ o ∷ [] ≡ owners_of xs = cc in
    let s = split_owners front o xs later in
    record {
      earlier = x ∷ s.earlier;
      last = s.last;
      parts = ap (λ (ys : List PartedPipe). x ∷ ys) s.parts;
      owner = s.owner;
      owners_are = let head : f ≡ x.owners = cc in let tail = s.owners_are in cc;
    }

-- These pipes are left: the ends of the others have met.
pub record AreLeft (racers : List Racer) (owners : List Owners) (parted : List PartedPipe) : Type 0 where
  pub left : List PartedPipe
  pub met : List PartedPipe
  pub parts : parted ≡ left ++ met
  pub owners_are : owners ≡ owners_of left
  pub has_ends : HaveEnds racers left
  pub have_met : All HasMet met

pub record IsJoining (first racers : List Racer) (all owners : List Owners) : Type 0 where
  pub among : ArePartedAmong racers owners
  pub rest : AreSameButEnds first racers
  pub left : (parted : List PartedPipe) → all ≡ owners_of parted → HaveEnds first parted
      → AreLeft racers owners parted

pub begins : (racers : List Racer) (owners : List Owners) → ArePartedAmong racers owners
    → IsJoining racers racers owners owners
begins racers owners among = record {
  among = among;
  rest = same_self racers;
  left = λ parted is has_ends. record {
    left = parted;
    met = [];
    parts = sym (append-nil parted);
    owners_are = is;
    has_ends = has_ends;
    have_met = All-nil HasMet;
  };
}

pub one_to_join : (first racers : List Racer) (all owners front : List Owners) (o : Owners)
    → IsJoining first racers all owners → owners ≡ front ++ o ∷ [] → HaveLast racers o
one_to_join first racers all owners front o at is =
    let s = split_owners front o at.among.parted (sym is ∙ at.among.owners_are) in
    record {
      earlier = s.earlier;
      last = s.last;
      owners_are = s.owner;
      has_ends = subst (λ (xs : List PartedPipe). HaveEnds racers xs) s.parts at.among.has_ends;
    }

pub one_joined : (first racers racers' : List Racer) (all owners front : List Owners) (o : Owners)
    → IsJoining first racers all owners → owners ≡ front ++ o ∷ [] → MeetsLast racers racers' o
    → AreSameButEnds racers racers' → IsJoining first racers' all front
one_joined first racers racers' all owners front o at is meets same =
    let s = split_owners front o at.among.parted (sym is ∙ at.among.owners_are) in
    record {
      among = record {
        parted = s.earlier;
        owners_are = s.owners_are;
        has_ends = (meets s.earlier s.last s.owner
            (subst (λ (xs : List PartedPipe). HaveEnds racers xs) s.parts at.among.has_ends)).0;
      };
      rest = same_later first racers racers' at.rest same;
      left = λ parted are has_ends.
          let there = at.left parted are has_ends in
          let t = split_owners front o there.left (sym is ∙ there.owners_are) in
          let now = meets t.earlier t.last t.owner
          (subst (λ (xs : List PartedPipe). HaveEnds racers xs) t.parts there.has_ends) in
          record {
            left = t.earlier;
            met = t.last ∷ there.met;
            parts =
                there.parts ∙ (ap (λ (xs : List PartedPipe). xs ++ there.met) t.parts
                ∙ append_assoc t.earlier (t.last ∷ []) there.met);
            owners_are = t.owners_are;
            has_ends = now.0;
            have_met = All-cons HasMet t.last there.met now.1 there.have_met;
          };
    }

none_left : (xs : List PartedPipe) → [] ≡ owners_of xs → xs ≡ []
none_left [] is = refl
none_left (x ∷ xs) is = absurd cc

pub all_joined : (first racers : List Racer) (all owners : List Owners) → IsJoining first racers all owners
    → owners ≡ [] → HaveMet first all
all_joined first racers all owners at none parted are has_ends =
    let there = at.left parted are has_ends in
    subst (λ (xs : List PartedPipe). All HasMet xs)
    (sym (there.parts ∙ ap (λ (xs : List PartedPipe). xs ++ there.met)
    (none_left there.left (sym none ∙ there.owners_are)))) there.have_met
